-- A schema that asks nothing fails no value and makes no reference.
use Rattle.std.proofs.Common.{◌≡◌, ℕ, ◌+◌, List, [], None, refl}
use Rattle.doip_json.specs.Value.{Value, null, truth, whole, text, list, table, Values, no_values, value, Entries, no_entries, entry}
use Rattle.schema_core.specs.Rules.{plain}
use Rattle.schema_core.specs.FirstFailure.{first_failure, first_item, first_entry}
use Rattle.schema_core.specs.References.{references_in, entry_references}

no_entry_fails : (place : ℕ) (es : Entries) → first_entry plain place es ≡ None
no_entry_fails place no_entries = refl
no_entry_fails place (entry k v es) = no_entry_fails (place + 1) es

no_item_fails : (place : ℕ) (vs : Values) → first_item None place vs ≡ None
no_item_fails place no_values = refl
no_item_fails place (value v vs) = no_item_fails (place + 1) vs

pub nothing_fails : (v : Value) → first_failure plain v ≡ None
nothing_fails null = refl
nothing_fails (truth b) = refl
nothing_fails (whole z) = refl
nothing_fails (text s) = refl
nothing_fails (list vs) = no_item_fails 0 vs
nothing_fails (table es) = no_entry_fails 0 es

no_entry_refers : (names : List (List ℕ)) (es : Entries) → entry_references names plain es ≡ []
no_entry_refers names no_entries = refl
no_entry_refers names (entry k v es) = no_entry_refers names es

pub nothing_refers : (v : Value) → references_in plain v ≡ []
nothing_refers null = refl
nothing_refers (truth b) = refl
nothing_refers (whole z) = refl
nothing_refers (text s) = refl
nothing_refers (list vs) = refl
nothing_refers (table es) = no_entry_refers [] es
