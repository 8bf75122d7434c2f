-- A value that was read nests as deep as what was parsed.
use Rattle.std.proofs.Common.{◌≡◌, suc, max, Option, Some, None, option_map, option_and_then, refl, ap, ap₂, ◌∙◌}
use Rattle.serde_json.specs.Data as parsed
use Rattle.serde_json.specs.Find.{as_integer}
use Rattle.doip_json.specs.Value.{Value, null, truth, whole, text, list, table, Values, no_values, value, Entries, no_entries, entry, depth_of, deepest_value, deepest_entry}
use Rattle.doip_json.specs.Read.{value_in, values_in, entries_in}

pub some_mapped : {A B : Type 0} (f : A → B) (o : Option A) (b : B) → option_map f o ≡ Some b → (a : A) × (o ≡ Some a) × (b ≡ f a)
some_mapped f None b e = absurd (cc)
some_mapped f (Some a) b e = (a, refl, cc)

pub some_paired : {A B C : Type 0} (f : A → B → C) (o : Option A) (p : Option B) (c : C) → option_and_then (λ a. option_map (f a) p) o ≡ Some c → (a : A) × (b : B) × (o ≡ Some a) × (p ≡ Some b) × (c ≡ f a b)
some_paired f None p c e = absurd (cc)
some_paired f (Some a) None c e = absurd (cc)
some_paired f (Some a) (Some b) c e = (a, b, refl, refl, cc)

mutual
  pub depth_of-value_in : (d : parsed.Data) (v : Value) → value_in d ≡ Some v → depth_of v ≡ parsed.depth d
  depth_of-value_in parsed.null v e = let is : v ≡ null = cc in ap depth_of is
  depth_of-value_in (parsed.boolean b) v e = let is : v ≡ truth b = cc in ap depth_of is
  depth_of-value_in (parsed.number n) v e = let some = some_mapped whole (as_integer n) v e in ap depth_of some.2
  depth_of-value_in (parsed.string s) v e = let is : v ≡ text s = cc in ap depth_of is
  depth_of-value_in (parsed.array ds) v e = let some = some_mapped list (values_in ds) v e in ap depth_of some.2 ∙ ap (λ n. suc n) (deepest_value-values_in ds some.0 some.1)
  depth_of-value_in (parsed.object ms) v e = let some = some_mapped table (entries_in ms) v e in ap depth_of some.2 ∙ ap (λ n. suc n) (deepest_entry-entries_in ms some.0 some.1)

  deepest_value-values_in : (ds : parsed.Items) (vs : Values) → values_in ds ≡ Some vs → deepest_value vs ≡ parsed.items_depth ds
  deepest_value-values_in parsed.no_items vs e = let is : vs ≡ no_values = cc in ap deepest_value is
  deepest_value-values_in (parsed.item d ds) vs e =
      let some = some_paired value (value_in d) (values_in ds) vs e in ap deepest_value some.4 ∙ ap₂ max (depth_of-value_in d some.0 some.2) (deepest_value-values_in ds some.1 some.3)

  deepest_entry-entries_in : (ms : parsed.Members) (es : Entries) → entries_in ms ≡ Some es → deepest_entry es ≡ parsed.members_depth ms
  deepest_entry-entries_in parsed.no_members es e = let is : es ≡ no_entries = cc in ap deepest_entry is
  deepest_entry-entries_in (parsed.member k d ms) es e =
      let some = some_paired (entry k) (value_in d) (entries_in ms) es e in ap deepest_entry some.4 ∙ ap₂ max (depth_of-value_in d some.0 some.2) (deepest_entry-entries_in ms some.1 some.3)
