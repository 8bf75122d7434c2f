-- Items and entries as plain lists, and back.
use Rattle.std.proofs.Common.{◌≡◌, ℕ, List, [], ◌∷◌, refl, ap}
use Rattle.doip_json.specs.Value.{Value, Values, no_values, value, Entries, no_entries, entry, values_from, entries_from, values_in, entries_in}

pub values_back : (vs : Values) → values_from (values_in vs) ≡ vs
values_back no_values = refl
values_back (value v vs) = ap (value v) (values_back vs)

pub values_listed : (vs : List Value) → values_in (values_from vs) ≡ vs
values_listed [] = refl
values_listed (v ∷ vs) = ap (λ (w : List Value). v ∷ w) (values_listed vs)

pub entries_back : (es : Entries) → entries_from (entries_in es) ≡ es
entries_back no_entries = refl
entries_back (entry k v es) = ap (entry k v) (entries_back es)

pub entries_listed : (es : List (List ℕ × Value)) → entries_in (entries_from es) ≡ es
entries_listed [] = refl
entries_listed (e ∷ es) = ap (λ (w : List (List ℕ × Value)). e ∷ w) (entries_listed es)
