-- The schema of a key, at the place of the key.
use Rattle.std.proofs.Common.{◌≡◌, ℕ, suc, ◌+◌, ◌<◌, ◌≤◌, List, [], ◌∷◌, length, get_or, Bor, Bool, true, false, cond, String, string_bytes, Option, None, Some, option_map, option_and_then, IfSome, MatchOption, nat_eq, refl, sym, ap, ◌∙◌, arith}
use Rattle.std.specs.Cmp.Lexicographic.{pointwise}
use Rattle.std.specs.List.{slice_get, position, position_from}
use Rattle.std.specs.declared.alloc.Global.{Global}
use Rattle.std.proofs.lemmas.Option.{slice_get_past, slice_get_read}
use Rattle.std.proofs.lemmas.Iterator.Adapters.{position_from-zero}
use Rattle.schema_core.specs.Rules.{Rules, schema_at}
use Rattle.schema_core.specs.Kept.{keyed}

-- the test for a text among keys
abbrev pub spells : List ℕ → String Global → Bool
spells t key = pointwise nat_eq t (string_bytes key)

-- what is read at the place of a key, where the keys and schemas are those from a place on
from_place : (t : List ℕ) (keys : List (String Global)) (rs : List Rules) (n : ℕ) (read : ℕ → Option Rules)
    → length keys ≡ length rs → ((i j : ℕ) → j ≡ n + i → read j ≡ slice_get rs i)
    → option_and_then read (position_from (spells t) n keys) ≡ schema_at t (keyed keys rs)
from_place t [] [] n read even at = refl
from_place t [] (r ∷ rs) n read even at = refl
from_place t (key ∷ keys) [] n read even at = absurd (omega arith)
from_place t (key ∷ keys) (r ∷ rs) n read even at =
    by (spells t key) (from_place t keys rs (n + 1) read (omega arith) (λ i j is. at (suc i) j (omega arith)))
  where
    by : (b : Bool) → option_and_then read (position_from (spells t) (n + 1) keys) ≡ schema_at t (keyed keys rs)
        → option_and_then read (cond b (Some n) (position_from (spells t) (n + 1) keys))
        ≡ cond b (Some r) (schema_at t (keyed keys rs))
    by true later = at 0 n (omega arith)
    by false later = later

-- the schema at the place of a key is that of the key
pub at_place : (t : List ℕ) (keys : List (String Global)) (rs : List Rules) → length keys ≡ length rs
    → option_and_then (slice_get rs) (position (spells t) keys) ≡ schema_at t (keyed keys rs)
at_place t keys rs even =
    ap (option_and_then (slice_get rs)) (position_from-zero (spells t) keys)
    ∙ from_place t keys rs 0 (slice_get rs) even (λ i j is. let here : j ≡ i = omega arith in ap (slice_get rs) here)

-- what a look at a place lends is what is read there
pub lent_at : {X : Type 0} (P : Bor X → Type 0) (xs : List X) (i : ℕ) (r : Option (Bor X))
    → IfSome r (λ x. x.now ≡ get_or xs i x.now) → MatchOption r (length xs ≤ i) (λ x. (i < length xs) × P x)
    → option_map (λ x. x.now) r ≡ slice_get xs i
lent_at P xs i None is there = sym (slice_get_past xs i there)
lent_at P xs i (Some x) is there = sym (slice_get_read xs (length xs) i x.now refl there.0 is)
