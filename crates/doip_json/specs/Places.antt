-- Where a key is among entries that ascend, or where it would go. A private search is stated by these.
use Rattle.std.specs.Prelude.{◌≡◌, ℕ, ◌<◌, ◌≤◌, List, [], length, slice_index_or}
use Rattle.std.specs.Ordering.{nat_cmp}
use Rattle.std.specs.declared.cmp.Ordering.TheVariants.{Less, Greater}
use Rattle.std.specs.Cmp.Lexicographic.{slice_cmp}
use Rattle.doip_json.specs.Value.{Value, null}

-- the key of the entry at a place
abbrev pub key_of : List (List ℕ × Value) → ℕ → List ℕ
key_of es i = (slice_index_or es i ([], null)).0

-- the entry at place i has the key
pub record IsPlaceOf (k : List ℕ) (es : List (List ℕ × Value)) (i : ℕ) : Type 0 where
  pub within : i < length es
  pub has_key : key_of es i ≡ k

-- the keys before place i are lower, and those from it on are greater
pub record IsGapFor (k : List ℕ) (es : List (List ℕ × Value)) (i : ℕ) : Type 0 where
  pub within : i ≤ length es
  pub lower : (j : ℕ) → j < i → slice_cmp nat_cmp (key_of es j) k ≡ Less
  pub greater : (j : ℕ) → i ≤ j → j < length es → slice_cmp nat_cmp (key_of es j) k ≡ Greater
