-- Writing a prefix of the bytes, and then a prefix of the rest.
use Rattle.std.proofs.Common.{◌≡◌, ℕ, ◌+◌, ◌-◌, List, Option, length, take, drop, sym, ap, ◌∙◌, subst, length-drop}
use Rattle.std.proofs.Math.Seq.{take-add, take-length}
use Rattle.std.proofs.KnownBytes.{Appends-trans}
use Rattle.std.specs.Io.KnownBytes.{Appends}

-- the range from a place on is the rest from there
pub range_from_is : (at : ℕ) (bytes : List ℕ) → take (length bytes - at) (drop at bytes) ≡ drop at bytes
range_from_is at bytes =
    ap (λ (k : ℕ). take k (drop at bytes)) (sym (length-drop at bytes)) ∙ take-length (drop at bytes)

-- a longer prefix was written
pub prefix_grows : (a b c : Option (List ℕ)) (said n : ℕ) (bytes : List ℕ) →
    Appends a b (take said bytes) → Appends b c (take n (take (length bytes - said) (drop said bytes)))
    → Appends a c (take (said + n) bytes)
prefix_grows a b c said n bytes before more =
    let P : List ℕ → Type 0 = λ w. Appends a c w in
    let Q : List ℕ → Type 0 = λ w. Appends b c (take n w) in
    subst P (sym (take-add said n bytes))
    (Appends-trans a b c (take said bytes) (take n (drop said bytes)) before (subst Q (range_from_is said bytes) more))
