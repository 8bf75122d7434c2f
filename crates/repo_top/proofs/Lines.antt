-- A line that is written from its end on.
use Rattle.std.proofs.Common.{◌≡◌, ◌≤◌, ◌<◌, ◌^◌, ℕ, List, [], ◌++◌, length, drop, decimal, ap, ◌∙◌, arith}
use Rattle.std.proofs.lemmas.Fmt.{length-decimal-le}
use Rattle.std.proofs.lemmas.List.{drop_all}

-- a number of 64 bits has at most 20 digits
pub short : (n : ℕ) → n < 2 ^ 64 → length (decimal n) ≤ 20
short n fits = length-decimal-le 20 n (omega arith) (omega (arith, fits)) fits

-- what stands at the end of the room
pub feed : (at : ℕ) (text line new : List ℕ) → length line ≤ 64 → drop at new ≡ text ++ drop 64 line → drop at new ≡ text ++ []
feed at text line new within is = is ∙ ap (λ (x : List ℕ). text ++ x) (drop_all 64 line within)
