-- A read copies the next n of the rest of the bytes to the beginning of a buffer.
use Rattle.std.proofs.Common.{◌≡◌, ℕ, ◌+◌, ◌-◌, ◌≤◌, List, ◌++◌, length, take, drop, sym, ◌∙◌, ap, arith}
use Rattle.std.proofs.Math.Seq.{take-add, take-append_seam}
use Rattle.std.proofs.lemmas.List.{take-append-drop, drop-drop, length-take-le}

-- the first bytes of the buffer
prefix_is : (n : ℕ) (x rest : List ℕ) → length x ≡ n → take n (x ++ rest) ≡ x
prefix_is n x rest e = ap (λ (k : ℕ). take k (x ++ rest)) (sym e) ∙ take-append_seam x rest

-- x is the next n bytes after the first g
pub record IsNext (g n : ℕ) (bytes x : List ℕ) : Type 0 where
  pub is : x ≡ take n (drop g bytes)
  pub long : length x ≡ n

-- the range from g to g + n of bytes that hold so many
pub next_range : (g n : ℕ) (bytes lent x : List ℕ) → x ≡ take (g + n - g) (drop g lent) → lent ≡ bytes →
    n ≤ length (drop g bytes) → IsNext g n bytes x
next_range g n bytes lent x range same enough =
    let count : g + n - g ≡ n = omega arith in
    let e : x ≡ take n (drop g bytes) =
    range ∙ ap (λ (k : ℕ). take k (drop g lent)) count ∙ ap (λ (w : List ℕ). take n (drop g w)) same in
    record { is = e; long = ap length e ∙ length-take-le n (drop g bytes) enough }

-- what was given grows by it
pub given_grows : (g n : ℕ) (bytes x rest : List ℕ) → IsNext g n bytes x →
    take (g + n) bytes ≡ take g bytes ++ take n (x ++ rest)
given_grows g n bytes x rest next =
    take-add g n bytes ∙ ap (λ (w : List ℕ). take g bytes ++ w) (sym next.is ∙ sym (prefix_is n x rest next.long))

-- the rest loses it
pub left_falls : (g n : ℕ) (bytes x rest : List ℕ) → IsNext g n bytes x →
    drop g bytes ≡ take n (x ++ rest) ++ drop (g + n) bytes
left_falls g n bytes x rest next =
    sym (take-append-drop n (drop g bytes))
    ∙ ap (λ (w : List ℕ). w ++ drop n (drop g bytes)) (sym next.is ∙ sym (prefix_is n x rest next.long))
    ∙ ap (λ (w : List ℕ). take n (x ++ rest) ++ w) (drop-drop n g bytes)
