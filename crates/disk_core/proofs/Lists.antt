-- A piece put into a file that was filled up with zeros first.
use Rattle.std.proofs.Common.{◌≡◌, ℕ, zero, suc, ◌+◌, ◌-◌, max, List, [], ◌∷◌, ◌++◌, length, take, drop, replicate, ◌∙◌, ap, arith, append_assoc}
use Rattle.std.proofs.lemmas.List.{append-nil, take_all, take-replicate, drop-replicate}
use Rattle.disk_core.specs.Disk.{written}

pub take-append : (n : ℕ) (xs ys : List ℕ) → take n (xs ++ ys) ≡ take n xs ++ take (n - length xs) ys
take-append zero xs ys = grind arith
take-append (suc n) [] ys = let same : suc n ≡ suc n - 0 = omega arith in ap (λ (k : ℕ). take k ys) same
take-append (suc n) (x ∷ xs) ys = ap (λ (l : List ℕ). x ∷ l) (take-append n xs ys) ∙ ap (λ (k : ℕ). x ∷ (take n xs ++ take k ys)) (omega arith)

pub drop-append : (n : ℕ) (xs ys : List ℕ) → drop n (xs ++ ys) ≡ drop n xs ++ drop (n - length xs) ys
drop-append zero xs ys = grind arith
drop-append (suc n) [] ys = let same : suc n ≡ suc n - 0 = omega arith in ap (λ (k : ℕ). drop k ys) same
drop-append (suc n) (x ∷ xs) ys = drop-append n xs ys ∙ ap (λ (k : ℕ). drop n xs ++ drop k ys) (omega arith)

pub written_filled : (place size : ℕ) (piece file : List ℕ) → size ≡ max (length file) (place + length piece)
    → take place (take size file ++ replicate (size - length file) 0) ++ (piece ++ drop (place + length piece) (take size file ++ replicate (size - length file) 0)) ≡ written place piece file
written_filled place size piece file is =
    let zeros : List ℕ = replicate (size - length file) 0 in
    let end : ℕ = place + length piece in
    let filled : take size file ++ zeros ≡ file ++ zeros = ap (λ (l : List ℕ). l ++ zeros) (take_all size file (omega arith)) in
    let prefix : take place (file ++ zeros) ≡ take place file ++ replicate (place - length file) 0 =
    take-append place file zeros ∙ ap (λ (l : List ℕ). take place file ++ l) (take-replicate (place - length file) (size - length file) 0 (omega arith)) in
    let none : (size - length file) - (end - length file) ≡ 0 = omega arith in
    let back : drop end (file ++ zeros) ≡ drop end file =
    drop-append end file zeros ∙ ap (λ (l : List ℕ). drop end file ++ l) (drop-replicate (end - length file) (size - length file) 0 ∙ ap (λ (k : ℕ). replicate k 0) none) ∙ append-nil (drop end file) in
    ap (λ (l : List ℕ). take place l ++ (piece ++ drop end l)) filled
    ∙ ap (λ (l : List ℕ). l ++ (piece ++ drop end (file ++ zeros))) prefix
    ∙ ap (λ (l : List ℕ). (take place file ++ replicate (place - length file) 0) ++ (piece ++ l)) back
    ∙ append_assoc (take place file) (replicate (place - length file) 0) (piece ++ drop end file)

-- the same, with the file's length under another name
pub written_filled_of : (place size long : ℕ) (piece file : List ℕ) → long ≡ length file → size ≡ max (length file) (place + length piece)
    → take place (take size file ++ replicate (size - long) 0) ++ (piece ++ drop (place + length piece) (take size file ++ replicate (size - long) 0)) ≡ written place piece file
written_filled_of place size long piece file same is =
    ap (λ (n : ℕ). take place (take size file ++ replicate (size - n) 0) ++ (piece ++ drop (place + length piece) (take size file ++ replicate (size - n) 0))) same
    ∙ written_filled place size piece file is
