-- Lists of bytes: pieces written into them, and what a torn write leaves.
use Rattle.std.proofs.Common.{◌≡◌, ℕ, ◌+◌, ◌-◌, ◌≤◌, ◌<◌, min, inl, inr, List, [], ◌∷◌, ◌++◌, length, get_or, take, drop, replicate, refl, sym, ◌∙◌, ap, arith, append_assoc, length-append, length-take, length-drop, take-append-drop}
use Rattle.std.proofs.lemmas.Bool.{cases_lt}
use Rattle.std.proofs.lemmas.List.{length-replicate, take_at, drop_at, take_all, take-take, take-append-le, drop-drop, drop-take, drop_more}
use Rattle.std.proofs.Math.Seq.{take-append-add}
use Rattle.disk_core.specs.Disk.{written, Torn}

-- a piece that begins where a prefix ends
pub written_after : (prefix tail piece : List ℕ) (place : ℕ) → length prefix ≡ place → written place piece (prefix ++ tail) ≡ prefix ++ (piece ++ drop (length piece) tail)
written_after prefix tail piece place is =
    let long : length (prefix ++ tail) ≡ place + length tail = length-append prefix tail ∙ ap (λ (n : ℕ). n + length tail) is in
    let none : place - length (prefix ++ tail) ≡ 0 = omega (arith, long) in
    let back : drop (place + length piece) (prefix ++ tail) ≡ drop (length piece) tail =
    sym (drop-drop (length piece) place (prefix ++ tail)) ∙ ap (λ (l : List ℕ). drop (length piece) l) (drop_at prefix tail place is) in
    ap (λ (l : List ℕ). l ++ (replicate (place - length (prefix ++ tail)) 0 ++ (piece ++ drop (place + length piece) (prefix ++ tail)))) (take_at prefix tail place is)
    ∙ ap (λ (n : ℕ). prefix ++ (replicate n 0 ++ (piece ++ drop (place + length piece) (prefix ++ tail)))) none
    ∙ ap (λ (l : List ℕ). prefix ++ (piece ++ l)) back

-- bytes before a torn range that lies after a prefix
pub torn_keeps_prefix : (prefix tail image : List ℕ) (place n : ℕ) → length prefix ≤ place → Torn place n (prefix ++ tail) image → image ≡ prefix ++ drop (length prefix) image
torn_keeps_prefix prefix tail image place n le torn =
    let long : length (prefix ++ tail) ≡ length prefix + length tail = length-append prefix tail in
    let less : length prefix ≤ min place (length (prefix ++ tail)) = omega (arith, long) in
    let same : take (length prefix) image ≡ prefix =
    sym (take-take (length prefix) (min place (length (prefix ++ tail))) image less)
    ∙ ap (λ (l : List ℕ). take (length prefix) l) torn.before
    ∙ take-take (length prefix) place (prefix ++ tail) le
    ∙ take_at prefix tail (length prefix) refl in
    sym (take-append-drop (length prefix) image) ∙ ap (λ (l : List ℕ). l ++ drop (length prefix) image) same

-- one byte torn between a prefix and a tail
pub torn_byte : (prefix tail image : List ℕ) (old place : ℕ) → length prefix ≡ place → Torn place 1 (prefix ++ old ∷ tail) image
    → (byte : ℕ) × (image ≡ prefix ++ byte ∷ tail)
torn_byte prefix tail image old place is torn =
    let byte : ℕ = get_or image place 0 in
    let long : length (prefix ++ old ∷ tail) ≡ place + (1 + length tail) = omega (arith, length-append prefix (old ∷ tail), is) in
    let more : place < length image = omega (arith, long, torn.no_shorter) in
    let here : drop place image ≡ byte ∷ drop (place + 1) image = drop_more image place 0 more in
    let whole : prefix ++ old ∷ tail ≡ (prefix ++ old ∷ []) ++ tail = sym (append_assoc prefix (old ∷ []) tail) in
    let size : length (prefix ++ old ∷ []) ≡ place + 1 = omega (arith, length-append prefix (old ∷ []), is) in
    let after : drop (place + 1) image ≡ tail = torn.after ∙ ap (λ (l : List ℕ). drop (place + 1) l) whole ∙ drop_at (prefix ++ old ∷ []) tail (place + 1) size in
    let le : length prefix ≤ place = omega (arith, is) in
    let kept : image ≡ prefix ++ drop (length prefix) image = torn_keeps_prefix prefix (old ∷ tail) image place 1 le torn in
    (byte, kept ∙ ap (λ (k : ℕ). prefix ++ drop k image) is ∙ ap (λ (l : List ℕ). prefix ++ l) (here ∙ ap (λ (l : List ℕ). byte ∷ l) after))

-- a piece written right after another is written with it
pub written_more : (place : ℕ) (first second file : List ℕ) → written (place + length first) second (written place first file) ≡ written place (first ++ second) file
written_more place first second file =
    let gap : List ℕ = replicate (place - length file) 0 in
    let prefix : List ℕ = take place file ++ (gap ++ first) in
    let rest : List ℕ = drop (place + length first) file in
    let whole : written place first file ≡ prefix ++ rest =
    ap (λ (l : List ℕ). take place file ++ l) (sym (append_assoc gap first rest)) ∙ sym (append_assoc (take place file) (gap ++ first) rest) in
    let size : length prefix ≡ place + length first =
    omega (arith, length-take place file, length-append (take place file) (gap ++ first), length-append gap first, length-replicate {A = ℕ} (place - length file) 0) in
    let suffix : drop (length second) rest ≡ drop (place + length (first ++ second)) file =
    drop-drop (length second) (place + length first) file ∙ (let sum : (place + length first) + length second ≡ place + length (first ++ second) = omega (arith, length-append first second) in ap (λ (k : ℕ). drop k file) sum) in
    ap (λ (f : List ℕ). written (place + length first) second f) whole
    ∙ written_after prefix rest second (place + length first) size
    ∙ ap (λ (l : List ℕ). prefix ++ (second ++ l)) suffix
    ∙ append_assoc (take place file) (gap ++ first) (second ++ drop (place + length (first ++ second)) file)
    ∙ ap (λ (l : List ℕ). take place file ++ l) (append_assoc gap first (second ++ drop (place + length (first ++ second)) file)
    ∙ ap (λ (l : List ℕ). gap ++ l) (sym (append_assoc first second (drop (place + length (first ++ second)) file))))

-- a read joins what was read before it
pub read_more : (into sub suffix file : List ℕ) (filled count place : ℕ) → filled ≤ length into → count ≤ length sub → filled ≤ length (drop place file) → take filled into ≡ take filled (drop place file)
    → take count sub ≡ take count (drop (place + filled) file) → take (filled + count) (take filled into ++ (sub ++ suffix)) ≡ take (filled + count) (drop place file)
read_more into sub suffix file filled count place within fits inside before now =
    let size : length (take filled into) ≡ filled = omega (arith, length-take filled into) in
    let also : length (take filled (drop place file)) ≡ filled = omega (arith, length-take filled (drop place file)) in
    let cut : (first rest : List ℕ) → length first ≡ filled → take (filled + count) (first ++ rest) ≡ first ++ take count rest =
    λ first rest is. ap (λ (n : ℕ). take (n + count) (first ++ rest)) (sym is) ∙ take-append-add first rest count in
    cut (take filled into) (sub ++ suffix) size
    ∙ ap (λ (l : List ℕ). take filled into ++ l) (take-append-le count sub suffix fits ∙ now)
    ∙ ap (λ (l : List ℕ). l ++ take count (drop (place + filled) file)) before
    ∙ ap (λ (l : List ℕ). take filled (drop place file) ++ take count l) (sym (drop-drop filled place file))
    ∙ sym (cut (take filled (drop place file)) (drop filled (drop place file)) also)
    ∙ ap (λ (l : List ℕ). take (filled + count) l) (take-append-drop filled (drop place file))

-- a prefix is the same up to two lengths, if the list ends before the first
pub all_taken : (xs : List ℕ) (n m : ℕ) → n ≤ m → (n < m → length xs ≡ n) → take n xs ≡ take m xs
all_taken xs n m le ends = elim (cases_lt n m) [
  | inl less ↦ take_all n xs (omega (arith, ends less)) ∙ sym (take_all m xs (omega (arith, ends less, less)))
  | inr same ↦ (let is : n ≡ m = omega (arith, le, same) in ap (λ (k : ℕ). take k xs) is)
]

-- what a part of a piece of a file has
pub piece_read : (bytes file : List ℕ) (count start place skipped n : ℕ) → take count bytes ≡ take count (drop start file) → start + skipped ≡ place → skipped + n ≤ count
    → take n (take (count - skipped) (drop skipped bytes)) ≡ take n (drop place file)
piece_read bytes file count start place skipped n is at fits =
    let part : (xs : List ℕ) → take n (drop skipped xs) ≡ drop skipped (take (skipped + n) (take count xs)) = λ xs.
    sym (drop-take skipped n xs) ∙ ap (λ (l : List ℕ). drop skipped l) (sym (take-take (skipped + n) count xs fits)) in
    take-take n (count - skipped) (drop skipped bytes) (omega (arith, fits))
    ∙ part bytes ∙ ap (λ (l : List ℕ). drop skipped (take (skipped + n) l)) is ∙ sym (part (drop start file))
    ∙ ap (λ (l : List ℕ). take n l) (drop-drop skipped start file ∙ ap (λ (k : ℕ). drop k file) at)

-- a read that goes on after another, as far as it was asked or the file goes
pub read_on : (into sub suffix file : List ℕ) (kept count place : ℕ) → kept ≤ length into → count ≤ length sub → kept ≤ length (drop place file)
    → take kept into ≡ take kept (drop place file) → take count sub ≡ take (length sub) (drop (place + kept) file) → length suffix ≡ 0
    → take (kept + count) (take kept into ++ (sub ++ suffix)) ≡ take (length (take kept into ++ (sub ++ suffix))) (drop place file)
read_on into sub suffix file kept count place within fits inside before now none =
    let rest : ℕ = length (drop (place + kept) file) in
    let sizes : min count (length sub) ≡ min (length sub) rest = sym (length-take count sub) ∙ ap length now ∙ length-take (length sub) (drop (place + kept) file) in
    let whole : length (take kept into ++ (sub ++ suffix)) ≡ kept + length sub =
    omega (arith, length-append (take kept into) (sub ++ suffix), length-append sub suffix, length-take kept into, within, none) in
    let shorter : take count sub ≡ take count (drop (place + kept) file) =
    now ∙ sym (all_taken (drop (place + kept) file) count (length sub) fits (λ less. omega (arith, sizes, less))) in
    read_more into sub suffix file kept count place within fits inside before shorter
    ∙ all_taken (drop place file) (kept + count) (length (take kept into ++ (sub ++ suffix))) (omega (arith, whole, fits))
    (λ less. omega (arith, whole, sizes, less, fits, inside, length-drop (place + kept) file, length-drop place file))
