-- What many bytes do at once.
use Rattle.std.proofs.Common.{◌≡◌, ℕ, zero, suc, ◌+◌, ◌-◌, ◌≤◌, ◌<◌, List, [], ◌∷◌, ◌++◌, length, take, drop, true, refl, sym, ap, ◌∙◌, arith, append_assoc, length-append, eqb, get_or, eq-eqb}
use Rattle.std.proofs.lemmas.List.{append-nil, get_or-take, take_more, length-take-le}
use Rattle.std.proofs.Math.Seq.{take-add}
use Rattle.std.proofs.lemmas.Bool.{lt-leb, le-ltb}
use Rattle.doip_segment.specs.declared.class.Class.{Class}
use Rattle.doip_segment.specs.declared.class.Class.TheVariants.{LineFeed, Blank, Hash, At, Digit, Other}
use Rattle.doip_segment.specs.declared.outcome.Limits.{Limits}
use Rattle.doip_segment.specs.declared.phase.Phase.{Phase}
use Rattle.doip_segment.specs.declared.phase.Phase.TheVariants.{Text, LineStart, Data}
use Rattle.doip_segment.specs.Segments.{Segment}
use Rattle.doip_segment.proofs.ClassLemmas.{class_not_feed, eq_tests}
use Rattle.doip_segment.specs.Machine.{class_of, data_due, limit_fault, stepped_within, advanced, run, Reading}

-- a reading by its parts
abbrev pub reading_of : List Segment → List ℕ → Phase → ℕ → Reading
reading_of segments pending phase count = record { segments = segments; pending = pending; phase = phase; count = count }

pub run-append : (limits : Limits) (r : Reading) (xs ys : List ℕ) → run limits r (xs ++ ys) ≡ run limits (run limits r xs) ys
run-append limits r [] ys = refl
run-append limits r (x ∷ xs) ys = run-append limits (advanced limits r x) xs ys

-- text goes on
text_class : (limits : Limits) (segments : List Segment) (pending : List ℕ) (count b : ℕ) (class : Class) → count < limits.total → length pending ≤ limits.json → (class ≡ LineFeed → ⊥) → stepped_within (limit_fault limits (reading_of segments pending Text count) class) (reading_of segments pending Text count) class b ≡ reading_of segments (pending ++ b ∷ []) Text (count + 1)
text_class limits segments pending count b LineFeed room fits other = absurd (other refl)
text_class limits segments pending count b Blank room fits other = rw (lt-leb limits.total count room, le-ltb limits.json (length pending) fits) refl
text_class limits segments pending count b Hash room fits other = rw (lt-leb limits.total count room, le-ltb limits.json (length pending) fits) refl
text_class limits segments pending count b At room fits other = rw (lt-leb limits.total count room, le-ltb limits.json (length pending) fits) refl
text_class limits segments pending count b (Digit d) room fits other = rw (lt-leb limits.total count room, le-ltb limits.json (length pending) fits) refl
text_class limits segments pending count b Other room fits other = rw (lt-leb limits.total count room, le-ltb limits.json (length pending) fits) refl

-- none of the bytes is a line feed
abbrev pub NoLineFeed : List ℕ → Type 0
NoLineFeed [] = Unit {0}
NoLineFeed (b ∷ bs) = (b ≡ 10 → ⊥) × NoLineFeed bs

pub run-text : (limits : Limits) (segments : List Segment) (pending : List ℕ) (count : ℕ) (xs : List ℕ) → NoLineFeed xs → count + length xs ≤ limits.total → length pending + length xs ≤ limits.json + 1 → run limits (reading_of segments pending Text count) xs ≡ reading_of segments (pending ++ xs) Text (count + length xs)
run-text limits segments pending count [] none room fits =
    let e : count ≡ count + 0 = omega arith in
    ap (λ p. reading_of segments p Text count) (sym (append-nil pending)) ∙ ap (λ n. reading_of segments (pending ++ []) Text n) e
run-text limits segments pending count (b ∷ bs) none room fits =
    let one = text_class limits segments pending count b (class_of b) (omega arith) (omega arith) (class_not_feed b none.0) in
    let size : length (pending ++ b ∷ []) ≡ length pending + 1 = omega (arith, length-append pending (b ∷ [])) in
    let later = run-text limits segments (pending ++ b ∷ []) (count + 1) bs none.1 (omega arith) (omega (arith, size)) in
    let e : count + 1 + length bs ≡ count + length (b ∷ bs) = omega arith in
    ap (λ r. run limits r bs) one
    ∙ later
    ∙ ap (λ p. reading_of segments p Text (count + 1 + length bs)) (append_assoc pending (b ∷ []) bs)
    ∙ ap (λ n. reading_of segments (pending ++ b ∷ bs) Text n) e

-- a line ends
pub run-line : (limits : Limits) (segments : List Segment) (pending : List ℕ) (count : ℕ) (xs : List ℕ) → NoLineFeed xs → count + length xs + 1 ≤ limits.total → length pending + length xs ≤ limits.json → run limits (reading_of segments pending Text count) (xs ++ 10 ∷ []) ≡ reading_of segments (pending ++ xs) LineStart (count + length xs + 1)
run-line limits segments pending count xs none room fits =
    let text = run-text limits segments pending count xs none (omega arith) (omega arith) in
    let size : length (pending ++ xs) ≡ length pending + length xs = length-append pending xs in
    let low : count + length xs < limits.total = omega arith in
    let small : length (pending ++ xs) ≤ limits.json = omega (arith, size) in
    let last : run limits (reading_of segments (pending ++ xs) Text (count + length xs)) (10 ∷ []) ≡ reading_of segments ((pending ++ xs) ++ []) LineStart (count + length xs + 1) =
    rw (lt-leb limits.total (count + length xs) low, le-ltb limits.json (length (pending ++ xs)) small) refl in
    run-append limits (reading_of segments pending Text count) xs (10 ∷ [])
    ∙ ap (λ r. run limits r (10 ∷ [])) text
    ∙ last
    ∙ ap (λ p. reading_of segments p LineStart (count + length xs + 1)) (append-nil (pending ++ xs))

-- data of a chunk
data_one : (limits : Limits) (segments : List Segment) (pending : List ℕ) (count left b : ℕ) → count < limits.total → advanced limits (reading_of segments pending (Data left) count) b ≡ reading_of segments (pending ++ b ∷ []) (data_due (left - 1)) (count + 1)
data_one limits segments pending count left b room = rw (lt-leb limits.total count room) refl

pub run-data : (limits : Limits) (segments : List Segment) (pending : List ℕ) (count left : ℕ) (xs : List ℕ) → length xs ≤ left → count + length xs ≤ limits.total → run limits (reading_of segments pending (data_due left) count) xs ≡ reading_of segments (pending ++ xs) (data_due (left - length xs)) (count + length xs)
run-data limits segments pending count left [] within room =
    let e : count ≡ count + 0 = omega arith in
    let l : left ≡ left - 0 = omega arith in
    ap (λ p. reading_of segments p (data_due left) count) (sym (append-nil pending))
    ∙ ap (λ n. reading_of segments (pending ++ []) (data_due left) n) e
    ∙ ap (λ n. reading_of segments (pending ++ []) (data_due n) (count + 0)) l
run-data limits segments pending count zero (b ∷ bs) within room = absurd (omega arith)
run-data limits segments pending count (suc left) (b ∷ bs) within room =
    let one = data_one limits segments pending count (suc left) b (omega arith) in
    let less : suc left - 1 ≡ left = omega arith in
    let later = run-data limits segments (pending ++ b ∷ []) (count + 1) left bs (omega arith) (omega arith) in
    let e : count + 1 + length bs ≡ count + length (b ∷ bs) = omega arith in
    let l : left - length bs ≡ suc left - length (b ∷ bs) = omega arith in
    ap (λ r. run limits r bs) (one ∙ ap (λ n. reading_of segments (pending ++ b ∷ []) (data_due n) (count + 1)) less)
    ∙ later
    ∙ ap (λ p. reading_of segments p (data_due (left - length bs)) (count + 1 + length bs)) (append_assoc pending (b ∷ []) bs)
    ∙ ap (λ n. reading_of segments (pending ++ b ∷ bs) (data_due (left - length bs)) n) e
    ∙ ap (λ n. reading_of segments (pending ++ b ∷ bs) (data_due n) (count + length (b ∷ bs))) l

no_feed : (n : ℕ) (xs : List ℕ) → ((k : ℕ) → k < n → k < length xs → get_or xs k 0 ≡ 10 → ⊥) → NoLineFeed (take n xs)
no_feed zero xs none = tt
no_feed (suc n) [] none = tt
no_feed (suc n) (x ∷ xs) none = (none 0 (omega arith) (omega arith), no_feed n xs (λ k low within. none (suc k) (omega arith) (omega arith)))

-- what a search of the window shows of the bytes before a place
seen_before : (rest : List ℕ) (window end : ℕ) → end ≤ window → ((k : ℕ) → 0 ≤ k → k < end → eqb (get_or (take window rest) k 0) 10 ≡ true → ⊥) → NoLineFeed (take end rest)
seen_before rest window end le none =
    no_feed end rest (λ k low within is.
    none k (omega arith) low (
    let same : get_or (take window rest) k 0 ≡ get_or rest k 0 = get_or-take window rest k 0 (omega arith) in
    eq-eqb (get_or (take window rest) k 0) 10 (same ∙ is)
    )
    )

-- text up to the end of its line
pub text_ends : (limits : Limits) (r : Reading) (rest : List ℕ) (window end : ℕ) → r.phase ≡ Text → end < window → window ≤ length rest → ((k : ℕ) → 0 ≤ k → k < end → eqb (get_or (take window rest) k 0) 10 ≡ true → ⊥) → eqb (get_or (take window rest) end 0) 10 ≡ true → r.count + window ≤ limits.total → length r.pending + window ≤ limits.json + 1 → reading_of r.segments (r.pending ++ take end rest) LineStart (r.count + (end + 1)) ≡ run limits r (take (end + 1) rest)
text_ends limits r rest window end phase low fits none here room json =
    let at : get_or rest end 0 ≡ 10 = sym (get_or-take window rest end 0 low) ∙ eq_tests (get_or (take window rest) end 0) 10 here in
    let cut : take (end + 1) rest ≡ take end rest ++ 10 ∷ [] = take_more rest end 0 (omega arith) ∙ ap (λ b. take end rest ++ b ∷ []) at in
    let size : length (take end rest) ≡ end = length-take-le end rest (omega arith) in
    let line = run-line limits r.segments r.pending r.count (take end rest) (seen_before rest window end (omega arith) none) (omega (arith, size)) (omega (arith, size)) in
    let e : r.count + length (take end rest) + 1 ≡ r.count + (end + 1) = omega (arith, size) in
    sym (ap (run limits r) cut ∙ ap (λ p. run limits (reading_of r.segments r.pending p r.count) (take end rest ++ 10 ∷ [])) phase ∙ line ∙ ap (λ n. reading_of r.segments (r.pending ++ take end rest) LineStart n) e)

-- text without the end of its line
pub text_goes : (limits : Limits) (r : Reading) (rest : List ℕ) (window : ℕ) → r.phase ≡ Text → window ≤ length rest → ((k : ℕ) → 0 ≤ k → k < length (take window rest) → eqb (get_or (take window rest) k 0) 10 ≡ true → ⊥) → r.count + window ≤ limits.total → length r.pending + window ≤ limits.json + 1 → reading_of r.segments (r.pending ++ take window rest) Text (r.count + window) ≡ run limits r (take window rest)
text_goes limits r rest window phase fits none room json =
    let size : length (take window rest) ≡ window = length-take-le window rest fits in
    let free = seen_before rest window window (omega arith) (λ k low high. none k low (omega (arith, size))) in
    let text = run-text limits r.segments r.pending r.count (take window rest) free (omega (arith, size)) (omega (arith, size)) in
    sym (ap (λ p. run limits (reading_of r.segments r.pending p r.count) (take window rest)) phase ∙ text ∙ ap (λ n. reading_of r.segments (r.pending ++ take window rest) Text (r.count + n)) size)

due_left : (left : ℕ) → 0 < left → Data left ≡ data_due left
due_left zero low = absurd (omega arith)
due_left (suc left) low = refl

-- data, not past its end
pub data_goes : (limits : Limits) (r : Reading) (rest : List ℕ) (window left : ℕ) → r.phase ≡ Data left → 0 < left → window ≤ left → window ≤ length rest → r.count + window ≤ limits.total → reading_of r.segments (r.pending ++ take window rest) (data_due (left - window)) (r.count + window) ≡ run limits r (take window rest)
data_goes limits r rest window left phase low within fits room =
    let size : length (take window rest) ≡ window = length-take-le window rest fits in
    let data_ = run-data limits r.segments r.pending r.count left (take window rest) (omega (arith, size)) (omega (arith, size)) in
    sym (ap (λ p. run limits (reading_of r.segments r.pending p r.count) (take window rest)) (phase ∙ due_left left low) ∙ data_ ∙ ap (λ n. reading_of r.segments (r.pending ++ take window rest) (data_due (left - n)) (r.count + n)) size)

-- one run after another, over the parts of a piece
pub run_on : (limits : Limits) (r s t : Reading) (n m : ℕ) (piece rest : List ℕ) → n ≤ length piece → s ≡ run limits r (take n piece) → rest ≡ drop n piece → t ≡ run limits s (take m rest) → t ≡ run limits r (take (n + m) piece)
run_on limits r s t n m piece rest within first cut second =
    second
    ∙ ap (λ xs. run limits s (take m xs)) cut
    ∙ ap (λ x. run limits x (take m (drop n piece))) first
    ∙ sym (run-append limits r (take n piece) (take m (drop n piece)))
    ∙ ap (run limits r) (sym (take-add n m piece))
