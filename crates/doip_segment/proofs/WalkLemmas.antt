-- The grammar alone as a machine, and the way that each spelling takes through it.
use Rattle.std.proofs.Common.{◌≡◌, ℕ, zero, suc, ◌+◌, ◌-◌, ◌*◌, ◌≤◌, ◌<◌, ◌⊎◌, inl, inr, List, [], ◌∷◌, ◌++◌, length, map, Bool, true, false, cond, None, refl, sym, ap, ◌∙◌, subst, arith, append_assoc, eqb, leb, ◌||◌, ◌&&◌}
use Rattle.std.specs.List.{flat_map, AllByRecursion}
use Rattle.std.proofs.lemmas.List.{append-nil}
use Rattle.std.proofs.lemmas.Bool.{lt-ltb}
use Rattle.doip_segment.specs.declared.kind.Kind.TheVariants as kinds
use Rattle.doip_segment.specs.declared.outcome.Reason.{Reason}
use Rattle.doip_segment.specs.declared.outcome.Reason.TheVariants as reasons
use Rattle.doip_segment.specs.declared.class.Class.{Class}
use Rattle.doip_segment.specs.declared.class.Class.TheVariants.{LineFeed, Blank, Hash, At, Digit, Other}
use Rattle.doip_segment.specs.declared.phase.Phase.{Phase}
use Rattle.doip_segment.specs.declared.phase.Phase.TheVariants.{Due, Text, LineStart, JsonEnd, BytesStart, ChunkDue, Digits, Padding, BytesEnd, MessageEnd, Whole, Stuck}
use Rattle.doip_segment.specs.Segments.{Segment, segment}
use Rattle.doip_segment.specs.Grammar.{IsBlank, IsWhite, IsDigit, value_after, value_of, ending, BeginsText, NoHash, IsText, IsLength, Chunk, IsChunk, chunk_bytes, content_of, Part, TextPart, BytesPart, IsPart, part_bytes, segment_of_part, IsSpelling}
use Rattle.doip_segment.specs.Machine.{class_of, data_due, next_phase, added, closed, kept}
use Rattle.doip_segment.proofs.ClassLemmas.{Classified, classified, classified_as, eq_tests}

-- what is read of a message, without the number of its bytes
pub record Core : Type 0 where
  pub segments : List Segment
  pub pending : List ℕ
  pub phase : Phase

abbrev pub core : List Segment → List ℕ → Phase → Core
core segments pending phase = record { segments = segments; pending = pending; phase = phase }

-- one byte, by its class
abbrev pub moved : Core → Class → ℕ → Core
moved s class b =
    let content = kept s.segments s.pending (closed s.phase class) (added s.phase class b) in
    record { segments = content.0; pending = content.1; phase = next_phase s.phase class }

abbrev pub walk : Core → List ℕ → Core
walk s [] = s
walk s (b ∷ bs) = walk (moved s (class_of b) b) bs

-- before the first byte
abbrev pub outset : Core
outset = core [] [] Due

pub walk-append : (s : Core) (xs ys : List ℕ) → walk s (xs ++ ys) ≡ walk (walk s xs) ys
walk-append s [] ys = refl
walk-append s (x ∷ xs) ys = walk-append (moved s (class_of x) x) xs ys

-- a byte whose class is known
pub walk_as : (s : Core) (b : ℕ) (c : Class) (bs : List ℕ) → class_of b ≡ c → walk s (b ∷ bs) ≡ walk (moved s c b) bs
walk_as s b c bs e = ap (λ x. walk (moved s x b) bs) e

pub blank_class : (b : ℕ) → IsBlank b → class_of b ≡ Blank
blank_class b (inl e) = ap class_of e
blank_class b (inr (inl e)) = ap class_of e
blank_class b (inr (inr e)) = ap class_of e

-- A phase in which a blank changes nothing.
pub record StaysOnBlank (p : Phase) : Type 0 where
  pub next : next_phase p Blank ≡ p
  pub shut : closed p Blank ≡ None
  pub none : (b : ℕ) → added p Blank b ≡ []

blank_step : (segments : List Segment) (pending : List ℕ) (p : Phase) (b : ℕ) → StaysOnBlank p → moved (core segments pending p) Blank b ≡ core segments pending p
blank_step segments pending p b stays =
    ap (λ o. core (kept segments pending o (added p Blank b)).0 (kept segments pending o (added p Blank b)).1 (next_phase p Blank)) stays.shut
    ∙ ap (λ x. core segments (pending ++ x) (next_phase p Blank)) (stays.none b)
    ∙ ap (λ x. core segments x (next_phase p Blank)) (append-nil pending)
    ∙ ap (core segments pending) stays.next

pub blanks_walk : (segments : List Segment) (pending : List ℕ) (p : Phase) (bs : List ℕ) → StaysOnBlank p → AllByRecursion IsBlank bs → walk (core segments pending p) bs ≡ core segments pending p
blanks_walk segments pending p [] stays all = refl
blanks_walk segments pending p (b ∷ bs) stays all =
    walk_as (core segments pending p) b Blank bs (blank_class b all.0)
    ∙ ap (λ s. walk s bs) (blank_step segments pending p b stays)
    ∙ blanks_walk segments pending p bs stays all.1

-- blanks and a line feed
ending_walk : (segments : List Segment) (pending : List ℕ) (p : Phase) (bs : List ℕ) → StaysOnBlank p → AllByRecursion IsBlank bs → walk (core segments pending p) (ending bs) ≡ moved (core segments pending p) LineFeed 10
ending_walk segments pending p bs stays all = walk-append (core segments pending p) bs (10 ∷ []) ∙ ap (λ s. walk s (10 ∷ [])) (blanks_walk segments pending p bs stays all)

pub json_end_stays : StaysOnBlank JsonEnd
json_end_stays = record { next = refl; shut = refl; none = λ b. refl }

pub bytes_start_stays : StaysOnBlank BytesStart
bytes_start_stays = record { next = refl; shut = refl; none = λ b. refl }

pub bytes_end_stays : StaysOnBlank BytesEnd
bytes_end_stays = record { next = refl; shut = refl; none = λ b. refl }

pub message_end_stays : StaysOnBlank MessageEnd
message_end_stays = record { next = refl; shut = refl; none = λ b. refl }

pub padding_stays : (v : ℕ) → StaysOnBlank (Padding v)
padding_stays v = record { next = refl; shut = refl; none = λ b. refl }

-- white bytes where a segment is due
white_class : (b : ℕ) → IsWhite b → (class_of b ≡ Blank) ⊎ (class_of b ≡ LineFeed)
white_class b (inl blank) = inl (blank_class b blank)
white_class b (inr e) = inr (ap class_of e)

pub white_walk : (segments : List Segment) (ws : List ℕ) → AllByRecursion IsWhite ws → walk (core segments [] Due) ws ≡ core segments [] Due
white_walk segments [] all = refl
white_walk segments (w ∷ ws) all =
    elim (white_class w all.0) [
      | inl e ↦ walk_as (core segments [] Due) w Blank ws e ∙ white_walk segments ws all.1
      | inr e ↦ walk_as (core segments [] Due) w LineFeed ws e ∙ white_walk segments ws all.1
    ]

-- where a line begins, a line feed waits
abbrev pub text_phase : Bool → Phase
text_phase true = LineStart
text_phase false = Text

abbrev pub waiting : Bool → List ℕ
waiting true = 10 ∷ []
waiting false = []

abbrev pub unless_feed : Bool → ℕ → List ℕ
unless_feed true b = []
unless_feed false b = b ∷ []

-- the content after text, without a line feed that waits
abbrev pub text_kept : Bool → List ℕ → List ℕ → List ℕ
text_kept line pending [] = pending
text_kept line pending (b ∷ bs) = text_kept (eqb b 10) (pending ++ (waiting line ++ unless_feed (eqb b 10) b)) bs

-- whether text ends at the beginning of a line
abbrev pub ends_line : Bool → List ℕ → Bool
ends_line line [] = line
ends_line line (b ∷ bs) = ends_line (eqb b 10) bs

abbrev pub is_feed : Class → Bool
is_feed LineFeed = true
is_feed _ = false

feed_by_tests : (t1 t2 t3 t4 t5 : Bool) (d : ℕ) → t1 ≡ is_feed (cond t1 LineFeed (cond t2 Blank (cond t3 Hash (cond t4 At (cond t5 (Digit d) Other)))))
feed_by_tests true t2 t3 t4 t5 d = refl
feed_by_tests false true t3 t4 t5 d = refl
feed_by_tests false false true t4 t5 d = refl
feed_by_tests false false false true t5 d = refl
feed_by_tests false false false false true d = refl
feed_by_tests false false false false false d = refl

class_feed : (b : ℕ) → eqb b 10 ≡ is_feed (class_of b)
class_feed b = feed_by_tests (eqb b 10) (eqb b 32 || eqb b 9 || eqb b 13) (eqb b 35) (eqb b 64) (leb 48 b && leb b 57) (b - 48)

-- one byte of text
pub text_step : (segments : List Segment) (pending : List ℕ) (line : Bool) (b : ℕ) (c : Class) → (c ≡ LineFeed → b ≡ 10) → (line ≡ true → c ≡ Hash → ⊥) → moved (core segments pending (text_phase line)) c b ≡ core segments (pending ++ (waiting line ++ unless_feed (is_feed c) b)) (text_phase (is_feed c))
text_step segments pending true b Hash is other = absurd (other refl refl)
text_step segments pending true b LineFeed is other = refl
text_step segments pending true b Blank is other = refl
text_step segments pending true b At is other = refl
text_step segments pending true b (Digit d) is other = refl
text_step segments pending true b Other is other = refl
text_step segments pending false b LineFeed is other = refl
text_step segments pending false b Hash is other = refl
text_step segments pending false b Blank is other = refl
text_step segments pending false b At is other = refl
text_step segments pending false b (Digit d) is other = refl
text_step segments pending false b Other is other = refl

pub text_walk : (segments : List Segment) (pending : List ℕ) (line : Bool) (text : List ℕ) → NoHash line text → walk (core segments pending (text_phase line)) text ≡ core segments (text_kept line pending text) (text_phase (ends_line line text))
text_walk segments pending line [] free = refl
text_walk segments pending line (b ∷ bs) free =
    let step = text_step segments pending line b (class_of b) (classified_as b LineFeed) (λ at is. free.0 at (classified_as b Hash is)) in
    let same = ap (λ t. core segments (pending ++ (waiting line ++ unless_feed t b)) (text_phase t)) (class_feed b) in
    ap (λ s. walk s bs) (step ∙ sym same)
    ∙ text_walk segments (pending ++ (waiting line ++ unless_feed (eqb b 10) b)) (eqb b 10) bs free.1

feed_back : (b : ℕ) (feed : Bool) (bs : List ℕ) → eqb b 10 ≡ feed → unless_feed feed b ++ (waiting feed ++ bs) ≡ b ∷ bs
feed_back b true bs e = ap (λ x. x ∷ bs) (sym (eq_tests b 10 e))
feed_back b false bs e = refl

-- no byte of text is lost
pub text_full : (pending : List ℕ) (line : Bool) (text : List ℕ) → text_kept line pending text ++ waiting (ends_line line text) ≡ pending ++ (waiting line ++ text)
text_full pending line [] = ap (λ x. pending ++ x) (sym (append-nil (waiting line)))
text_full pending line (b ∷ bs) =
    let feed = eqb b 10 in
    text_full (pending ++ (waiting line ++ unless_feed feed b)) feed bs
    ∙ append_assoc pending (waiting line ++ unless_feed feed b) (waiting feed ++ bs)
    ∙ ap (λ x. pending ++ x) (append_assoc (waiting line) (unless_feed feed b) (waiting feed ++ bs))
    ∙ ap (λ x. pending ++ (waiting line ++ x)) (feed_back b feed bs refl)

-- a class that begins text
begin_class : (b : ℕ) (c : Class) → Classified b c → BeginsText b → (segments : List Segment) → moved (core segments [] Due) c b ≡ core segments (b ∷ []) Text
begin_class b LineFeed k begins segments = absurd (begins.0 (inr k))
begin_class b Blank k begins segments = absurd (begins.0 (inl k))
begin_class b Hash k begins segments = absurd (begins.1 k)
begin_class b At k begins segments = absurd (begins.2 k)
begin_class b (Digit d) k begins segments = refl
begin_class b Other k begins segments = refl

not_true : (t : Bool) → (t ≡ true → ⊥) → t ≡ false
not_true true h = absurd (h refl)
not_true false h = refl

pub begins_line : (b : ℕ) → BeginsText b → eqb b 10 ≡ false
begins_line b begins = not_true (eqb b 10) (λ e. begins.0 (inr (eq_tests b 10 e)))

-- the text so far, from its first byte on
pub text_begins : (segments : List Segment) (b : ℕ) (bs : List ℕ) → BeginsText b → NoHash false (b ∷ bs) → walk (core segments [] Due) (b ∷ bs) ≡ core segments (text_kept false (b ∷ []) bs) (text_phase (ends_line false bs))
text_begins segments b bs begins free =
    let off = subst (λ t. NoHash t bs) (begins_line b begins) free.1 in
    ap (λ s. walk s bs) (begin_class b (class_of b) (classified b) begins segments) ∙ text_walk segments (b ∷ []) false bs off

-- a line feed and `#` after text
feed_then_hash : (segments : List Segment) (pending : List ℕ) (line : Bool) → walk (core segments pending (text_phase line)) (10 ∷ 35 ∷ []) ≡ core segments (pending ++ (waiting line ++ []) ++ []) JsonEnd
feed_then_hash segments pending true = refl
feed_then_hash segments pending false = refl

pub json_walk : (segments : List Segment) (text blanks : List ℕ) → IsText text → AllByRecursion IsBlank blanks → walk (core segments [] Due) (text ++ 10 ∷ 35 ∷ [] ++ ending blanks) ≡ core (segments ++ segment kinds.Json text ∷ []) [] Due
json_walk segments [] blanks is all = absurd is
json_walk segments (b ∷ bs) blanks is all =
    let at = core segments [] Due in
    let begun = text_begins segments b bs is.0 is.1 in
    let kept_ = text_kept false (b ∷ []) bs in
    let line = ends_line false bs in
    let whole : kept_ ++ (waiting line ++ []) ++ [] ≡ b ∷ bs = append-nil _ ∙ ap (λ x. kept_ ++ x) (append-nil (waiting line)) ∙ text_full (b ∷ []) false bs in
    walk-append at ((b ∷ bs) ++ 10 ∷ 35 ∷ []) (ending blanks)
    ∙ ap (λ s. walk s (ending blanks)) (walk-append at (b ∷ bs) (10 ∷ 35 ∷ []) ∙ ap (λ s. walk s (10 ∷ 35 ∷ [])) begun ∙ feed_then_hash segments kept_ line ∙ ap (λ p. core segments p JsonEnd) whole)
    ∙ ending_walk segments (b ∷ bs) JsonEnd blanks json_end_stays all

blank_low : (b : ℕ) → IsBlank b → 48 ≤ b → ⊥
blank_low b (inl e) low = omega (arith, e, low)
blank_low b (inr (inl e)) low = omega (arith, e, low)
blank_low b (inr (inr e)) low = omega (arith, e, low)

-- digits of a length
digit_class : (b : ℕ) (c : Class) → Classified b c → IsDigit b → c ≡ Digit (b - 48)
digit_class b LineFeed k is = absurd (omega (arith, k, is.0))
digit_class b Blank k is = absurd (blank_low b k is.0)
digit_class b Hash k is = absurd (omega (arith, k, is.0))
digit_class b At k is = absurd (omega (arith, k, is.1))
digit_class b (Digit d) k is = ap Digit k.2
digit_class b Other k is = absurd (elim k.6 [ inl low ↦ omega (arith, low, is.0) | inr high ↦ omega (arith, high, is.1) ])

digit_step : (segments : List Segment) (pending : List ℕ) (n v b : ℕ) → n < 10 → IsDigit b → moved (core segments pending (Digits n v)) (class_of b) b ≡ core segments pending (Digits (n + 1) (10 * v + (b - 48)))
digit_step segments pending n v b low is =
    ap (λ c. moved (core segments pending (Digits n v)) c b) (digit_class b (class_of b) (classified b) is)
    ∙ ap (λ t. core segments (pending ++ []) (cond t (Digits (n + 1) (10 * v + (b - 48))) (Stuck reasons.Length))) (lt-ltb n 10 low)
    ∙ ap (λ p. core segments p (Digits (n + 1) (10 * v + (b - 48)))) (append-nil pending)

pub digits_walk : (segments : List Segment) (pending : List ℕ) (n v : ℕ) (ds : List ℕ) → AllByRecursion IsDigit ds → n + length ds ≤ 10 → walk (core segments pending (Digits n v)) ds ≡ core segments pending (Digits (n + length ds) (value_after v ds))
digits_walk segments pending n v [] all most = let e : n ≡ n + 0 = omega arith in ap (λ k. core segments pending (Digits k v)) e
digits_walk segments pending n v (d ∷ ds) all most =
    let e : n + 1 + length ds ≡ n + length (d ∷ ds) = omega arith in
    ap (λ s. walk s ds) (digit_step segments pending n v d (omega arith) all.0)
    ∙ digits_walk segments pending (n + 1) (10 * v + (d - 48)) ds all.1 (omega arith)
    ∙ ap (λ k. core segments pending (Digits k (value_after (10 * v + (d - 48)) ds))) e

-- a length, from where a chunk is due
pub length_walk : (segments : List Segment) (pending ds : List ℕ) → IsLength ds → walk (core segments pending ChunkDue) ds ≡ core segments pending (Digits (length ds) (value_of ds))
length_walk segments pending [] is = absurd (omega (arith, is.some))
length_walk segments pending (d ∷ ds) is =
    let first = ap (λ c. moved (core segments pending ChunkDue) c d) (digit_class d (class_of d) (classified d) is.are_digits.0) in
    let most : 1 + length ds ≤ 10 = omega (arith, is.most) in
    let e : 1 + length ds ≡ length (d ∷ ds) = omega arith in
    let v : d - 48 ≡ 10 * 0 + (d - 48) = omega arith in
    ap (λ s. walk s ds) (first ∙ ap (λ p. core segments p (Digits 1 (d - 48))) (append-nil pending))
    ∙ digits_walk segments pending 1 (d - 48) ds is.are_digits.1 most
    ∙ ap (λ k. core segments pending (Digits k (value_after (d - 48) ds))) e
    ∙ ap (λ k. core segments pending (Digits (length (d ∷ ds)) (value_after k ds))) v

-- digits and blanks
abbrev pub length_phase : ℕ → ℕ → List ℕ → Phase
length_phase n v [] = Digits n v
length_phase n v (b ∷ bs) = Padding v

pub padding_walk : (segments : List Segment) (pending : List ℕ) (n v : ℕ) (bs : List ℕ) → AllByRecursion IsBlank bs → walk (core segments pending (Digits n v)) bs ≡ core segments pending (length_phase n v bs)
padding_walk segments pending n v [] all = refl
padding_walk segments pending n v (b ∷ bs) all =
    walk_as (core segments pending (Digits n v)) b Blank bs (blank_class b all.0)
    ∙ ap (λ p. walk (core segments p (Padding v)) bs) (append-nil pending)
    ∙ blanks_walk segments pending (Padding v) bs (padding_stays v) all.1

feed_after_length : (segments : List Segment) (pending : List ℕ) (n v : ℕ) (bs : List ℕ) → walk (core segments pending (length_phase n v bs)) (10 ∷ []) ≡ core segments pending (data_due v)
feed_after_length segments pending n v [] = ap (λ p. core segments p (data_due v)) (append-nil pending)
feed_after_length segments pending n v (b ∷ bs) = ap (λ p. core segments p (data_due v)) (append-nil pending)

-- data
pub data_walk : (segments : List Segment) (pending : List ℕ) (left : ℕ) (xs : List ℕ) → length xs ≤ left → walk (core segments pending (data_due left)) xs ≡ core segments (pending ++ xs) (data_due (left - length xs))
data_walk segments pending left [] within =
    let l : left ≡ left - 0 = omega arith in
    ap (λ p. core segments p (data_due left)) (sym (append-nil pending)) ∙ ap (λ n. core segments (pending ++ []) (data_due n)) l
data_walk segments pending zero (x ∷ xs) within = absurd (omega arith)
data_walk segments pending (suc left) (x ∷ xs) within =
    let less : suc left - 1 ≡ left = omega arith in
    let l : left - length xs ≡ suc left - length (x ∷ xs) = omega arith in
    ap (λ n. walk (core segments (pending ++ x ∷ []) (data_due n)) xs) less
    ∙ data_walk segments (pending ++ x ∷ []) left xs (omega arith)
    ∙ ap (λ p. core segments p (data_due (left - length xs))) (append_assoc pending (x ∷ []) xs)
    ∙ ap (λ n. core segments (pending ++ x ∷ xs) (data_due n)) l

-- a chunk's length and data, from where a chunk is due
pub chunk_opens : (segments : List Segment) (pending digits blanks content : List ℕ) → IsLength digits → AllByRecursion IsBlank blanks → length content ≤ value_of digits → walk (core segments pending ChunkDue) (digits ++ ending blanks ++ content) ≡ core segments (pending ++ content) (data_due (value_of digits - length content))
chunk_opens segments pending digits blanks content is all within =
    let at = core segments pending ChunkDue in
    walk-append at (digits ++ ending blanks) content
    ∙ ap (λ s. walk s content) (
    walk-append at digits (ending blanks)
    ∙ ap (λ s. walk s (ending blanks)) (length_walk segments pending digits is)
    ∙ walk-append (core segments pending (Digits (length digits) (value_of digits))) blanks (10 ∷ [])
    ∙ ap (λ s. walk s (10 ∷ [])) (padding_walk segments pending (length digits) (value_of digits) blanks all)
    ∙ feed_after_length segments pending (length digits) (value_of digits) blanks
    )
    ∙ data_walk segments pending (value_of digits) content within

pub chunk_walk : (segments : List Segment) (pending : List ℕ) (c : Chunk) → IsChunk c → walk (core segments pending ChunkDue) (chunk_bytes c) ≡ core segments (pending ++ c.content) ChunkDue
chunk_walk segments pending c is =
    let at = core segments pending ChunkDue in
    let within : length c.content ≤ value_of c.digits = omega (arith, is.size) in
    let left : value_of c.digits - length c.content ≡ 0 = omega (arith, is.size) in
    walk-append at (c.digits ++ ending c.blanks ++ c.content) (10 ∷ [])
    ∙ ap (λ s. walk s (10 ∷ [])) (chunk_opens segments pending c.digits c.blanks c.content is.is_length is.are_blank within ∙ ap (λ n. core segments (pending ++ c.content) (data_due n)) left)
    ∙ ap (λ p. core segments p ChunkDue) (append-nil (pending ++ c.content))

pub chunks_walk : (segments : List Segment) (pending : List ℕ) (cs : List Chunk) → AllByRecursion IsChunk cs → walk (core segments pending ChunkDue) (flat_map chunk_bytes cs) ≡ core segments (pending ++ flat_map content_of cs) ChunkDue
chunks_walk segments pending [] all = ap (λ p. core segments p ChunkDue) (sym (append-nil pending))
chunks_walk segments pending (c ∷ cs) all =
    walk-append (core segments pending ChunkDue) (chunk_bytes c) (flat_map chunk_bytes cs)
    ∙ ap (λ s. walk s (flat_map chunk_bytes cs)) (chunk_walk segments pending c all.0)
    ∙ chunks_walk segments (pending ++ c.content) cs all.1
    ∙ ap (λ p. core segments p ChunkDue) (append_assoc pending c.content (flat_map content_of cs))

-- a byte segment, up to where a chunk is due after whole chunks
pub bytes_opens : (segments : List Segment) (blanks : List ℕ) (cs : List Chunk) → AllByRecursion IsBlank blanks → AllByRecursion IsChunk cs → walk (core segments [] Due) (64 ∷ [] ++ ending blanks ++ flat_map chunk_bytes cs) ≡ core segments (flat_map content_of cs) ChunkDue
bytes_opens segments blanks cs all are =
    walk-append (core segments [] Due) (64 ∷ [] ++ ending blanks) (flat_map chunk_bytes cs)
    ∙ ap (λ s. walk s (flat_map chunk_bytes cs)) (ending_walk segments [] BytesStart blanks bytes_start_stays all)
    ∙ chunks_walk segments [] cs are

pub bytes_walk : (segments : List Segment) (blanks : List ℕ) (cs : List Chunk) (closing : List ℕ) → AllByRecursion IsBlank blanks → AllByRecursion IsChunk cs → AllByRecursion IsBlank closing → walk (core segments [] Due) (64 ∷ [] ++ ending blanks ++ flat_map chunk_bytes cs ++ 35 ∷ [] ++ ending closing) ≡ core (segments ++ segment kinds.Bytes (flat_map content_of cs) ∷ []) [] Due
bytes_walk segments blanks cs closing all are shut =
    let at = core segments [] Due in
    let content = flat_map content_of cs in
    walk-append at (64 ∷ [] ++ ending blanks ++ flat_map chunk_bytes cs ++ 35 ∷ []) (ending closing)
    ∙ ap (λ s. walk s (ending closing)) (
    walk-append at (64 ∷ [] ++ ending blanks ++ flat_map chunk_bytes cs) (35 ∷ [])
    ∙ ap (λ s. walk s (35 ∷ [])) (bytes_opens segments blanks cs all are)
    ∙ ap (λ p. core segments p BytesEnd) (append-nil content)
    )
    ∙ ending_walk segments content BytesEnd closing bytes_end_stays shut

pub part_walk : (segments : List Segment) (part : Part) → IsPart part → walk (core segments [] Due) (part_bytes part) ≡ core (segments ++ segment_of_part part ∷ []) [] Due
part_walk segments (TextPart white text blanks) is =
    let apart : part_bytes (TextPart white text blanks) ≡ white ++ (text ++ 10 ∷ 35 ∷ [] ++ ending blanks) = simp append_assoc in
    ap (walk (core segments [] Due)) apart
    ∙ walk-append (core segments [] Due) white (text ++ 10 ∷ 35 ∷ [] ++ ending blanks)
    ∙ ap (λ s. walk s (text ++ 10 ∷ 35 ∷ [] ++ ending blanks)) (white_walk segments white is.0)
    ∙ json_walk segments text blanks is.1 is.2
part_walk segments (BytesPart white blanks chunks closing) is =
    let inner = 64 ∷ [] ++ ending blanks ++ flat_map chunk_bytes chunks ++ 35 ∷ [] ++ ending closing in
    let apart : part_bytes (BytesPart white blanks chunks closing) ≡ white ++ inner = simp append_assoc in
    ap (walk (core segments [] Due)) apart
    ∙ walk-append (core segments [] Due) white inner
    ∙ ap (λ s. walk s inner) (white_walk segments white is.0)
    ∙ bytes_walk segments blanks chunks closing is.1 is.2 is.3

pub parts_walk : (segments : List Segment) (parts : List Part) → AllByRecursion IsPart parts → walk (core segments [] Due) (flat_map part_bytes parts) ≡ core (segments ++ map segment_of_part parts) [] Due
parts_walk segments [] all = ap (λ x. core x [] Due) (sym (append-nil segments))
parts_walk segments (part ∷ parts) all =
    walk-append (core segments [] Due) (part_bytes part) (flat_map part_bytes parts)
    ∙ ap (λ s. walk s (flat_map part_bytes parts)) (part_walk segments part all.0)
    ∙ parts_walk (segments ++ segment_of_part part ∷ []) parts all.1
    ∙ ap (λ x. core x [] Due) (append_assoc segments (segment_of_part part ∷ []) (map segment_of_part parts))

-- parts and white bytes
pub due_walk : (parts : List Part) (white : List ℕ) → AllByRecursion IsPart parts → AllByRecursion IsWhite white → walk outset (flat_map part_bytes parts ++ white) ≡ core (map segment_of_part parts) [] Due
due_walk parts white are all =
    walk-append outset (flat_map part_bytes parts) white
    ∙ ap (λ s. walk s white) (parts_walk [] parts are)
    ∙ white_walk (map segment_of_part parts) white all

-- the way of each spelling
pub spelling_walk : (bytes : List ℕ) (message : List Segment) → IsSpelling bytes message → walk outset bytes ≡ core message [] Whole
spelling_walk bytes message is =
    let segments = map segment_of_part is.parts in
    let prefix = flat_map part_bytes is.parts ++ is.white in
    ap (walk outset) is.spelled
    ∙ walk-append outset (prefix ++ 35 ∷ []) (ending is.blanks)
    ∙ ap (λ s. walk s (ending is.blanks)) (walk-append outset prefix (35 ∷ []) ∙ ap (λ s. walk s (35 ∷ [])) (due_walk is.parts is.white is.are_parts is.are_white))
    ∙ ending_walk segments [] MessageEnd is.blanks message_end_stays is.are_blank
    ∙ ap (λ x. core x [] Whole) (sym is.message_is)

-- a fault stays
pub stuck_walk : (segments : List Segment) (pending bytes : List ℕ) (reason : Reason) → (walk (core segments pending (Stuck reason)) bytes).phase ≡ Stuck reason
stuck_walk segments pending [] reason = refl
stuck_walk segments pending (b ∷ bs) reason = stuck_walk segments (pending ++ []) bs reason

-- a byte after a whole message is a fault
pub whole_walk : (segments : List Segment) (pending : List ℕ) (b : ℕ) (bytes : List ℕ) → (walk (core segments pending Whole) (b ∷ bytes)).phase ≡ Stuck reasons.Marker
whole_walk segments pending b bytes = stuck_walk segments (pending ++ []) bytes reasons.Marker
