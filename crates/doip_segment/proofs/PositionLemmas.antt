-- Places in the grammar, by the bytes before them and by the machine.
use Rattle.std.proofs.Common.{◌≡◌, ◌≢◌, ℕ, ◌+◌, ◌-◌, ◌≤◌, inl, inr, List, [], ◌∷◌, ◌++◌, length, map, Bool, true, false, refl, sym, ap, ◌∙◌, subst, arith, append_assoc, length-append, eqb}
use Rattle.std.specs.List.{flat_map, AllByRecursion}
use Rattle.std.proofs.lemmas.List.{append-nil, length-map, same_from_push, length-replicate}
use Rattle.std.proofs.lemmas.Bool.{lt-ltb, le-leb}
use Rattle.std.specs.Prelude.{replicate}
use Rattle.doip_segment.specs.declared.outcome.Limits.{Limits}
use Rattle.doip_segment.specs.declared.class.Class.{Class}
use Rattle.doip_segment.specs.declared.class.Class.TheVariants.{LineFeed, Blank, Hash, At, Digit, Other}
use Rattle.doip_segment.specs.declared.phase.Phase.{Phase}
use Rattle.doip_segment.specs.declared.phase.Phase.TheVariants.{Due, Text, LineStart, JsonEnd, BytesStart, ChunkDue, Digits, Padding, Data, DataEnd, BytesEnd, MessageEnd, Whole, Stuck}
use Rattle.doip_segment.specs.Segments.{Segment}
use Rattle.doip_segment.specs.Grammar.{IsWhite, value_of, ending, NoHash, Chunk, chunk_bytes, content_of, Part, IsPart, part_bytes, segment_of_part, IsSpelling}
use Rattle.doip_segment.specs.Framing.{OpensText, AtSegment, InText, InBytes, ChunkIsDue, AfterDigits, AfterData, IsJsonTooLong, IsTooMany}
use Rattle.doip_segment.specs.Machine.{class_of, data_due, passes_json, begins, is_done}
use Rattle.doip_segment.proofs.ClassLemmas.{Classified, classified, classified_as}
use Rattle.doip_segment.proofs.WalkLemmas.{Core, core, moved, walk, outset, walk-append, due_walk, text_phase, waiting, text_kept, ends_line, text_full, text_begins, begins_line, bytes_opens, chunk_opens, length_walk, length_phase, padding_walk, data_walk}
use Rattle.doip_segment.proofs.TellLemmas.{Chunks, told_at, opens_push, whole_spelling}

-- from the bytes to the machine

pub at_segment_walk : (prefix : List ℕ) (n : ℕ) → AtSegment prefix n → (segments : List Segment) × (walk outset prefix ≡ core segments [] Due) × (length segments ≡ n)
at_segment_walk prefix n at = (map segment_of_part at.parts, ap (walk outset) at.is ∙ due_walk at.parts at.white at.are_parts at.are_white, length-map at.parts segment_of_part ∙ at.counted)

pub in_text_walk : (prefix : List ℕ) (b : ℕ) (bs : List ℕ) → InText prefix (b ∷ bs) → (segments : List Segment) × (walk outset prefix ≡ core segments (text_kept false (b ∷ []) bs) (text_phase (ends_line false bs)))
in_text_walk prefix b bs in_ = (
  map segment_of_part in_.parts,
  ap (walk outset) in_.is
      ∙ walk-append outset (flat_map part_bytes in_.parts ++ in_.white) (b ∷ bs)
      ∙ ap (λ s. walk s (b ∷ bs)) (due_walk in_.parts in_.white in_.are_parts in_.are_white)
      ∙ text_begins (map segment_of_part in_.parts) b bs in_.opens.0 in_.opens.1,
)

pub in_bytes_walk : (prefix inner : List ℕ) → InBytes prefix inner → (segments : List Segment) × (content : List ℕ) × (walk outset prefix ≡ walk (core segments content ChunkDue) inner)
in_bytes_walk prefix inner in_ =
    let due = flat_map part_bytes in_.parts ++ in_.white in
    let opening = 64 ∷ [] ++ ending in_.blanks ++ flat_map chunk_bytes in_.chunks in
    let apart : flat_map part_bytes in_.parts ++ in_.white ++ 64 ∷ [] ++ ending in_.blanks ++ flat_map chunk_bytes in_.chunks ++ inner ≡ (due ++ opening) ++ inner = simp append_assoc in (
      map segment_of_part in_.parts,
      flat_map content_of in_.chunks,
      ap (walk outset) (in_.is ∙ apart)
          ∙ walk-append outset (due ++ opening) inner
          ∙ ap (λ s. walk s inner) (
          walk-append outset due opening
          ∙ ap (λ s. walk s opening) (due_walk in_.parts in_.white in_.are_parts in_.are_white)
          ∙ bytes_opens (map segment_of_part in_.parts) in_.blanks in_.chunks in_.are_blank in_.are_chunks
          ),
    )

pub due_phase : (prefix : List ℕ) → ChunkIsDue prefix → (walk outset prefix).phase ≡ ChunkDue
due_phase prefix in_ = let w = in_bytes_walk prefix [] in_ in ap (λ (s : Core). s.phase) w.2

pub digits_phase : (prefix : List ℕ) → AfterDigits prefix → (n v : ℕ) × (bs : List ℕ) × ((walk outset prefix).phase ≡ length_phase n v bs)
digits_phase prefix after =
    let digits = after.0 in
    let blanks = after.1 in
    let w = in_bytes_walk prefix (digits ++ blanks) after.4 in (
      length digits,
      value_of digits,
      blanks,
      ap (λ (s : Core). s.phase) (
          w.2
          ∙ walk-append (core w.0 w.1 ChunkDue) digits blanks
          ∙ ap (λ s. walk s blanks) (length_walk w.0 w.1 digits after.2)
          ∙ padding_walk w.0 w.1 (length digits) (value_of digits) blanks after.3
          ),
    )

pub data_phase : (prefix : List ℕ) → AfterData prefix → (walk outset prefix).phase ≡ DataEnd
data_phase prefix after =
    let chunk = after.0 in
    let is = after.1 in
    let inner = chunk.digits ++ ending chunk.blanks ++ chunk.content in
    let w = in_bytes_walk prefix inner after.2 in
    let within : length chunk.content ≤ value_of chunk.digits = omega (arith, is.size) in
    let left : value_of chunk.digits - length chunk.content ≡ 0 = omega (arith, is.size) in
    ap (λ (s : Core). s.phase) (w.2 ∙ chunk_opens w.0 w.1 chunk.digits chunk.blanks chunk.content is.is_length is.are_blank within) ∙ ap data_due left

-- a list that isn't empty, by its last element
pub record Ends (xs : List ℕ) : Type 0 where
  pub prefix : List ℕ
  pub last : ℕ
  pub is : xs ≡ prefix ++ last ∷ []

pub ends_of : (x : ℕ) (xs : List ℕ) → Ends (x ∷ xs)
ends_of x [] = record { prefix = []; last = x; is = refl }
ends_of x (y ∷ ys) = let later = ends_of y ys in record { prefix = x ∷ later.prefix; last = later.last; is = ap (λ t. x ∷ t) later.is }

free_prefix : (line : Bool) (text : List ℕ) (b : ℕ) → NoHash line (text ++ b ∷ []) → NoHash line text × (ends_line line text ≡ true → b ≢ 35)
free_prefix line [] b free = (tt, free.0)
free_prefix line (x ∷ text) b free = let later = free_prefix (eqb x 10) text b free.1 in ((free.0, later.0), later.1)

-- the byte that makes a JSON segment too long, seen from the machine
long_class : (json : ℕ) (line : Bool) (c : Class) (size : ℕ) → (line ≡ true → c ≡ Hash → ⊥) → size + length (waiting line) ≡ json + 1 → passes_json json (text_phase line) c size ≡ true
long_class json false c size other e = lt-ltb json size (omega (arith, e))
long_class json true Hash size other e = absurd (other refl refl)
long_class json true LineFeed size other e = le-leb json size (omega (arith, e))
long_class json true Blank size other e = le-leb json size (omega (arith, e))
long_class json true At size other e = le-leb json size (omega (arith, e))
long_class json true (Digit d) size other e = le-leb json size (omega (arith, e))
long_class json true Other size other e = le-leb json size (omega (arith, e))

text_size : (pending : List ℕ) (line : Bool) (text : List ℕ) → length (text_kept line pending text) + length (waiting (ends_line line text)) ≡ length pending + (length (waiting line) + length text)
text_size pending line text =
    sym (length-append (text_kept line pending text) (waiting (ends_line line text)))
    ∙ ap length (text_full pending line text)
    ∙ length-append pending (waiting line ++ text)
    ∙ ap (λ n. length pending + n) (length-append (waiting line) text)

long_prefix : (json b x : ℕ) (prefix text : List ℕ) → length text ≡ json + 1 → InText (prefix ++ b ∷ []) (x ∷ text) → passes_json json (walk outset prefix).phase (class_of b) (length (walk outset prefix).pending) ≡ true
long_prefix json b x prefix [] size in_ = absurd (omega (arith, size))
long_prefix json b x prefix (y ∷ ys) size in_ =
    let e = ends_of y ys in
    let due = flat_map part_bytes in_.parts ++ in_.white in
    let cut : prefix ++ b ∷ [] ≡ (due ++ x ∷ e.prefix) ++ e.last ∷ [] = in_.is ∙ ap (λ t. due ++ x ∷ t) e.is ∙ sym (append_assoc due (x ∷ e.prefix) (e.last ∷ [])) in
    let same = same_from_push prefix (due ++ x ∷ e.prefix) b e.last cut in
    let free : NoHash false ((x ∷ e.prefix) ++ e.last ∷ []) = subst (λ (t : List ℕ). NoHash false (x ∷ t)) e.is in_.opens.1 in
    let before = free_prefix false (x ∷ e.prefix) e.last free in
    let text : InText prefix (x ∷ e.prefix) = record { parts = in_.parts; white = in_.white; are_parts = in_.are_parts; are_white = in_.are_white; opens = (in_.opens.0, before.0); is = same.0 } in
    let w = in_text_walk prefix x e.prefix text in
    let off : eqb x 10 ≡ false = begins_line x in_.opens.0 in
    let line = ends_line false e.prefix in
    let hash : line ≡ true → class_of b ≡ Hash → ⊥ = λ at is. before.1 (ap (λ t. ends_line t e.prefix) off ∙ at) (sym same.1 ∙ classified_as b Hash is) in
    let count : length (y ∷ ys) ≡ length e.prefix + 1 = ap length e.is ∙ length-append e.prefix (e.last ∷ []) in
    let long = long_class json line (class_of b) (length (text_kept false (x ∷ []) e.prefix)) hash (omega (arith, text_size (x ∷ []) false e.prefix, count, size)) in
    subst (λ (s : Core). passes_json json s.phase (class_of b) (length s.pending) ≡ true) (sym w.1) long

pub too_long_passes : (limits : Limits) (prefix : List ℕ) (b : ℕ) → IsJsonTooLong limits prefix b → passes_json limits.json (walk outset prefix).phase (class_of b) (length (walk outset prefix).pending) ≡ true
too_long_passes limits prefix b long = by_text long.0 long.1 long.2
  where
    by_text : (text : List ℕ) → length text ≡ limits.json + 2 → InText (prefix ++ b ∷ []) text → passes_json limits.json (walk outset prefix).phase (class_of b) (length (walk outset prefix).pending) ≡ true
    by_text [] size in_ = absurd (omega (arith, size))
    by_text (x ∷ text) size in_ = long_prefix limits.json b x prefix text (omega (arith, size)) in_

begin_of : (b : ℕ) (c : Class) → Classified b c → (IsWhite b → ⊥) → b ≢ 35 → begins Due c ≡ true
begin_of b LineFeed k white hash = absurd (white (inr k))
begin_of b Blank k white hash = absurd (white (inl k))
begin_of b Hash k white hash = absurd (hash k)
begin_of b At k white hash = refl
begin_of b (Digit d) k white hash = refl
begin_of b Other k white hash = refl

pub too_many_begins : (prefix : List ℕ) (b : ℕ) → IsTooMany prefix b → (begins (walk outset prefix).phase (class_of b) ≡ true) × (length (walk outset prefix).segments ≡ 2048)
too_many_begins prefix b many =
    let w = at_segment_walk prefix 2048 many.0 in (
      ap (λ (s : Core). begins s.phase (class_of b)) w.1 ∙ begin_of b (class_of b) (classified b) many.1 many.2,
      ap (λ (s : Core). length s.segments) w.1 ∙ w.2,
    )

-- from the machine to the bytes

pub due_at : (segments : List Segment) (pending prefix : List ℕ) → walk outset prefix ≡ core segments pending Due → AtSegment prefix (length segments)
due_at segments pending prefix e =
    let t = told_at (core segments pending Due) prefix e in
    record { parts = t.parts; white = t.tail; are_parts = t.are_parts; are_white = t.after.1; counted = sym (ap length t.message_is ∙ length-map t.parts segment_of_part); is = t.is }

pub text_at : (segments : List Segment) (pending prefix : List ℕ) (line : Bool) → walk outset prefix ≡ core segments pending (text_phase line) → InText prefix (pending ++ waiting line)
text_at segments pending prefix true e =
    let t = told_at (core segments pending LineStart) prefix e in
    record {
      parts = t.parts;
      white = t.after.white;
      are_parts = t.are_parts;
      are_white = t.after.are_white;
      opens = opens_push pending 10 t.after.opens (λ h f. absurd (omega (arith, f)));
      is = t.is ∙ ap (λ x. flat_map part_bytes t.parts ++ x) t.after.is ∙ simp append_assoc;
    }
text_at segments pending prefix false e =
    let t = told_at (core segments pending Text) prefix e in
    record {
      parts = t.parts;
      white = t.after.1.white;
      are_parts = t.are_parts;
      are_white = t.after.1.are_white;
      opens = subst OpensText (sym (append-nil pending)) t.after.1.opens;
      is = t.is ∙ ap (λ x. flat_map part_bytes t.parts ++ x) t.after.1.is ∙ simp append_assoc;
    }

inside : (parts : List Part) (prefix tail content inner : List ℕ) → AllByRecursion IsPart parts → prefix ≡ flat_map part_bytes parts ++ tail → Chunks content tail inner → InBytes prefix inner
inside parts prefix tail content inner are e t = record {
  parts = parts;
  white = t.white;
  blanks = t.blanks;
  chunks = t.chunks;
  are_parts = are;
  are_white = t.are_white;
  are_blank = t.are_blank;
  are_chunks = t.are_chunks;
  is = e ∙ ap (λ x. flat_map part_bytes parts ++ x) t.is ∙ simp append_assoc;
}

pub chunk_at : (segments : List Segment) (pending prefix : List ℕ) → walk outset prefix ≡ core segments pending ChunkDue → ChunkIsDue prefix
chunk_at segments pending prefix e =
    let t = told_at (core segments pending ChunkDue) prefix e in inside t.parts prefix t.tail pending [] t.are_parts t.is t.after

pub digits_at : (segments : List Segment) (pending prefix : List ℕ) (n v : ℕ) → walk outset prefix ≡ core segments pending (Digits n v) → AfterDigits prefix
digits_at segments pending prefix n v e =
    let t = told_at (core segments pending (Digits n v)) prefix e in
    (t.after.digits, [], t.after.is_length, tt, subst (InBytes prefix) (sym (append-nil t.after.digits)) (inside t.parts prefix t.tail pending t.after.digits t.are_parts t.is t.after.inside))

pub padding_at : (segments : List Segment) (pending prefix : List ℕ) (v : ℕ) → walk outset prefix ≡ core segments pending (Padding v) → AfterDigits prefix
padding_at segments pending prefix v e =
    let t = told_at (core segments pending (Padding v)) prefix e in
    (t.after.digits, t.after.blanks, t.after.is_length, t.after.are_blank, inside t.parts prefix t.tail pending (t.after.digits ++ t.after.blanks) t.are_parts t.is t.after.inside)

pub data_at : (segments : List Segment) (pending prefix : List ℕ) → walk outset prefix ≡ core segments pending DataEnd → AfterData prefix
data_at segments pending prefix e =
    let t = told_at (core segments pending DataEnd) prefix e in
    let d = t.after in
    let chunk : Chunk = record { digits = d.digits; blanks = d.blanks; content = d.content } in
    let size : value_of d.digits ≡ length d.content = omega (arith, d.size) in
    let inner : d.digits ++ (d.blanks ++ 10 ∷ d.content) ≡ d.digits ++ ending d.blanks ++ d.content = simp append_assoc in
    (chunk, record { is_length = d.is_length; are_blank = d.are_blank; size = size }, subst (InBytes prefix) inner (inside t.parts prefix t.tail d.before _ t.are_parts t.is d.inside))

-- a way on to a whole message
pub record GoesOn (s : Core) : Type 0 where
  pub more : List ℕ
  pub message : List Segment
  pub pending : List ℕ
  pub is : walk s more ≡ core message pending Whole

data_end_goes : (segments : List Segment) (pending : List ℕ) → GoesOn (core segments pending DataEnd)
data_end_goes segments pending = record { more = 10 ∷ 35 ∷ 10 ∷ 35 ∷ 10 ∷ []; message = _; pending = _; is = refl }

data_goes_on : (segments : List Segment) (pending : List ℕ) (left : ℕ) → GoesOn (core segments pending (data_due left))
data_goes_on segments pending left =
    let zeros = replicate left 0 in
    let size : length zeros ≡ left = length-replicate left 0 in
    let none : left - length zeros ≡ 0 = omega (arith, size) in
    let end = data_end_goes segments (pending ++ zeros) in
    record {
      more = zeros ++ end.more;
      message = end.message;
      pending = end.pending;
      is = walk-append (core segments pending (data_due left)) zeros end.more ∙ ap (λ s. walk s end.more) (data_walk segments pending left zeros (omega (arith, size)) ∙ ap (λ n. core segments (pending ++ zeros) (data_due n)) none) ∙ end.is;
    }

byte_goes_on : (s : Core) (b : ℕ) → GoesOn (moved s (class_of b) b) → GoesOn s
byte_goes_on s b g = record { more = b ∷ g.more; message = g.message; pending = g.pending; is = g.is }

-- each place but a fault has one
pub goes_on : (segments : List Segment) (pending : List ℕ) (p : Phase) → is_done p ≡ false → GoesOn (core segments pending p)
goes_on segments pending Due live = record { more = 35 ∷ 10 ∷ []; message = _; pending = _; is = refl }
goes_on segments pending Text live = record { more = 10 ∷ 35 ∷ 10 ∷ 35 ∷ 10 ∷ []; message = _; pending = _; is = refl }
goes_on segments pending LineStart live = record { more = 35 ∷ 10 ∷ 35 ∷ 10 ∷ []; message = _; pending = _; is = refl }
goes_on segments pending JsonEnd live = record { more = 10 ∷ 35 ∷ 10 ∷ []; message = _; pending = _; is = refl }
goes_on segments pending BytesStart live = record { more = 10 ∷ 35 ∷ 10 ∷ 35 ∷ 10 ∷ []; message = _; pending = _; is = refl }
goes_on segments pending ChunkDue live = record { more = 35 ∷ 10 ∷ 35 ∷ 10 ∷ []; message = _; pending = _; is = refl }
goes_on segments pending (Digits n v) live = byte_goes_on (core segments pending (Digits n v)) 10 (data_goes_on segments (pending ++ []) v)
goes_on segments pending (Padding v) live = byte_goes_on (core segments pending (Padding v)) 10 (data_goes_on segments (pending ++ []) v)
goes_on segments pending (Data left) live = byte_goes_on (core segments pending (Data left)) 0 (data_goes_on segments (pending ++ 0 ∷ []) (left - 1))
goes_on segments pending DataEnd live = data_end_goes segments pending
goes_on segments pending BytesEnd live = record { more = 10 ∷ 35 ∷ 10 ∷ []; message = _; pending = _; is = refl }
goes_on segments pending MessageEnd live = record { more = 10 ∷ []; message = _; pending = _; is = refl }
goes_on segments pending Whole live = absurd (let h : true ≡ false = live in cc)
goes_on segments pending (Stuck reason) live = absurd (let h : true ≡ false = live in cc)

-- so the bytes before it are the prefix of a spelling
pub prefix_of_spelling : (prefix : List ℕ) → is_done (walk outset prefix).phase ≡ false → (more : List ℕ) × (message : List Segment) × IsSpelling (prefix ++ more) message
prefix_of_spelling prefix live =
    let s = walk outset prefix in
    let g = goes_on s.segments s.pending s.phase live in
    (g.more, g.message, whole_spelling g.message g.pending (prefix ++ g.more) (walk-append outset prefix g.more ∙ g.is))
