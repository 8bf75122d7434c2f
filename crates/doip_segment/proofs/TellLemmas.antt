-- What each place of the machine shows of the bytes that led to it.
use Rattle.std.proofs.Common.{◌≡◌, ◌≢◌, ℕ, zero, suc, ◌+◌, ◌-◌, ◌*◌, ◌≤◌, ◌<◌, inl, inr, List, [], ◌∷◌, ◌++◌, length, map, Bool, true, false, cond, None, refl, sym, ap, ◌∙◌, subst, arith, append_assoc, length-append, eqb, ltb}
use Rattle.std.specs.List.{flat_map, AllByRecursion}
use Rattle.std.proofs.lemmas.List.{append-nil, map-append}
use borrow.Author.Tests.{ltb-true}
use Rattle.doip_segment.specs.declared.kind.Kind.TheVariants as kinds
use Rattle.doip_segment.specs.declared.outcome.Reason.TheVariants as reasons
use Rattle.doip_segment.specs.declared.class.Class.{Class}
use Rattle.doip_segment.specs.declared.class.Class.TheVariants.{LineFeed, Blank, Hash, At, Digit, Other}
use Rattle.doip_segment.specs.declared.phase.Phase.{Phase}
use Rattle.doip_segment.specs.declared.phase.Phase.TheVariants.{Due, Text, LineStart, JsonEnd, BytesStart, ChunkDue, Digits, Padding, Data, DataEnd, BytesEnd, MessageEnd, Whole, Stuck}
use Rattle.doip_segment.specs.Segments.{Segment, segment}
use Rattle.doip_segment.specs.Grammar.{IsBlank, IsWhite, IsDigit, value_after, value_of, BeginsText, NoHash, IsText, IsLength, Chunk, IsChunk, chunk_bytes, content_of, Part, TextPart, BytesPart, IsPart, part_bytes, segment_of_part, IsSpelling}
use Rattle.doip_segment.specs.Framing.{OpensText}
use Rattle.doip_segment.specs.Machine.{class_of, data_due, next_phase, added, closed, kept}
use Rattle.doip_segment.proofs.ClassLemmas.{Classified, classified, eq_tests}
use Rattle.doip_segment.proofs.WalkLemmas.{Core, core, moved, walk, outset, ends_line}

pub all_push : {X : Type 0} (P : X → Type 0) (xs : List X) (x : X) → AllByRecursion P xs → P x → AllByRecursion P (xs ++ x ∷ [])
all_push P [] x all here = (here, tt)
all_push P (y ∷ xs) x all here = (all.0, all_push P xs x all.1 here)

flat_map_push : {X : Type 0} (f : X → List ℕ) (xs : List X) (x : X) → flat_map f (xs ++ x ∷ []) ≡ flat_map f xs ++ f x
flat_map_push f [] x = append-nil (f x)
flat_map_push f (y ∷ xs) x = ap (λ t. f y ++ t) (flat_map_push f xs x) ∙ sym (append_assoc (f y) (flat_map f xs) (f x))

pub value_push : (v : ℕ) (ds : List ℕ) (d : ℕ) → value_after v (ds ++ d ∷ []) ≡ 10 * value_after v ds + (d - 48)
value_push v [] d = refl
value_push v (x ∷ ds) d = value_push (10 * v + (x - 48)) ds d

free_push : (line : Bool) (text : List ℕ) (b : ℕ) → NoHash line text → (ends_line line text ≡ true → b ≢ 35) → NoHash line (text ++ b ∷ [])
free_push line [] b free last = (last, tt)
free_push line (x ∷ text) b free last = (free.0, free_push (eqb x 10) text b free.1 last)

ends_push : (line : Bool) (text : List ℕ) (b : ℕ) → ends_line line (text ++ b ∷ []) ≡ eqb b 10
ends_push line [] b = refl
ends_push line (x ∷ text) b = ends_push (eqb x 10) text b

pub opens_push : (text : List ℕ) (b : ℕ) → OpensText text → (ends_line false text ≡ true → b ≢ 35) → OpensText (text ++ b ∷ [])
opens_push [] b opens last = absurd opens
opens_push (x ∷ text) b opens last = (opens.0, free_push false (x ∷ text) b opens.1 last)

-- bytes of a byte segment, after the parts before it: its whole chunks have this content, and then come these bytes
pub record Chunks (content tail inner : List ℕ) : Type 0 where
  pub white : List ℕ
  pub blanks : List ℕ
  pub chunks : List Chunk
  pub are_white : AllByRecursion IsWhite white
  pub are_blank : AllByRecursion IsBlank blanks
  pub are_chunks : AllByRecursion IsChunk chunks
  pub message_is : content ≡ flat_map content_of chunks
  pub is : tail ≡ white ++ 64 ∷ (blanks ++ 10 ∷ (flat_map chunk_bytes chunks ++ inner))

-- a chunk's length and some of its data
pub record DataTail (left : ℕ) (pending tail : List ℕ) : Type 0 where
  pub digits : List ℕ
  pub blanks : List ℕ
  pub before : List ℕ
  pub content : List ℕ
  pub is_length : IsLength digits
  pub are_blank : AllByRecursion IsBlank blanks
  pub size : value_of digits ≡ length content + left
  pub message_is : pending ≡ before ++ content
  pub inside : Chunks before tail (digits ++ (blanks ++ 10 ∷ content))

-- white bytes and then text
pub record TextTail (pending tail after : List ℕ) : Type 0 where
  pub white : List ℕ
  pub are_white : AllByRecursion IsWhite white
  pub opens : OpensText pending
  pub is : tail ≡ white ++ (pending ++ after)

-- white bytes, and then a byte and blanks
pub record MarkTail (mark : ℕ) (tail : List ℕ) : Type 0 where
  pub white : List ℕ
  pub blanks : List ℕ
  pub are_white : AllByRecursion IsWhite white
  pub are_blank : AllByRecursion IsBlank blanks
  pub is : tail ≡ white ++ mark ∷ blanks

pub record LengthTail (n v : ℕ) (pending tail : List ℕ) : Type 0 where
  pub digits : List ℕ
  pub is_length : IsLength digits
  pub counted : length digits ≡ n
  pub value : value_of digits ≡ v
  pub inside : Chunks pending tail digits

pub record PaddingTail (v : ℕ) (pending tail : List ℕ) : Type 0 where
  pub digits : List ℕ
  pub blanks : List ℕ
  pub is_length : IsLength digits
  pub are_blank : AllByRecursion IsBlank blanks
  pub value : value_of digits ≡ v
  pub inside : Chunks pending tail (digits ++ blanks)

-- what a place shows of the bytes after the whole parts
abbrev pub Tail : Phase → List ℕ → List ℕ → Type 0
Tail Due pending tail = (pending ≡ []) × AllByRecursion IsWhite tail
Tail Text pending tail = (ends_line false pending ≡ false) × TextTail pending tail []
Tail LineStart pending tail = TextTail pending tail (10 ∷ [])
Tail JsonEnd pending tail = (blanks : List ℕ) × AllByRecursion IsBlank blanks × TextTail pending tail (10 ∷ 35 ∷ blanks)
Tail BytesStart pending tail = (pending ≡ []) × MarkTail 64 tail
Tail ChunkDue pending tail = Chunks pending tail []
Tail (Digits n v) pending tail = LengthTail n v pending tail
Tail (Padding v) pending tail = PaddingTail v pending tail
Tail (Data left) pending tail = (0 < left) × DataTail left pending tail
Tail DataEnd pending tail = DataTail 0 pending tail
Tail BytesEnd pending tail = (closing : List ℕ) × AllByRecursion IsBlank closing × Chunks pending tail (35 ∷ closing)
Tail MessageEnd pending tail = (pending ≡ []) × MarkTail 35 tail
Tail Whole pending tail = (pending ≡ []) × (prefix : List ℕ) × MarkTail 35 prefix × (tail ≡ prefix ++ 10 ∷ [])
Tail (Stuck reason) pending tail = Unit {0}

chunks_more : (content tail inner : List ℕ) (b : ℕ) → Chunks content tail inner → Chunks content (tail ++ b ∷ []) (inner ++ b ∷ [])
chunks_more content tail inner b t = record {
  white = t.white;
  blanks = t.blanks;
  chunks = t.chunks;
  are_white = t.are_white;
  are_blank = t.are_blank;
  are_chunks = t.are_chunks;
  message_is = t.message_is;
  is = ap (λ x. x ++ b ∷ []) t.is ∙ simp append_assoc;
}

chunks_as : (content tail inner other : List ℕ) → inner ≡ other → Chunks content tail inner → Chunks content tail other
chunks_as content tail inner other e t = subst (Chunks content tail) e t

mark_more : (mark : ℕ) (tail : List ℕ) (b : ℕ) → MarkTail mark tail → IsBlank b → MarkTail mark (tail ++ b ∷ [])
mark_more mark tail b t blank = record {
  white = t.white;
  blanks = t.blanks ++ b ∷ [];
  are_white = t.are_white;
  are_blank = all_push IsBlank t.blanks b t.are_blank blank;
  is = ap (λ x. x ++ b ∷ []) t.is ∙ append_assoc t.white (mark ∷ t.blanks) (b ∷ []);
}

text_more : (pending tail after : List ℕ) (b : ℕ) → TextTail pending tail after → TextTail pending (tail ++ b ∷ []) (after ++ b ∷ [])
text_more pending tail after b t = record { white = t.white; are_white = t.are_white; opens = t.opens; is = ap (λ x. x ++ b ∷ []) t.is ∙ simp append_assoc }

data_tail : (left : ℕ) (pending tail : List ℕ) → DataTail left pending tail → Tail (data_due left) pending tail
data_tail zero pending tail t = t
data_tail (suc left) pending tail t = (omega arith, t)

-- the tail where nothing is added to the content
same_tail : (p : Phase) (pending tail : List ℕ) → Tail p pending tail → Tail p (pending ++ []) tail
same_tail p pending tail t = subst (λ (x : List ℕ). Tail p x tail) (sym (append-nil pending)) t

nil_kept : (pending : List ℕ) → pending ≡ [] → pending ++ [] ≡ []
nil_kept pending e = append-nil pending ∙ e

push_to_nil : (pending : List ℕ) (b : ℕ) → pending ≡ [] → pending ++ b ∷ [] ≡ b ∷ []
push_to_nil pending b e = ap (λ x. x ++ b ∷ []) e

not_true : (t : Bool) → (t ≡ true → ⊥) → t ≡ false
not_true true h = absurd (h refl)
not_true false h = refl

blank_no_feed : (b : ℕ) → IsBlank b → b ≢ 10
blank_no_feed b (inl e) f = omega (arith, e, f)
blank_no_feed b (inr (inl e)) f = omega (arith, e, f)
blank_no_feed b (inr (inr e)) f = omega (arith, e, f)

blank_no_hash : (b : ℕ) → IsBlank b → b ≢ 35
blank_no_hash b (inl e) f = omega (arith, e, f)
blank_no_hash b (inr (inl e)) f = omega (arith, e, f)
blank_no_hash b (inr (inr e)) f = omega (arith, e, f)

digit_not_white : (b : ℕ) → 48 ≤ b → IsWhite b → ⊥
digit_not_white b low (inl (inl e)) = omega (arith, low, e)
digit_not_white b low (inl (inr (inl e))) = omega (arith, low, e)
digit_not_white b low (inl (inr (inr e))) = omega (arith, low, e)
digit_not_white b low (inr e) = omega (arith, low, e)

pub digit_begins : (b : ℕ) → 48 ≤ b → b ≤ 57 → BeginsText b
digit_begins b low high = (digit_not_white b low, (λ e. omega (arith, low, e)), (λ e. omega (arith, high, e)))

pub at_not_white : (b : ℕ) → b ≡ 64 → IsWhite b → ⊥
at_not_white b at (inl (inl e)) = omega (arith, at, e)
at_not_white b at (inl (inr (inl e))) = omega (arith, at, e)
at_not_white b at (inl (inr (inr e))) = omega (arith, at, e)
at_not_white b at (inr e) = omega (arith, at, e)

other_not_white : (b : ℕ) → Classified b Other → IsWhite b → ⊥
other_not_white b k (inl (inl e)) = k.1 e
other_not_white b k (inl (inr (inl e))) = k.2 e
other_not_white b k (inl (inr (inr e))) = k.3 e
other_not_white b k (inr e) = k.0 e

pub other_begins : (b : ℕ) → Classified b Other → BeginsText b
other_begins b k = (other_not_white b k, k.4, k.5)

-- a segment's text begins
text_first : (b : ℕ) (pending tail : List ℕ) → BeginsText b → pending ≡ [] → AllByRecursion IsWhite tail → Tail Text (pending ++ b ∷ []) (tail ++ b ∷ [])
text_first b pending tail begins none white =
    let e = push_to_nil pending b none in
    let line : eqb b 10 ≡ false = not_true (eqb b 10) (λ h. begins.0 (inr (eq_tests b 10 h))) in
    subst (λ (x : List ℕ). Tail Text x (tail ++ b ∷ [])) (sym e) (
      line,
      record {
        white = tail;
        are_white = white;
        opens = (begins, ((λ h. absurd (let f : false ≡ true = h in cc)), tt));
        is = refl;
      },
    )

-- a segment's text goes on
text_next : (b : ℕ) (pending tail : List ℕ) → b ≢ 10 → Tail Text pending tail → Tail Text (pending ++ b ∷ []) (tail ++ b ∷ [])
text_next b pending tail other t = (
  ends_push false pending b ∙ not_true (eqb b 10) (λ h. other (eq_tests b 10 h)),
  record {
    white = t.1.white;
    are_white = t.1.are_white;
    opens = opens_push pending b t.1.opens (λ h. absurd (let f : false ≡ true = sym t.0 ∙ h in cc));
    is = ap (λ x. x ++ b ∷ []) t.1.is ∙ simp append_assoc;
  },
)

-- the line feed that waited is text, and the byte after it too
line_next : (b : ℕ) (pending tail : List ℕ) → b ≢ 10 → b ≢ 35 → Tail LineStart pending tail → Tail Text (pending ++ 10 ∷ b ∷ []) (tail ++ b ∷ [])
line_next b pending tail other hash t =
    let once = opens_push pending 10 t.opens (λ h e. absurd (omega (arith, e))) in
    let twice = opens_push (pending ++ 10 ∷ []) b once (λ h. hash) in
    let apart : (pending ++ 10 ∷ []) ++ b ∷ [] ≡ pending ++ 10 ∷ b ∷ [] = append_assoc pending (10 ∷ []) (b ∷ []) in
    let ends = ends_push false (pending ++ 10 ∷ []) b ∙ not_true (eqb b 10) (λ h. other (eq_tests b 10 h)) in (
      subst (λ (x : List ℕ). ends_line false x ≡ false) apart ends,
      record {
        white = t.white;
        are_white = t.are_white;
        opens = subst OpensText apart twice;
        is = ap (λ x. x ++ b ∷ []) t.is ∙ simp append_assoc;
      },
    )

line_again : (b : ℕ) (pending tail : List ℕ) → b ≡ 10 → Tail LineStart pending tail → Tail LineStart (pending ++ 10 ∷ []) (tail ++ b ∷ [])
line_again b pending tail feed t = record {
  white = t.white;
  are_white = t.are_white;
  opens = opens_push pending 10 t.opens (λ h e. absurd (omega (arith, e)));
  is = ap (λ x. tail ++ x ∷ []) feed ∙ ap (λ x. x ++ 10 ∷ []) t.is ∙ simp append_assoc;
}

text_after : (b mark : ℕ) (pending tail after : List ℕ) → b ≡ mark → TextTail pending tail after → TextTail (pending ++ []) (tail ++ b ∷ []) (after ++ mark ∷ [])
text_after b mark pending tail after e t =
    let more = text_more pending tail after b t in
    let here = subst (λ (x : ℕ). TextTail pending (tail ++ b ∷ []) (after ++ x ∷ [])) e more in
    subst (λ (x : List ℕ). TextTail x (tail ++ b ∷ []) (after ++ mark ∷ [])) (sym (append-nil pending)) here

marks_tail : (b mark : ℕ) (tail : List ℕ) → b ≡ mark → AllByRecursion IsWhite tail → MarkTail mark (tail ++ b ∷ [])
marks_tail b mark tail e white = record { white = tail; blanks = []; are_white = white; are_blank = tt; is = ap (λ x. tail ++ x ∷ []) e }

-- a byte segment begins, and no chunk is read yet
no_chunk : (b : ℕ) (pending tail : List ℕ) → b ≡ 10 → pending ≡ [] → MarkTail 64 tail → Chunks (pending ++ []) (tail ++ b ∷ []) []
no_chunk b pending tail feed none t = record {
  white = t.white;
  blanks = t.blanks;
  chunks = [];
  are_white = t.are_white;
  are_blank = t.are_blank;
  are_chunks = tt;
  message_is = nil_kept pending none;
  is = ap (λ x. tail ++ x ∷ []) feed ∙ ap (λ x. x ++ 10 ∷ []) t.is ∙ append_assoc t.white (64 ∷ t.blanks) (10 ∷ []);
}

kept_chunks : (content tail inner : List ℕ) → Chunks content tail inner → Chunks (content ++ []) tail inner
kept_chunks content tail inner t = subst (λ (x : List ℕ). Chunks x tail inner) (sym (append-nil content)) t

first_digit : (b d : ℕ) (pending tail : List ℕ) → Classified b (Digit d) → Chunks pending tail [] → LengthTail 1 d (pending ++ []) (tail ++ b ∷ [])
first_digit b d pending tail k t = record {
  digits = b ∷ [];
  is_length = record { are_digits = ((k.0, k.1), tt); some = omega arith; most = omega arith };
  counted = refl;
  value = omega (arith, k.2);
  inside = kept_chunks pending (tail ++ b ∷ []) (b ∷ []) (chunks_more pending tail [] b t);
}

next_digit : (n v b d : ℕ) (more : Bool) (pending tail : List ℕ) → ltb n 10 ≡ more → Classified b (Digit d) → LengthTail n v pending tail → Tail (cond more (Digits (n + 1) (10 * v + d)) (Stuck reasons.Length)) (pending ++ []) (tail ++ b ∷ [])
next_digit n v b d false pending tail low k t = tt
next_digit n v b d true pending tail low k t =
    let size : length (t.digits ++ b ∷ []) ≡ n + 1 = length-append t.digits (b ∷ []) ∙ ap (λ x. x + 1) t.counted in
    record {
      digits = t.digits ++ b ∷ [];
      is_length = record { are_digits = all_push IsDigit t.digits b t.is_length.are_digits (k.0, k.1); some = omega (arith, size); most = omega (arith, size, ltb-true n 10 low) };
      counted = size;
      value = value_push 0 t.digits b ∙ ap (λ x. 10 * x + (b - 48)) t.value ∙ ap (λ x. 10 * v + x) (sym k.2);
      inside = kept_chunks pending (tail ++ b ∷ []) (t.digits ++ b ∷ []) (chunks_more pending tail t.digits b t.inside);
    }

-- a chunk's line ends
data_begins : (v b : ℕ) (digits blanks pending tail : List ℕ) → b ≡ 10 → IsLength digits → AllByRecursion IsBlank blanks → value_of digits ≡ v → Chunks pending tail (digits ++ blanks) → DataTail v (pending ++ []) (tail ++ b ∷ [])
data_begins v b digits blanks pending tail feed is all value t =
    let inner : (digits ++ blanks) ++ b ∷ [] ≡ digits ++ (blanks ++ 10 ∷ []) = append_assoc digits blanks (b ∷ []) ∙ ap (λ x. digits ++ (blanks ++ x ∷ [])) feed in
    record {
      digits = digits;
      blanks = blanks;
      before = pending;
      content = [];
      is_length = is;
      are_blank = all;
      size = omega (arith, value);
      message_is = refl;
      inside = chunks_as pending (tail ++ b ∷ []) _ _ inner (chunks_more pending tail (digits ++ blanks) b t);
    }

data_next : (left b : ℕ) (pending tail : List ℕ) → 0 < left → DataTail left pending tail → DataTail (left - 1) (pending ++ b ∷ []) (tail ++ b ∷ [])
data_next left b pending tail low t =
    let inner : (t.digits ++ (t.blanks ++ 10 ∷ t.content)) ++ b ∷ [] ≡ t.digits ++ (t.blanks ++ 10 ∷ (t.content ++ b ∷ [])) = simp append_assoc in
    record {
      digits = t.digits;
      blanks = t.blanks;
      before = t.before;
      content = t.content ++ b ∷ [];
      is_length = t.is_length;
      are_blank = t.are_blank;
      size = omega (arith, t.size, length-append t.content (b ∷ []));
      message_is = ap (λ x. x ++ b ∷ []) t.message_is ∙ append_assoc t.before t.content (b ∷ []);
      inside = chunks_as t.before (tail ++ b ∷ []) _ _ inner (chunks_more t.before tail _ b t.inside);
    }

-- a chunk ends
chunk_ends : (b : ℕ) (pending tail : List ℕ) → b ≡ 10 → DataTail 0 pending tail → Chunks (pending ++ []) (tail ++ b ∷ []) []
chunk_ends b pending tail feed t =
    let chunk : Chunk = record { digits = t.digits; blanks = t.blanks; content = t.content } in
    let old = t.inside.chunks in
    let size : value_of t.digits ≡ length t.content = omega (arith, t.size) in
    let joined : flat_map chunk_bytes (old ++ chunk ∷ []) ≡ flat_map chunk_bytes old ++ (t.digits ++ (t.blanks ++ 10 ∷ (t.content ++ 10 ∷ []))) = flat_map_push chunk_bytes old chunk ∙ ap (λ x. flat_map chunk_bytes old ++ x) (simp append_assoc) in
    record {
      white = t.inside.white;
      blanks = t.inside.blanks;
      chunks = old ++ chunk ∷ [];
      are_white = t.inside.are_white;
      are_blank = t.inside.are_blank;
      are_chunks = all_push IsChunk old chunk t.inside.are_chunks (record { is_length = t.is_length; are_blank = t.are_blank; size = size });
      message_is = append-nil pending ∙ t.message_is ∙ ap (λ x. x ++ t.content) t.inside.message_is ∙ sym (flat_map_push content_of old chunk);
      is = ap (λ x. tail ++ x ∷ []) feed ∙ ap (λ x. x ++ 10 ∷ []) t.inside.is ∙ rw joined (simp (append_assoc, append-nil));
    }

whole_tail : (b : ℕ) (pending tail : List ℕ) → b ≡ 10 → pending ≡ [] → MarkTail 35 tail → Tail Whole (pending ++ []) (tail ++ b ∷ [])
whole_tail b pending tail feed none t = (nil_kept pending none, tail, t, ap (λ x. tail ++ x ∷ []) feed)

-- a byte that closes no segment
tail_step : (p : Phase) (c : Class) (b : ℕ) (pending tail : List ℕ) → Classified b c → closed p c ≡ None → Tail p pending tail → Tail (next_phase p c) (pending ++ added p c b) (tail ++ b ∷ [])
tail_step Due LineFeed b pending tail k shut t = (nil_kept pending t.0, all_push IsWhite tail b t.1 (inr k))
tail_step Due Blank b pending tail k shut t = (nil_kept pending t.0, all_push IsWhite tail b t.1 (inl k))
tail_step Due Hash b pending tail k shut t = (nil_kept pending t.0, marks_tail b 35 tail k t.1)
tail_step Due At b pending tail k shut t = (nil_kept pending t.0, marks_tail b 64 tail k t.1)
tail_step Due (Digit d) b pending tail k shut t = text_first b pending tail (digit_begins b k.0 k.1) t.0 t.1
tail_step Due Other b pending tail k shut t = text_first b pending tail (other_begins b k) t.0 t.1
tail_step Text LineFeed b pending tail k shut t = text_after b 10 pending tail [] k t.1
tail_step Text Blank b pending tail k shut t = text_next b pending tail (blank_no_feed b k) t
tail_step Text Hash b pending tail k shut t = text_next b pending tail (λ e. omega (arith, k, e)) t
tail_step Text At b pending tail k shut t = text_next b pending tail (λ e. omega (arith, k, e)) t
tail_step Text (Digit d) b pending tail k shut t = text_next b pending tail (λ e. omega (arith, k.0, e)) t
tail_step Text Other b pending tail k shut t = text_next b pending tail k.0 t
tail_step LineStart LineFeed b pending tail k shut t = line_again b pending tail k t
tail_step LineStart Blank b pending tail k shut t = line_next b pending tail (blank_no_feed b k) (blank_no_hash b k) t
tail_step LineStart Hash b pending tail k shut t = ([], tt, text_after b 35 pending tail (10 ∷ []) k t)
tail_step LineStart At b pending tail k shut t = line_next b pending tail (λ e. omega (arith, k, e)) (λ e. omega (arith, k, e)) t
tail_step LineStart (Digit d) b pending tail k shut t = line_next b pending tail (λ e. omega (arith, k.0, e)) (λ e. omega (arith, k.0, e)) t
tail_step LineStart Other b pending tail k shut t = line_next b pending tail k.0 k.4 t
tail_step JsonEnd LineFeed b pending tail k shut t = absurd (cc)
tail_step JsonEnd Blank b pending tail k shut t = (t.0 ++ b ∷ [], all_push IsBlank t.0 b t.1 k, text_after b b pending tail (10 ∷ 35 ∷ t.0) refl t.2)
tail_step JsonEnd _ b pending tail k shut t = tt
tail_step BytesStart LineFeed b pending tail k shut t = no_chunk b pending tail k t.0 t.1
tail_step BytesStart Blank b pending tail k shut t = (nil_kept pending t.0, mark_more 64 tail b t.1 k)
tail_step BytesStart _ b pending tail k shut t = tt
tail_step ChunkDue (Digit d) b pending tail k shut t = first_digit b d pending tail k t
tail_step ChunkDue Hash b pending tail k shut t = ([], tt, kept_chunks pending (tail ++ b ∷ []) (35 ∷ []) (chunks_as pending (tail ++ b ∷ []) _ _ (ap (λ x. x ∷ []) k) (chunks_more pending tail [] b t)))
tail_step ChunkDue _ b pending tail k shut t = tt
tail_step (Digits n v) LineFeed b pending tail k shut t = data_tail v (pending ++ []) (tail ++ b ∷ []) (data_begins v b t.digits [] pending tail k t.is_length tt t.value (chunks_as pending tail _ _ (sym (append-nil t.digits)) t.inside))
tail_step (Digits n v) Blank b pending tail k shut t = record {
  digits = t.digits;
  blanks = b ∷ [];
  is_length = t.is_length;
  are_blank = (k, tt);
  value = t.value;
  inside = kept_chunks pending (tail ++ b ∷ []) _ (chunks_more pending tail t.digits b t.inside);
}
tail_step (Digits n v) (Digit d) b pending tail k shut t = next_digit n v b d (ltb n 10) pending tail refl k t
tail_step (Digits n v) _ b pending tail k shut t = tt
tail_step (Padding v) LineFeed b pending tail k shut t = data_tail v (pending ++ []) (tail ++ b ∷ []) (data_begins v b t.digits t.blanks pending tail k t.is_length t.are_blank t.value t.inside)
tail_step (Padding v) Blank b pending tail k shut t = record {
  digits = t.digits;
  blanks = t.blanks ++ b ∷ [];
  is_length = t.is_length;
  are_blank = all_push IsBlank t.blanks b t.are_blank k;
  value = t.value;
  inside = kept_chunks pending (tail ++ b ∷ []) _ (chunks_as pending (tail ++ b ∷ []) _ _ (append_assoc t.digits t.blanks (b ∷ [])) (chunks_more pending tail _ b t.inside));
}
tail_step (Padding v) _ b pending tail k shut t = tt
tail_step (Data left) c b pending tail k shut t = data_tail (left - 1) (pending ++ b ∷ []) (tail ++ b ∷ []) (data_next left b pending tail t.0 t.1)
tail_step DataEnd LineFeed b pending tail k shut t = chunk_ends b pending tail k t
tail_step DataEnd _ b pending tail k shut t = tt
tail_step BytesEnd LineFeed b pending tail k shut t = absurd (cc)
tail_step BytesEnd Blank b pending tail k shut t = (t.0 ++ b ∷ [], all_push IsBlank t.0 b t.1 k, kept_chunks pending (tail ++ b ∷ []) _ (chunks_more pending tail (35 ∷ t.0) b t.2))
tail_step BytesEnd _ b pending tail k shut t = tt
tail_step MessageEnd LineFeed b pending tail k shut t = whole_tail b pending tail k t.0 t.1
tail_step MessageEnd Blank b pending tail k shut t = (nil_kept pending t.0, mark_more 35 tail b t.1 k)
tail_step MessageEnd _ b pending tail k shut t = tt
tail_step Whole _ b pending tail k shut t = tt
tail_step (Stuck reason) _ b pending tail k shut t = tt

-- what is read shows which bytes led to it
pub record Told (s : Core) (bytes : List ℕ) : Type 0 where
  pub parts : List Part
  pub tail : List ℕ
  pub are_parts : AllByRecursion IsPart parts
  pub message_is : s.segments ≡ map segment_of_part parts
  pub is : bytes ≡ flat_map part_bytes parts ++ tail
  pub after : Tail s.phase s.pending tail

told_open : (s : Core) (c : Class) (b : ℕ) (bytes : List ℕ) → Classified b c → closed s.phase c ≡ None → Told s bytes → Told (moved s c b) (bytes ++ b ∷ [])
told_open s c b bytes k shut t =
    let same : moved s c b ≡ core s.segments (s.pending ++ added s.phase c b) (next_phase s.phase c) = ap (λ o. core (kept s.segments s.pending o (added s.phase c b)).0 (kept s.segments s.pending o (added s.phase c b)).1 (next_phase s.phase c)) shut in
    let more : Told (core s.segments (s.pending ++ added s.phase c b) (next_phase s.phase c)) (bytes ++ b ∷ []) = record {
      parts = t.parts;
      tail = t.tail ++ b ∷ [];
      are_parts = t.are_parts;
      message_is = t.message_is;
      is = ap (λ x. x ++ b ∷ []) t.is ∙ append_assoc (flat_map part_bytes t.parts) t.tail (b ∷ []);
      after = tail_step s.phase c b s.pending t.tail k shut t.after;
    } in
    subst (λ (x : Core). Told x (bytes ++ b ∷ [])) (sym same) more

text_is : (text : List ℕ) → OpensText text → IsText text
text_is [] opens = opens
text_is (b ∷ bs) opens = opens

told_json : (segments : List Segment) (pending : List ℕ) (b : ℕ) (bytes : List ℕ) → b ≡ 10 → Told (core segments pending JsonEnd) bytes → Told (core (segments ++ segment kinds.Json pending ∷ []) [] Due) (bytes ++ b ∷ [])
told_json segments pending b bytes feed t =
    let text = t.after.2 in
    let part = TextPart text.white pending t.after.0 in
    let joined : flat_map part_bytes (t.parts ++ part ∷ []) ≡ flat_map part_bytes t.parts ++ (text.white ++ (pending ++ (10 ∷ 35 ∷ (t.after.0 ++ 10 ∷ [])))) = flat_map_push part_bytes t.parts part ∙ ap (λ x. flat_map part_bytes t.parts ++ x) (simp append_assoc) in
    record {
      parts = t.parts ++ part ∷ [];
      tail = [];
      are_parts = all_push IsPart t.parts part t.are_parts (text.are_white, text_is pending text.opens, t.after.1);
      message_is = ap (λ x. x ++ segment kinds.Json pending ∷ []) t.message_is ∙ sym (map-append segment_of_part t.parts (part ∷ []));
      is = ap (λ x. bytes ++ x ∷ []) feed ∙ ap (λ x. x ++ 10 ∷ []) t.is ∙ ap (λ x. (flat_map part_bytes t.parts ++ x) ++ 10 ∷ []) text.is ∙ rw joined (simp (append_assoc, append-nil));
      after = (refl, tt);
    }

told_bytes : (segments : List Segment) (pending : List ℕ) (b : ℕ) (bytes : List ℕ) → b ≡ 10 → Told (core segments pending BytesEnd) bytes → Told (core (segments ++ segment kinds.Bytes pending ∷ []) [] Due) (bytes ++ b ∷ [])
told_bytes segments pending b bytes feed t =
    let inside = t.after.2 in
    let part = BytesPart inside.white inside.blanks inside.chunks t.after.0 in
    let joined : flat_map part_bytes (t.parts ++ part ∷ []) ≡ flat_map part_bytes t.parts ++ (inside.white ++ 64 ∷ (inside.blanks ++ 10 ∷ (flat_map chunk_bytes inside.chunks ++ (35 ∷ (t.after.0 ++ 10 ∷ []))))) = flat_map_push part_bytes t.parts part ∙ ap (λ x. flat_map part_bytes t.parts ++ x) (simp append_assoc) in
    record {
      parts = t.parts ++ part ∷ [];
      tail = [];
      are_parts = all_push IsPart t.parts part t.are_parts (inside.are_white, inside.are_blank, inside.are_chunks, t.after.1);
      message_is = ap (λ x. x ++ segment kinds.Bytes pending ∷ []) t.message_is ∙ ap (λ x. map segment_of_part t.parts ++ segment kinds.Bytes x ∷ []) inside.message_is ∙ sym (map-append segment_of_part t.parts (part ∷ []));
      is = ap (λ x. bytes ++ x ∷ []) feed ∙ ap (λ x. x ++ 10 ∷ []) t.is ∙ ap (λ x. (flat_map part_bytes t.parts ++ x) ++ 10 ∷ []) inside.is ∙ rw joined (simp (append_assoc, append-nil));
      after = (refl, tt);
    }

-- one byte more
told_step : (segments : List Segment) (pending : List ℕ) (p : Phase) (c : Class) (b : ℕ) (bytes : List ℕ) → Classified b c → Told (core segments pending p) bytes → Told (moved (core segments pending p) c b) (bytes ++ b ∷ [])
told_step segments pending JsonEnd LineFeed b bytes k t = told_json segments pending b bytes k t
told_step segments pending BytesEnd LineFeed b bytes k t = told_bytes segments pending b bytes k t
told_step segments pending JsonEnd c b bytes k t = told_open (core segments pending JsonEnd) c b bytes k refl t
told_step segments pending BytesEnd c b bytes k t = told_open (core segments pending BytesEnd) c b bytes k refl t
told_step segments pending Due c b bytes k t = told_open (core segments pending Due) c b bytes k refl t
told_step segments pending Text c b bytes k t = told_open (core segments pending Text) c b bytes k refl t
told_step segments pending LineStart c b bytes k t = told_open (core segments pending LineStart) c b bytes k refl t
told_step segments pending BytesStart c b bytes k t = told_open (core segments pending BytesStart) c b bytes k refl t
told_step segments pending ChunkDue c b bytes k t = told_open (core segments pending ChunkDue) c b bytes k refl t
told_step segments pending (Digits n v) c b bytes k t = told_open (core segments pending (Digits n v)) c b bytes k refl t
told_step segments pending (Padding v) c b bytes k t = told_open (core segments pending (Padding v)) c b bytes k refl t
told_step segments pending (Data left) c b bytes k t = told_open (core segments pending (Data left)) c b bytes k refl t
told_step segments pending DataEnd c b bytes k t = told_open (core segments pending DataEnd) c b bytes k refl t
told_step segments pending MessageEnd c b bytes k t = told_open (core segments pending MessageEnd) c b bytes k refl t
told_step segments pending Whole c b bytes k t = told_open (core segments pending Whole) c b bytes k refl t
told_step segments pending (Stuck reason) c b bytes k t = told_open (core segments pending (Stuck reason)) c b bytes k refl t

told_on : (s : Core) (prefix bytes : List ℕ) → Told s prefix → Told (walk s bytes) (prefix ++ bytes)
told_on s prefix [] t = subst (Told s) (sym (append-nil prefix)) t
told_on s prefix (b ∷ bs) t =
    let one = told_step s.segments s.pending s.phase (class_of b) b prefix (classified b) t in
    let more = told_on (moved s (class_of b) b) (prefix ++ b ∷ []) bs one in
    subst (Told (walk s (b ∷ bs))) (append_assoc prefix (b ∷ []) bs) more

-- whatever was read
pub told : (bytes : List ℕ) → Told (walk outset bytes) bytes
told bytes = told_on outset [] bytes (record { parts = []; tail = []; are_parts = tt; message_is = refl; is = refl; after = (refl, tt) })

pub told_at : (s : Core) (bytes : List ℕ) → walk outset bytes ≡ s → Told s bytes
told_at s bytes e = subst (λ (x : Core). Told x bytes) e (told bytes)

-- a whole message is a spelling
pub whole_spelling : (message : List Segment) (pending bytes : List ℕ) → walk outset bytes ≡ core message pending Whole → IsSpelling bytes message
whole_spelling message pending bytes e =
    let t = told_at (core message pending Whole) bytes e in
    let mark = t.after.2 in
    record {
      parts = t.parts;
      white = mark.white;
      blanks = mark.blanks;
      are_parts = t.are_parts;
      are_white = mark.are_white;
      are_blank = mark.are_blank;
      spelled = t.is ∙ ap (λ x. flat_map part_bytes t.parts ++ x) (t.after.3 ∙ ap (λ x. x ++ 10 ∷ []) mark.is) ∙ simp append_assoc;
      message_is = t.message_is;
    }
