-- The canonical spelling is a spelling.
use Rattle.std.proofs.Common.{◌≡◌, ◌≢◌, ℕ, ◌+◌, ◌-◌, ◌*◌, ◌%◌, ◌^◌, ◌<◌, inr, List, [], ◌∷◌, ◌++◌, length, map, Bool, true, false, refl, sym, ap, ◌∙◌, subst, arith, append_assoc, eqb}
use Rattle.std.specs.List.{flat_map, AllByRecursion}
use Rattle.std.specs.Fmt.{decimal}
use Rattle.std.proofs.lemmas.List.{append-nil}
use Rattle.std.proofs.lemmas.Fmt.{decimal_by_steps, length-decimal-le, decimal_nonempty}
use Rattle.doip_segment.specs.declared.kind.Kind.{Kind}
use Rattle.doip_segment.specs.declared.kind.Kind.TheVariants as kinds
use Rattle.doip_segment.specs.Segments.{Segment, segment}
use Rattle.doip_segment.specs.Grammar.{IsDigit, value_of, NoHash, IsText, IsChunk, Part, TextPart, BytesPart, IsPart, part_bytes, segment_of_part, IsSpelling}
use Rattle.doip_segment.specs.Canonical.{IsPlain, CanBeWritten, IsEncodable, AreEncodable, chunks_text, content_text, segment_text, canonical}
use Rattle.doip_segment.proofs.ClassLemmas.{eq_tests}
use Rattle.doip_segment.proofs.TellLemmas.{all_push, value_push}

-- digits of a number, and the number that they write
record Writes (n : ℕ) (digits : List ℕ) : Type 0 where
  all : AllByRecursion IsDigit digits
  value : value_of digits ≡ n

decimal_writes : (n : ℕ) → n < 2 ^ 64 → Writes n (decimal n)
decimal_writes = decimal_by_steps Writes (λ n low. record { all = ((omega arith, omega arith), tt); value = omega arith }) (λ n ds high w. record {
  all = all_push IsDigit ds (48 + n % 10) w.all (omega arith, omega arith);
  value = value_push 0 ds (48 + n % 10) ∙ (let e : 10 * value_of ds + (48 + n % 10 - 48) ≡ n = omega (arith, w.value) in e);
})

chunk_is : (bytes : List ℕ) → length bytes < 10 ^ 10 → IsChunk (record { digits = decimal (length bytes); blanks = []; content = bytes })
chunk_is bytes low =
    let small : length bytes < 2 ^ 64 = omega (arith, low) in
    let w = decimal_writes (length bytes) small in
    record {
      is_length = record { are_digits = w.all; some = decimal_nonempty (length bytes) small; most = length-decimal-le 10 (length bytes) (omega arith) low small };
      are_blank = tt;
      size = w.value;
    }

not_true : (t : Bool) → (t ≡ true → ⊥) → t ≡ false
not_true true h = absurd (h refl)
not_true false h = refl

-- without a line feed no line begins
no_line : (bs : List ℕ) → AllByRecursion (λ x. x ≢ 10) bs → NoHash false bs
no_line [] all = tt
no_line (b ∷ bs) all = ((λ h. absurd (let f : false ≡ true = h in cc)), subst (λ (t : Bool). NoHash t bs) (sym (not_true (eqb b 10) (λ e. all.0 (eq_tests b 10 e)))) (no_line bs all.1))

plain_text : (bytes : List ℕ) → IsPlain bytes → IsText bytes
plain_text [] is = is
plain_text (b ∷ bs) is = (is.0, no_line (b ∷ bs) ((λ e. is.0.0 (inr e)), is.1))

-- the part that writes a segment
abbrev bytes_part : List ℕ → Part
bytes_part [] = BytesPart [] [] [] []
bytes_part (b ∷ bs) = BytesPart [] [] (record { digits = decimal (length (b ∷ bs)); blanks = []; content = b ∷ bs } ∷ []) []

abbrev content_part : Kind → List ℕ → Part
content_part kinds.Json bytes = TextPart [] bytes []
content_part kinds.Bytes bytes = bytes_part bytes

bytes_part_is : (bytes : List ℕ) → length bytes < 10 ^ 10 → IsPart (bytes_part bytes)
bytes_part_is [] low = (tt, tt, tt, tt)
bytes_part_is (b ∷ bs) low = (tt, tt, (chunk_is (b ∷ bs) low, tt), tt)

content_part_is : (kind : Kind) (bytes : List ℕ) → CanBeWritten kind bytes → IsPart (content_part kind bytes)
content_part_is kinds.Json bytes can = (tt, plain_text bytes can, tt)
content_part_is kinds.Bytes bytes can = bytes_part_is bytes can

closes : (chunk : List ℕ) → ((chunk ++ []) ++ 35 ∷ []) ++ 10 ∷ [] ≡ chunk ++ 35 ∷ 10 ∷ []
closes chunk = ap (λ x. (x ++ 35 ∷ []) ++ 10 ∷ []) (append-nil chunk) ∙ append_assoc chunk (35 ∷ []) (10 ∷ [])

bytes_part_text : (bytes : List ℕ) → part_bytes (bytes_part bytes) ≡ content_text kinds.Bytes bytes
bytes_part_text [] = refl
bytes_part_text (b ∷ bs) = ap (λ x. 64 ∷ 10 ∷ x) (closes (chunks_text (b ∷ bs)))

content_part_text : (kind : Kind) (bytes : List ℕ) → part_bytes (content_part kind bytes) ≡ content_text kind bytes
content_part_text kinds.Json bytes = simp append_assoc
content_part_text kinds.Bytes bytes = bytes_part_text bytes

bytes_part_says : (bytes : List ℕ) → segment_of_part (bytes_part bytes) ≡ segment kinds.Bytes bytes
bytes_part_says [] = refl
bytes_part_says (b ∷ bs) = ap (segment kinds.Bytes) (append-nil (b ∷ bs))

content_part_says : (kind : Kind) (bytes : List ℕ) → segment_of_part (content_part kind bytes) ≡ segment kind bytes
content_part_says kinds.Json bytes = refl
content_part_says kinds.Bytes bytes = bytes_part_says bytes

abbrev parts_of : List Segment → List Part
parts_of [] = []
parts_of (s ∷ ss) = content_part s.kind s.bytes ∷ parts_of ss

parts_are : (segments : List Segment) → AllByRecursion IsEncodable segments → AllByRecursion IsPart (parts_of segments)
parts_are [] all = tt
parts_are (s ∷ ss) all = (content_part_is s.kind s.bytes all.0, parts_are ss all.1)

parts_text : (segments : List Segment) → flat_map part_bytes (parts_of segments) ≡ flat_map segment_text segments
parts_text [] = refl
parts_text (s ∷ ss) = ap (λ x. x ++ flat_map part_bytes (parts_of ss)) (content_part_text s.kind s.bytes) ∙ ap (λ x. segment_text s ++ x) (parts_text ss)

parts_say : (segments : List Segment) → segments ≡ map segment_of_part (parts_of segments)
parts_say [] = refl
parts_say (s ∷ ss) = ap (λ x. s ∷ x) (parts_say ss) ∙ ap (λ x. x ∷ map segment_of_part (parts_of ss)) (sym (content_part_says s.kind s.bytes))

pub canonical_spelling : (segments : List Segment) → AreEncodable segments → IsSpelling (canonical segments) segments
canonical_spelling segments can = record {
  parts = parts_of segments;
  white = [];
  blanks = [];
  are_parts = parts_are segments can.0;
  are_white = tt;
  are_blank = tt;
  spelled = ap (λ x. x ++ 35 ∷ 10 ∷ []) (sym (parts_text segments)) ∙ simp (append_assoc, append-nil);
  message_is = parts_say segments;
}
