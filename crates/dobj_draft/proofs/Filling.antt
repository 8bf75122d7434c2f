-- Elements whose bytes come: what is listed of them stays, and the bytes are those of segments.
use Rattle.std.proofs.Common.{◌≡◌, ℕ, suc, ◌+◌, ◌≤◌, List, [], ◌∷◌, map, Bool, true, false, if◌then◌else◌, Ok, nat_eq}
use Rattle.std.proofs.Common.{codes, refl, sym, ap, subst, ◌∙◌, arith}
use Rattle.std.specs.List.{AllByRecursion}
use Rattle.std.specs.Prelude.{length, IfSome}
use Rattle.std.specs.Cmp.Lexicographic.{pointwise}
use Rattle.doip_json.specs.Look.{field_of}
use Rattle.doip_segment.specs.declared.kind.Kind.{Kind}
use Rattle.doip_segment.specs.declared.kind.Kind.TheVariants as kinds
use Rattle.doip_segment.specs.Segments.{Segment}
use Rattle.dobj_draft.specs.declared.draft.DraftElement.{DraftElement}
use Rattle.dobj_draft.specs.Draft.{value_of_kind, named_in, expected, bytes_in, bytes_of_kind, with_payload, filled}
use Rattle.dobj_draft.specs.Draft.{with_bytes, payloads}
use Rattle.dobj_draft.specs.Made.{unfilled}
use Rattle.dobj_draft.proofs.Kept.{then_value, ok_value}

-- each element's bytes that came are at most so many
abbrev pub ComeWithin : ℕ → List DraftElement → Type 0
ComeWithin n = AllByRecursion (λ e. IfSome e.bytes (λ bytes. length bytes ≤ n))

-- each segment has at most so many bytes
abbrev pub AreWithin : ℕ → List Segment → Type 0
AreWithin n = AllByRecursion (λ s. length s.bytes ≤ n)

filled_same : (id bytes : List ℕ) (es : List DraftElement) → map unfilled (filled id bytes es) ≡ map unfilled es
filled_same id bytes [] = refl
filled_same id bytes (e ∷ es) = here (pointwise nat_eq id e.id) (filled_same id bytes es)
  where
    here : (b : Bool) → map unfilled (filled id bytes es) ≡ map unfilled es
        → map unfilled (if b then with_payload bytes e ∷ es else e ∷ filled id bytes es) ≡ map unfilled (e ∷ es)
    here true later = refl
    here false later = ap (λ (x : List DraftElement). unfilled e ∷ x) later

filled_within : (n : ℕ) (id bytes : List ℕ) (es : List DraftElement) → length bytes ≤ n → ComeWithin n es
    → ComeWithin n (filled id bytes es)
filled_within n id bytes [] short all = tt
filled_within n id bytes (e ∷ es) short all = here (pointwise nat_eq id e.id) (filled_within n id bytes es short all.1)
  where
    here : (b : Bool) → ComeWithin n (filled id bytes es)
        → ComeWithin n (if b then with_payload bytes e ∷ es else e ∷ filled id bytes es)
    here true later = (short, all.1)
    here false later = (all.0, later)

bytes_are : (m : ℕ) (kind : Kind) (own bytes : List ℕ) → bytes_of_kind m kind own ≡ Ok bytes → own ≡ bytes
bytes_are m kinds.Bytes own bytes e = ok_value own bytes e
bytes_are m kinds.Json own bytes e = absurd (cc)

bytes_within : (n m : ℕ) (rest : List Segment) (bytes : List ℕ) → bytes_in m rest ≡ Ok bytes → AreWithin n rest
    → length bytes ≤ n
bytes_within n m [] bytes e all = absurd (cc)
bytes_within n m (s ∷ rest) bytes e all = omega (arith, all.0, ap length (bytes_are m s.kind s.bytes bytes e))

-- elements before and after
pub record Fills (n : ℕ) (es made : List DraftElement) : Type 0 where
  pub same : map unfilled made ≡ map unfilled es
  pub within : ComeWithin n es → ComeWithin n made

pair_fills : (n m : ℕ) (s : Segment) (rest : List Segment) (es made : List DraftElement)
    → with_bytes m s rest es ≡ Ok made → AreWithin n rest → Fills n es made
pair_fills n m s rest es made e all =
    let one = then_value (value_of_kind m s.kind s.bytes) _ made e in
    let two = then_value (named_in m (field_of (codes "id") one.0)) _ made one.2 in
    let three = then_value (expected two.0 es) _ made two.2 in
    let four = then_value (bytes_in (suc m) rest) _ made three.2 in
    let is = ok_value (filled two.0 four.0 es) made four.2 in
    record {
      same = ap (map unfilled) (sym is) ∙ filled_same two.0 four.0 es;
      within = λ before. subst (ComeWithin n) is
          (filled_within n two.0 four.0 es (bytes_within n (suc m) rest four.0 four.1 all) before);
    }

pub payloads_fill : (n m : ℕ) (ss : List Segment) (es made : List DraftElement) → payloads m ss es ≡ Ok made
    → AreWithin n ss → Fills n es made
payloads_fill n m [] es made e all =
    let is = ok_value es made e in
    record { same = ap (map unfilled) (sym is); within = λ before. subst (ComeWithin n) is before }
payloads_fill n m (s ∷ []) es made e all = pair_fills n m s [] es made e all.1
payloads_fill n m (s ∷ b ∷ rest) es made e all =
    let one = then_value (with_bytes m s (b ∷ rest) es) (payloads (m + 2) rest) made e in
    let first = pair_fills n m s (b ∷ rest) es one.0 one.1 all.1 in
    let later = payloads_fill n (m + 2) rest one.0 made one.2 all.1.1 in
    record { same = later.same ∙ first.same; within = λ before. later.within (first.within before) }
