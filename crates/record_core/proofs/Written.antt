-- Lengths of bodies, and what is written one after another.
use Rattle.std.proofs.Common.{◌≡◌, ℕ, ◌+◌, ◌<◌, ◌^◌, List, [], ◌∷◌, ◌++◌, length, take, get_or, if◌then◌else◌, Result, Ok, Err, sym, ap, ◌∙◌, subst, append_assoc, append-nil, length-append, arith}
use Rattle.std.specs.Prelude.{OnOk}
use Rattle.std.specs.Result.{is_ok}
use Rattle.std.specs.List.{flat_map}
use Rattle.std.proofs.lemmas.List.{take_more}
use Rattle.dobj_model.specs.declared.elements.Element.{Element}
use Rattle.dobj_model.specs.Elements.{AreElements}
use Rattle.record_core.specs.Body.{head, payload}
use Rattle.record_core.specs.Numbers.{in_two, in_four, in_eight}
use Rattle.record_core.proofs.Numbers.{length-two, length-four, length-eight}

-- what was added if nothing failed
pub appended : {T E : Type 0} (r : Result T E) (old new more own : List ℕ) → new ≡ (if is_ok r then old ++ more else old) → more ≡ own → OnOk r (new ≡ old ++ own)
appended (Ok x) old new more own is same = is ∙ ap (λ l. old ++ l) same
appended (Err e) old new more own is same = tt

flat_push : (es : List Element) (e : Element) → flat_map payload (es ++ e ∷ []) ≡ flat_map payload es ++ payload e
flat_push [] e = append-nil (payload e)
flat_push (x ∷ es) e = ap (λ l. payload x ++ l) (flat_push es e) ∙ sym (append_assoc (payload x) (flat_map payload es) (payload e))

-- one element more
pub payloads_more : (es : List Element) (i : ℕ) (e : Element) → e ≡ get_or es i e → i < length es → flat_map payload (take (i + 1) es) ≡ flat_map payload (take i es) ++ payload e
payloads_more es i e is within = ap (flat_map payload) (take_more es i e within ∙ ap (λ x. take i es ++ x ∷ []) (sym is)) ∙ flat_push (take i es) e

pub length_more : (es : List Element) (i : ℕ) (e : Element) → e ≡ get_or es i e → i < length es → length (flat_map payload (take (i + 1) es)) ≡ length (flat_map payload (take i es)) + (8 + length e.bytes)
length_more es i e is within =
    ap length (payloads_more es i e is within) ∙ omega (arith, length-append (flat_map payload (take i es)) (payload e), length-append (in_eight (length e.bytes)) e.bytes, length-eight (length e.bytes))

pub small_here : (es : List Element) (i : ℕ) (e : Element) → AreElements es → e ≡ get_or es i e → i < length es → length e.bytes < 10 ^ 10
small_here es i e kept is within = subst (λ x. length x.bytes < 10 ^ 10) (sym is) (kept.small i e within)

pub head_length : (c : ℕ) (s : List ℕ) (n : ℕ) (p : List ℕ) → length (1 ∷ head c s n p) ≡ 17 + length s + length p
head_length c s n p =
    omega (arith, length-append (in_eight c) (in_four (length s) ++ (s ++ (in_four n ++ p))), length-append (in_four (length s)) (s ++ (in_four n ++ p)), length-append s (in_four n ++ p), length-append (in_four n) p, length-eight c, length-four (length s), length-four n)

pub removal_length : (n : ℕ) (id : List ℕ) → length (2 ∷ (in_two n ++ id)) ≡ 3 + length id
removal_length n id = omega (arith, length-append (in_two n) id, length-two n)

pub counter_length : (n : ℕ) → length (3 ∷ in_eight n) ≡ 9
counter_length n = omega (arith, length-eight n)
