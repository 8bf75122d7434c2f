-- No two changes have one body.
use Rattle.std.proofs.Common.{◌≡◌, ℕ, ◌<◌, ◌^◌, List, [], ◌∷◌, ◌++◌, length, map, Option, Some, None, unwrap_or, refl, sym, ap, ap₂, ◌∙◌, append_assoc, append-nil, arith}
use Rattle.std.specs.List.{flat_map, AllByRecursion}
use Rattle.doip_json.specs.Value.{Value}
use Rattle.doip_json.specs.Text.{text_of}
use Rattle.dobj_model.specs.declared.elements.Element.{Element}
use Rattle.dobj_model.specs.declared.object.ObjectValue.{ObjectValue}
use Rattle.dobj_model.specs.Name.{IsName}
use Rattle.dobj_model.specs.Shown.{element_form}
use Rattle.record_core.specs.declared.change.Change.{Change}
use Rattle.record_core.specs.declared.change.Change.TheVariants.{Put, Remove, Counter}
use Rattle.record_core.specs.declared.elements.Listed.{Listed}
use Rattle.record_core.specs.declared.format.Format.{Format}
use Rattle.record_core.specs.Body.{form_in, payload, put_content}
use Rattle.record_core.specs.Fields.{listed_in}
use Rattle.record_core.specs.Numbers.{in_two, in_eight}
use Rattle.record_core.specs.Reading.{IsBodyOf}
use Rattle.record_core.specs.Storable.{IsCounterIfThere, IsKept, HasTimesOf}
use Rattle.record_core.proofs.Bodies.{kinds_differ, same_rest, removal_parts, counter_parts, head_matches, some_counter, text_short, value_is, fields_same, fields_are, expected, small_all}
use Rattle.record_core.proofs.Found.{listed_back}
use Rattle.record_core.proofs.Forms.{reads_form}
use Rattle.record_core.proofs.Heads.{same_payload}

one_listed : (a b : Listed) (o : Option Listed) → o ≡ Some a → o ≡ Some b → a ≡ b
one_listed a b o p q = cc

same_element : (e f : Element) → IsName e.id → IsName f.id → element_form e ≡ element_form f → e.bytes ≡ f.bytes → e ≡ f
same_element e f name other form bytes =
    let l = one_listed (record { id = e.id; type_name = e.type_name; attributes = e.attributes }) (record { id = f.id; type_name = f.type_name; attributes = f.attributes }) (listed_in (element_form e)) (listed_back e name) (ap listed_in form ∙ listed_back f other) in
    λ j. record { id = (l j).id; type_name = (l j).type_name; attributes = (l j).attributes; bytes = bytes j }

heads_same : (v w : Value) (vs ws : List Value) → v ∷ vs ≡ w ∷ ws → (v ≡ w) × (vs ≡ ws)
heads_same v w vs ws is = (cc, cc)

same_elements : (es fs : List Element) → AllByRecursion (λ e. IsName e.id) es → AllByRecursion (λ e. IsName e.id) fs → AllByRecursion (λ e. length e.bytes < 2 ^ 64) es → AllByRecursion (λ e. length e.bytes < 2 ^ 64) fs
    → map element_form es ≡ map element_form fs → flat_map payload es ≡ flat_map payload fs → es ≡ fs
same_elements [] [] n m p q forms bytes = refl
same_elements [] (f ∷ fs) n m p q forms bytes = absurd (omega (arith, ap length forms))
same_elements (e ∷ es) [] n m p q forms bytes = absurd (omega (arith, ap length forms))
same_elements (e ∷ es) (f ∷ fs) n m p q forms bytes =
    let heads = heads_same (element_form e) (element_form f) (map element_form es) (map element_form fs) forms in
    let parts = same_payload e.bytes f.bytes (flat_map payload es) (flat_map payload fs) p.0 q.0 (sym (append_assoc (in_eight (length e.bytes)) e.bytes (flat_map payload es)) ∙ (bytes ∙ append_assoc (in_eight (length f.bytes)) f.bytes (flat_map payload fs))) in
    ap₂ (λ x xs. x ∷ xs) (same_element e f n.0 m.0 heads.0 parts.0) (same_elements es fs n.1 m.1 p.1 q.1 heads.1 parts.1)

same_counter : (c d : Option ℕ) → IsCounterIfThere c → IsCounterIfThere d → unwrap_or c 0 ≡ unwrap_or d 0 → c ≡ d
same_counter None None m n is = refl
same_counter None (Some b) m n is = absurd (omega (arith, is, n.0))
same_counter (Some a) None m n is = absurd (omega (arith, is, m.0))
same_counter (Some a) (Some b) m n is = ap Some is

same_object : (format : Format) (o p : ObjectValue) → IsKept o → HasTimesOf format o → IsKept p → HasTimesOf format p → text_of (form_in format o) ≡ text_of (form_in format p) → flat_map payload o.elements ≡ flat_map payload p.elements → o ≡ p
same_object format o p kept times also too text bytes =
    let form = value_is format p also too (text_of (form_in format o)) (form_in format o) text (reads_form format o kept) in
    let fields = fields_same format p also too (form_in format o) (expected o) form (fields_are format o kept times (form_in format o) refl) in
    let elements = same_elements o.elements p.elements kept.elements also.elements (small_all o.elements kept.object.elements.small) (small_all p.elements also.object.elements.small) (ap (λ f. f.elements) fields) bytes in
    λ j. record { id = (fields j).id; type_name = (fields j).type_name; attributes = (fields j).attributes; metadata = (fields j).metadata; elements = elements j }

same_put : (format : Format) (o p : ObjectValue) (c d : Option ℕ) → IsKept o → HasTimesOf format o → IsCounterIfThere c → IsKept p → HasTimesOf format p → IsCounterIfThere d → put_content format o c ≡ put_content format p d → Put o c ≡ Put p d
same_put format o p c d kept times minted also too other is =
    let small : (unwrap_or c 0 < 2 ^ 64) × (length (text_of (form_in format o)) < 2 ^ 32) × (length o.elements < 2 ^ 32) = (some_counter c minted, text_short format o kept, few) in
    let parts = head_matches format p d (put_content format o c) (unwrap_or c 0) (text_of (form_in format o)) (length o.elements) (flat_map payload o.elements) refl small also other is in
    ap₂ Put (same_object format o p kept times also too parts.shown parts.payloads) (same_counter c d minted other parts.counter)
  where
    few : length o.elements < 2 ^ 32
    few = omega (arith, kept.object.elements.few)

-- two changes whose bodies are the same bytes are one
pub same_change : (format : Format) (bytes : List ℕ) (c d : Change) → IsBodyOf format bytes c → IsBodyOf format bytes d → c ≡ d
same_change format bytes (Put o c) (Put p d) x y = same_put format o p c d x.change_is x.of_format x.storable y.change_is y.of_format y.storable (same_rest 1 (put_content format o c) (put_content format p d) (sym x.is ∙ y.is))
same_change format bytes (Put o c) (Remove id) x y = let same = kinds_differ 1 2 _ _ (sym x.is ∙ y.is) in absurd (omega (arith, same))
same_change format bytes (Put o c) (Counter n) x y = let same = kinds_differ 1 3 _ _ (sym x.is ∙ y.is) in absurd (omega (arith, same))
same_change format bytes (Remove id) (Put p d) x y = let same = kinds_differ 2 1 _ _ (sym x.is ∙ y.is) in absurd (omega (arith, same))
same_change format bytes (Remove id) (Remove name) x y =
    let parts = removal_parts (in_two (length id) ++ id) id name (length id) (omega (arith, x.change_is.0.1)) refl y.change_is.0 (same_rest 2 (in_two (length id) ++ id) (in_two (length name) ++ name) (sym x.is ∙ y.is)) in
    ap Remove parts.1
same_change format bytes (Remove id) (Counter n) x y = let same = kinds_differ 2 3 _ _ (sym x.is ∙ y.is) in absurd (omega (arith, same))
same_change format bytes (Counter n) (Put p d) x y = let same = kinds_differ 3 1 _ _ (sym x.is ∙ y.is) in absurd (omega (arith, same))
same_change format bytes (Counter n) (Remove id) x y = let same = kinds_differ 3 2 _ _ (sym x.is ∙ y.is) in absurd (omega (arith, same))
same_change format bytes (Counter m) (Counter n) x y =
    let parts = counter_parts (in_eight m) [] m n (omega (arith, x.storable.1)) (sym (append-nil (in_eight m))) y.storable (same_rest 3 (in_eight m) (in_eight n) (sym x.is ∙ y.is)) in
    ap Counter parts.0
