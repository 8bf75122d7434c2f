-- One item more of a list that a loop takes by its places.
use Rattle.std.proofs.Common.{◌≡◌, ℕ, ◌+◌, ◌<◌, List, [], ◌∷◌, ◌++◌, length, take, map, get_or, codes, ap, sym, ◌∙◌, append_assoc, append-nil}
use Rattle.std.specs.List.{flat_map}
use Rattle.doip_json.specs.Value.{text}
use Rattle.doip_json.specs.Text.{text_of}
use Rattle.doip_segment.specs.declared.kind.Kind.TheVariants as kinds
use Rattle.doip_segment.specs.Canonical.{content_text, segment_text}
use Rattle.dobj_model.specs.declared.elements.Element.{Element}
use Rattle.dobj_model.specs.Shown.{object_with}
use Rattle.dobj_model.specs.Parts.{element_segments}
use Rattle.std.proofs.lemmas.List.{take_more, map-append, flat_map_more}
use Rattle.std.proofs.lemmas.Grind.{flat_map-append}

module _ {X : Type 0} (xs : List X) (i : ℕ) (x : X) (within : i < length xs) (is : x ≡ get_or xs i x) where
  -- the items up to and with this place
  take_next : take (i + 1) xs ≡ take i xs ++ x ∷ []
  take_next = take_more xs i x within ∙ ap (λ y. take i xs ++ y ∷ []) (sym is)

  pub map_next : {Y : Type 0} (f : X → Y) → map f (take i xs) ++ f x ∷ [] ≡ map f (take (i + 1) xs)
  map_next f = sym (ap (map f) take_next ∙ map-append f (take i xs) (x ∷ []))

  pub flat_next : {Y : Type 0} (f : X → List Y) → flat_map f (take i xs) ++ f x ≡ flat_map f (take (i + 1) xs)
  flat_next f = flat_map_more f [] (take i xs) x ∙ sym (ap (flat_map f) take_next)

from_right : (o s a b : List ℕ) → ((o ++ s) ++ a) ++ b ≡ o ++ (s ++ (a ++ (b ++ [])))
from_right o s a b = simp (append_assoc, append-nil)

-- the segments of one more element, after those of the elements before it
pub segments_next : (es : List Element) (i : ℕ) (e : Element) → i < length es → e ≡ get_or es i e
    → (old out named whole : List ℕ) (id bytes : List ℕ)
    → out ≡ old ++ flat_map segment_text (flat_map element_segments (take i es)) → id ≡ e.id
    → named ≡ out ++ content_text kinds.Json (text_of (object_with ((codes "id", text id) ∷ [])))
    → bytes ≡ e.bytes → whole ≡ named ++ content_text kinds.Bytes bytes
    → whole ≡ old ++ flat_map segment_text (flat_map element_segments (take (i + 1) es))
segments_next es i e within is old out named whole id bytes before same_id with_name same_bytes with_bytes =
    let done = flat_map segment_text (flat_map element_segments (take i es)) in
    let name = content_text kinds.Json (text_of (object_with ((codes "id", text e.id) ∷ []))) in
    with_bytes ∙ ap (λ b. named ++ content_text kinds.Bytes b) same_bytes
    ∙ ap (λ x. x ++ content_text kinds.Bytes e.bytes)
    (with_name ∙ ap (λ t. out ++ content_text kinds.Json (text_of (object_with ((codes "id", text t) ∷ [])))) same_id ∙ ap (λ x. x ++ name) before)
    ∙ from_right old done name (content_text kinds.Bytes e.bytes)
    ∙ ap (λ x. old ++ x) (sym (flat_map-append segment_text (flat_map element_segments (take i es)) (element_segments e))
    ∙ ap (flat_map segment_text) (flat_next es i e within is element_segments))
