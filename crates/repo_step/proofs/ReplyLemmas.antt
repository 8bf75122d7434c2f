-- Texts that were added one after another are a reply.
use Rattle.std.proofs.Common.{◌≡◌, ℕ, List, ◌∷◌, ◌++◌, Option, ap, ap₂, ◌∙◌, append_assoc}
use Rattle.std.specs.List.{flat_map}
use Rattle.doip_json.specs.Value.{Value}
use Rattle.doip_json.specs.Text.{text_of}
use Rattle.doip_segment.specs.declared.kind.Kind.TheVariants as kinds
use Rattle.doip_segment.specs.Segments.{Segment, segment}
use Rattle.doip_segment.specs.Canonical.{content_text, segment_text}
use Rattle.doip_message.specs.declared.response.Status.{Status}
use Rattle.doip_message.specs.Asked.{one_value, parts}
use Rattle.doip_message.specs.Reply.{reply_text, refusal, done}
use Rattle.doip_message.specs.Appended.{message_end, value_start, value_end, parts_start, refusal_text}
use Rattle.dobj_model.specs.declared.elements.Element.{Element}
use Rattle.dobj_model.specs.declared.object.ObjectValue.{ObjectValue}
use Rattle.dobj_model.specs.Shown.{shown_form}
use Rattle.dobj_model.specs.Parts.{element_segments, object_segments}
use Rattle.repo_step.specs.declared.refusal.Refusal.{Refusal}
use Rattle.repo_step.specs.Refusals.{refused, refusal_status, refusal_message}

three : (o a b c : List ℕ) → ((o ++ a) ++ b) ++ c ≡ o ++ (a ++ (b ++ c))
three o a b c = simp append_assoc

four : (o a b c d : List ℕ) → (((o ++ a) ++ b) ++ c) ++ d ≡ o ++ (a ++ ((b ++ c) ++ d))
four o a b c d = simp append_assoc

module _ (id : Option (List ℕ)) where
  -- a value between what comes before and after it
  pub value_made : (v : Value) (old first second text new : List ℕ) → first ≡ old ++ value_start → second ≡ first ++ text
      → text ≡ text_of v → value_start ++ (text_of v ++ value_end id) ≡ reply_text (done id (one_value v))
      → new ≡ second ++ value_end id → new ≡ old ++ reply_text (done id (one_value v))
  value_made v old first second text new begun shown is law made =
      made ∙ ap (λ x. x ++ value_end id) (shown ∙ ap₂ (λ x t. x ++ t) begun is)
      ∙ three old value_start (text_of v) (value_end id) ∙ ap (λ x. old ++ x) law

  -- an object with its elements
  pub segments_made : (o : ObjectValue) (es : List Element) (old first form all new : List ℕ) → first ≡ old ++ parts_start id
      → form ≡ first ++ content_text kinds.Json (text_of (shown_form o))
      → all ≡ form ++ flat_map segment_text (flat_map element_segments es) → es ≡ o.elements
      → ((s : Segment) (ss : List Segment) → parts_start id ++ (flat_map segment_text (s ∷ ss) ++ message_end) ≡ reply_text (done id (parts (s ∷ ss))))
      → new ≡ all ++ message_end → new ≡ old ++ reply_text (done id (parts (object_segments o)))
  segments_made o es old first form all new begun shown added same law made =
      let object = content_text kinds.Json (text_of (shown_form o)) in
      let elements = flat_map segment_text (flat_map element_segments o.elements) in
      made ∙ ap (λ x. x ++ message_end)
      (added ∙ ap₂ (λ x e. x ++ flat_map segment_text (flat_map element_segments e)) (shown ∙ ap (λ x. x ++ object) begun) same)
      ∙ four old (parts_start id) object elements message_end
      ∙ ap (λ x. old ++ x) (law (segment kinds.Json (text_of (shown_form o))) (flat_map element_segments o.elements))

  -- a refusal
  pub refused_made : (why : Refusal) (status : Status) (message old new : List ℕ) → status ≡ refusal_status why
      → message ≡ refusal_message why
      → refusal_text id (refusal_status why) (refusal_message why) ≡ reply_text (refusal id (refusal_status why) (refusal_message why))
      → new ≡ old ++ refusal_text id status message → new ≡ old ++ reply_text (refused id why)
  refused_made why status message old new same words law made =
      made ∙ ap₂ (λ s m. old ++ refusal_text id s m) same words ∙ ap (λ x. old ++ x) law
