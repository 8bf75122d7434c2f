-- The message of a request reads back as the request.
use Rattle.std.proofs.Common.{◌≡◌, ℕ, List, Option, None, Some, Result, Ok, option_map, refl, ap, ◌∙◌, arith}
use Rattle.doip_json.specs.declared.fault.TextFault.{TextFault}
use Rattle.doip_json.specs.Value.{Value, text, Entries}
use Rattle.doip_json.specs.Sound.{IsSound}
use Rattle.doip_json.specs.Text.{text_of}
use Rattle.doip_json.specs.Read.{reading}
use Rattle.doip_json.proofs.ReadBack.{reading-text_of}
use Rattle.doip_segment.specs.Segments.{Segment}
use Rattle.doip_message.specs.declared.request.FieldName.TheVariants as names
use Rattle.doip_message.specs.Asked.{Content, Asked}
use Rattle.doip_message.specs.Reading.{PropertyValues, unless_null, optional_text, attributes_in, authentication_in, input_in, properties_in, object_in, with_request_id, request_with, request, request_depth}
use Rattle.doip_message.specs.Reply.{output_value, output_parts}
use Rattle.doip_exchange.specs.Question.{attributes_asked, question_value, request_segments, IsAskable}
use Rattle.doip_exchange.proofs.Kept.{attributes_back, brought_back, shown_back}
use Rattle.doip_exchange.proofs.Keys.{asked_found, question_found}

id_back : (id : Option (List ℕ)) → optional_text names.RequestId (unless_null (option_map text id)) ≡ Ok id
id_back None = refl
id_back (Some s) = refl

-- the properties, from what each of them reads as
properties_back : (target operation : List ℕ) (a w i r who : Option Value) (es : Entries) (c : Content)
    (others : List Segment) → attributes_in (unless_null a) ≡ Ok es → input_in (unless_null i) others ≡ Ok c
    → authentication_in (unless_null w) ≡ who
    → properties_in (asked_found a w i (text operation) r (text target)) others
    ≡ Ok (record { target_id = target; operation_id = operation; attributes = es; authentication = who; input = c })
unfolding properties_in
properties_back target operation a w i r who es c others first second third = rw (first, second, third) refl

-- the request, if the text of its first segment reads back
pub question_back : (q : Asked) → IsAskable q
    → reading (text_of (question_value q)) request_depth ≡ Ok (question_value q) → request (request_segments q) ≡ Ok q
question_back q askable reads =
    let p = q.properties in
    let parts = output_parts p.input in
    let properties = properties_back p.target_id p.operation_id (attributes_asked p.attributes) p.authentication
    (output_value p.input) (option_map text q.request_id) p.authentication p.attributes p.input parts
    (attributes_back p.attributes) (brought_back p.input askable.input)
    (shown_back p.authentication askable.authentication) in
    ap (λ (r : Result Value TextFault). request_with (object_in r) parts) reads
    ∙ (ap (λ (f : PropertyValues). with_request_id (optional_text names.RequestId f.request_id) (properties_in f parts))
    (question_found (attributes_asked p.attributes) p.authentication (output_value p.input) (text p.operation_id)
    (option_map text q.request_id) (text p.target_id))
    ∙ rw (id_back q.request_id, properties) refl)

-- the same of a sound value
pub sound_question_back : (q : Asked) → IsAskable q → IsSound (question_value q) → request (request_segments q) ≡ Ok q
sound_question_back q askable sound =
    question_back q askable (reading-text_of (question_value q) 64 sound askable.nesting (omega arith))
