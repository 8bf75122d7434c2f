-- A request from its properties.
use Rattle.std.proofs.Common.{◌≡◌, ℕ, List, Option, Result, Ok, Err, sym, ap, ◌∙◌, option_map}
use Rattle.doip_json.specs.declared.value.Json.{Json}
use Rattle.doip_json.specs.Value.{Value}
use Rattle.doip_json.specs.Meaning.{value_of}
use Rattle.doip_segment.specs.Segments.{Segment}
use Rattle.doip_message.specs.declared.request.Why.{Why}
use Rattle.doip_message.specs.declared.request.Why.TheVariants as whys
use Rattle.doip_message.specs.declared.request.FieldName.TheVariants as names
use Rattle.doip_message.specs.declared.request.RequestFault.{RequestFault}
use Rattle.doip_message.specs.Asked.{Properties, Asked}
use Rattle.doip_message.specs.Reading.{PropertyValues, property_values, optional_text, properties_in, fault_with, with_request_id, request_with, first_object, further, request, Fails}

-- what the properties ask doesn't depend on the request id
same_properties : (f : PropertyValues) (v : Value) (r : Option Value) (others : List Segment) → f ≡ property_values v
    → properties_in (record f { request_id = r }) others ≡ properties_in (property_values v) others
unfolding properties_in
same_properties f v r others e = ap (λ (g : PropertyValues). properties_in (record g { request_id = r }) others) e

-- the request once its request id is read
identified : (segments : List Segment) (v : Value) (f : PropertyValues) (r : Option Value) (request_id : Option (List ℕ)) → first_object segments ≡ Ok v → f ≡ property_values v
    → optional_text names.RequestId f.request_id ≡ Ok request_id → request segments ≡ with_request_id (Ok request_id) (properties_in (record f { request_id = r }) (further segments))
identified segments v f r request_id first fields text =
    let others : List Segment = further segments in
    let same : optional_text names.RequestId (property_values v).request_id ≡ Ok request_id = ap (λ (g : PropertyValues). optional_text names.RequestId g.request_id) (sym fields) ∙ text in
    ap (λ (t : Result Value Why). request_with t others) first ∙ ap (λ (m : Result (Option (List ℕ)) Why). with_request_id m (properties_in (property_values v) others)) same
    ∙ ap (λ (p : Result Properties Why). with_request_id (Ok request_id) p) (sym (same_properties f v r others fields))

pub asks : (segments : List Segment) (v : Value) (f : PropertyValues) (r : Option Value) (given taken : Option Json) (request_id : Option (List ℕ)) (properties : Properties) → first_object segments ≡ Ok v → f ≡ property_values v
    → f.request_id ≡ option_map value_of given → taken ≡ given → optional_text names.RequestId (option_map value_of taken) ≡ Ok request_id
    → properties_in (record f { request_id = r }) (further segments) ≡ Ok properties → request segments ≡ Ok (record { request_id = request_id; properties = properties })
asks segments v f r given taken request_id properties first fields is took text asked =
    let here : optional_text names.RequestId f.request_id ≡ Ok request_id = ap (optional_text names.RequestId) (is ∙ sym (ap (option_map value_of) took)) ∙ text in
    identified segments v f r request_id first fields here ∙ ap (λ (p : Result Properties Why). with_request_id (Ok request_id) p) asked

-- a fault passes on with the request id, unless it is out of memory
pass : (why : Why) (fault : RequestFault) (inner : Result Properties Why) (outer : Result Asked RequestFault) → (inner ≡ Err why → outer ≡ Err fault) → Fails why why inner → Fails why fault outer
pass whys.NoSegment fault inner outer f h = f h
pass whys.FirstIsBytes fault inner outer f h = f h
pass (whys.Json j) fault inner outer f h = f h
pass whys.NotTable fault inner outer f h = f h
pass (whys.Field n) fault inner outer f h = f h
pass whys.TwoInputs fault inner outer f h = f h
pass whys.Memory fault inner outer f h = tt

pub fails : (segments : List Segment) (v : Value) (f : PropertyValues) (r : Option Value) (given taken : Option Json) (request_id : Option (List ℕ)) (why : Why) → first_object segments ≡ Ok v → f ≡ property_values v
    → f.request_id ≡ option_map value_of given → taken ≡ given → optional_text names.RequestId (option_map value_of taken) ≡ Ok request_id
    → Fails why why (properties_in (record f { request_id = r }) (further segments)) → Fails why (fault_with request_id why) (request segments)
fails segments v f r given taken request_id why first fields is took text failed =
    let here : optional_text names.RequestId f.request_id ≡ Ok request_id = ap (optional_text names.RequestId) (is ∙ sym (ap (option_map value_of) took)) ∙ text in
    pass why (fault_with request_id why) _ _
    (λ e. identified segments v f r request_id first fields here ∙ ap (λ (p : Result Properties Why). with_request_id (Ok request_id) p) e) failed
