-- What a request asks, as plain data, and what it or a response brings beside its properties (DOIP 2.0, requests and
-- responses).
use Rattle.std.specs.Prelude.{ℕ, List, Option, option_map}
use Rattle.doip_json.specs.Value.{Value, Entries, entries_from}
use Rattle.doip_json.specs.Meaning.{value_of}
use Rattle.doip_segment.specs.Segments.{Segment}
use Rattle.doip_message.specs.declared.request.Body.{Body}
use Rattle.doip_message.specs.declared.request.Body.TheVariants as bodies
use Rattle.doip_message.specs.declared.request.Request.{Request}

-- no input or output, one value in the first segment, or segments after it
pub data Content : Type 0 where
  no_content : Content
  one_value : Value → Content
  parts : List Segment → Content

-- a body as plain data
abbrev pub content_of : Body → Content
content_of bodies.Nothing = no_content
content_of (bodies.Value value) = one_value (value_of value)
content_of (bodies.Parts message) = parts message.segments

-- the properties after the request id
pub record Properties : Type 0 where
  pub target_id : List ℕ
  pub operation_id : List ℕ
  pub attributes : Entries
  pub authentication : Option Value
  pub input : Content

-- a request: its request id, if it has one, and its other properties
pub record Asked : Type 0 where
  pub request_id : Option (List ℕ)
  pub properties : Properties

-- what a request asks
abbrev pub asked_of : Request → Asked
asked_of q = record {
  request_id = q.request_id;
  properties = record {
    target_id = q.target_id;
    operation_id = q.operation_id;
    attributes = entries_from q.attributes;
    authentication = option_map value_of q.authentication;
    input = content_of q.input;
  };
}
