-- What the private reader of a request holds, as plain data.
use Rattle.std.specs.Prelude.{option_map}
use Rattle.doip_json.specs.Value.{entries_from}
use Rattle.doip_json.specs.Meaning.{value_of}
use Rattle.doip_message.specs.declared.reading.Fields.{Fields}
use Rattle.doip_message.specs.declared.reading.Asking.{Asking}
use Rattle.doip_message.specs.Asked.{Properties, content_of}
use Rattle.doip_message.specs.Reading.{PropertyValues}

-- the properties that were taken out of a first segment
abbrev pub view_of : Fields → PropertyValues
view_of f = record {
  request_id = option_map value_of f.request_id;
  target_id = option_map value_of f.target_id;
  operation_id = option_map value_of f.operation_id;
  attributes = option_map value_of f.attributes;
  authentication = option_map value_of f.authentication;
  input = option_map value_of f.input;
}

-- what is asked after the request id
abbrev pub asking_view : Asking → Properties
asking_view a = record {
  target_id = a.target_id;
  operation_id = a.operation_id;
  attributes = entries_from a.attributes;
  authentication = option_map value_of a.authentication;
  input = content_of a.input;
}
