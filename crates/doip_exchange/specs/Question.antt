-- A request as a message (the properties are those of DOIP 2.0; where each is written is this project's own).
use Rattle.std.specs.Prelude.{◌≢◌, ◌≤◌, ℕ, List, [], ◌∷◌, ◌++◌, Option, None, Some, option_map, codes}
use Rattle.doip_json.specs.Value.{Value, null, text, table, Entries, no_entries, entry, entries_from, depth_of}
use Rattle.doip_json.specs.Text.{text_of}
use Rattle.doip_segment.specs.declared.kind.Kind.TheVariants as kinds
use Rattle.doip_segment.specs.Segments.{Segment, segment}
use Rattle.doip_message.specs.Asked.{Content, no_content, one_value, parts, Asked}
use Rattle.doip_message.specs.Reading.{request_depth}
use Rattle.doip_message.specs.Reply.{entry_for, output_value, output_parts}

-- the attributes, if there are some
abbrev pub attributes_asked : Entries → Option Value
attributes_asked no_entries = None
attributes_asked (entry k v es) = Some (table (entry k v es))

-- The entries of a first segment, ascending: attributes, authentication and input if they are there, the operation, the
-- request id if it is there, and the target.
abbrev pub question_entries : Asked → List (List ℕ × Value)
question_entries q =
    entry_for (codes "attributes") (attributes_asked q.properties.attributes)
    ++ entry_for (codes "authentication") q.properties.authentication
    ++ entry_for (codes "input") (output_value q.properties.input)
    ++ (codes "operationId", text q.properties.operation_id) ∷ []
    ++ entry_for (codes "requestId") (option_map text q.request_id)
    ++ (codes "targetId", text q.properties.target_id) ∷ []

-- the JSON object of a first segment
abbrev pub question_value : Asked → Value
question_value q = table (entries_from (question_entries q))

-- the message of a request: the first segment, and the parts of its input after it
abbrev pub request_segments : Asked → List Segment
request_segments q = segment kinds.Json (text_of (question_value q)) ∷ output_parts q.properties.input

-- an input or an output that a reader doesn't take for none
abbrev pub IsBrought : Content → Type 0
IsBrought no_content = Unit {0}
IsBrought (one_value v) = v ≢ null
IsBrought (parts segments) = segments ≢ []

-- credentials that a reader doesn't take for none
abbrev pub IsShown : Option Value → Type 0
IsShown None = Unit {0}
IsShown (Some v) = (v ≢ null) × (v ≢ table no_entries)

-- A request that can be asked: what it brings and who asks aren't taken for nothing, and its first segment nests no
-- deeper than a reader lets it.
pub record IsAskable (q : Asked) : Type 0 where
  pub input : IsBrought q.properties.input
  pub authentication : IsShown q.properties.authentication
  pub nesting : depth_of (question_value q) ≤ request_depth
