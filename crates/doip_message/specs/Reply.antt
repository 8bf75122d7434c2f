-- The message of a response, and the text of a reply (the properties are those of DOIP 2.0; where each is written is
-- this project's own).
use Rattle.std.specs.Prelude.{ℕ, ◌≤◌, List, [], ◌∷◌, ◌++◌, length, Option, None, Some, option_map, codes}
use Rattle.std.specs.List.{AllByRecursion}
use Rattle.doip_json.specs.Value.{Value, text, table, entries_from}
use Rattle.doip_json.specs.Text.{text_of}
use Rattle.doip_segment.specs.declared.kind.Kind.TheVariants as kinds
use Rattle.doip_segment.specs.Segments.{Segment, segment}
use Rattle.doip_segment.specs.Canonical.{canonical, IsEncodable}
use Rattle.doip_message.specs.declared.response.Status.{Status}
use Rattle.doip_message.specs.declared.response.Status.TheVariants.{Done, Invalid, NotAuthenticated, NotPermitted, Unknown, InUse, Declined, Other500, Foreign}
use Rattle.doip_message.specs.declared.response.Response.{Response}
use Rattle.doip_message.specs.Asked.{Content, no_content, one_value, parts, content_of}

-- the identifier of a status
abbrev pub status_text : Status → List ℕ
status_text Done = codes "0.DOIP/Status.001"
status_text Invalid = codes "0.DOIP/Status.101"
status_text NotAuthenticated = codes "0.DOIP/Status.102"
status_text NotPermitted = codes "0.DOIP/Status.103"
status_text Unknown = codes "0.DOIP/Status.104"
status_text InUse = codes "0.DOIP/Status.105"
status_text Declined = codes "0.DOIP/Status.200"
status_text Other500 = codes "0.DOIP/Status.500"
status_text (Foreign s) = s

-- a response as plain data: the request id, the status, the entries of the attributes, and the output
pub record Replied : Type 0 where
  pub request_id : Option (List ℕ)
  pub status : Status
  pub attributes : List (List ℕ × Value)
  pub output : Content

-- what a response replies
abbrev pub replied_of : Response → Replied
replied_of p = record {
  request_id = p.request_id;
  status = p.status;
  attributes = p.attributes;
  output = content_of p.output;
}

-- an entry for a value that is there
abbrev pub entry_for : List ℕ → Option Value → List (List ℕ × Value)
entry_for key None = []
entry_for key (Some v) = (key, v) ∷ []

-- the attributes, where there are some
abbrev pub attributes_value : List (List ℕ × Value) → Option Value
attributes_value [] = None
attributes_value (e ∷ es) = Some (table (entries_from (e ∷ es)))

-- the output, where it is one value
abbrev pub output_value : Content → Option Value
output_value (one_value v) = Some v
output_value no_content = None
output_value (parts ss) = None

-- the segments after the first
abbrev pub output_parts : Content → List Segment
output_parts (parts ss) = ss
output_parts no_content = []
output_parts (one_value v) = []

-- the entries of a first segment, ascending: attributes, output and request id if they are there, and the status
abbrev pub entries_with : Option Value → Option Value → Option (List ℕ) → Status → List (List ℕ × Value)
entries_with attributes output request_id status =
    entry_for (codes "attributes") attributes ++ entry_for (codes "output") output
    ++ entry_for (codes "requestId") (option_map text request_id) ++ (codes "status", text (status_text status)) ∷ []

-- those of a response
abbrev pub first_entries : Replied → List (List ℕ × Value)
first_entries p = entries_with (attributes_value p.attributes) (output_value p.output) p.request_id p.status

-- the message of a response
abbrev pub response_segments : Replied → List Segment
response_segments p = segment kinds.Json (text_of (table (entries_from (first_entries p)))) ∷ output_parts p.output

-- the text of a reply: the canonical spelling of its message
abbrev pub reply_text : Replied → List ℕ
reply_text p = canonical (response_segments p)

-- a reply that is done, with an output
abbrev pub done : Option (List ℕ) → Content → Replied
done request_id output = record { request_id = request_id; status = Done; attributes = []; output = output }

-- a refusal: its status and its one attribute
abbrev pub refusal : Option (List ℕ) → Status → List ℕ → Replied
refusal request_id status message = record {
  request_id = request_id;
  status = status;
  attributes = (codes "message", text message) ∷ [];
  output = no_content;
}

-- segments that can be encoded after one more
abbrev pub CanFollow : List Segment → Type 0
CanFollow segments = AllByRecursion IsEncodable segments × (length segments ≤ 2047)
