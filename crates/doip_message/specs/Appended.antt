-- The text of a reply in the order in which it is written (where each property is written is this project's own).
use Rattle.std.specs.Prelude.{ℕ, List, [], ◌∷◌, ◌++◌, Option, None, Some, codes}
use Rattle.doip_json.specs.Text.{string_of}
use Rattle.doip_segment.specs.Grammar.{line_feed, hash_sign}
use Rattle.doip_message.specs.declared.response.Status.{Status}
use Rattle.doip_message.specs.declared.response.Status.TheVariants.{Done}
use Rattle.doip_message.specs.Reply.{status_text}

-- the end of a message
abbrev pub message_end : List ℕ
message_end = hash_sign ∷ line_feed ∷ []

-- the end of a first segment, from its status on
abbrev pub status_end : Status → List ℕ
status_end status = codes "\"status\":" ++ (string_of (status_text status) ++ codes "}\n#\n")

-- the end of a first segment, from its request id on, if it has one
abbrev pub first_end : Option (List ℕ) → Status → List ℕ
first_end None status = status_end status
first_end (Some id) status = codes "\"requestId\":" ++ (string_of id ++ (codes "," ++ status_end status))

-- what comes before the text of an output that is one value, and after it
abbrev pub value_start : List ℕ
value_start = codes "{\"output\":"

abbrev pub value_end : Option (List ℕ) → List ℕ
value_end request_id = codes "," ++ (first_end request_id Done ++ message_end)

-- the first segment of a reply whose output is segments, or that has none
abbrev pub parts_start : Option (List ℕ) → List ℕ
parts_start request_id = codes "{" ++ first_end request_id Done

-- the attributes of a refusal, which have its message
abbrev pub message_text : List ℕ → List ℕ
message_text message = codes "{\"attributes\":{\"message\":" ++ (string_of message ++ codes "},")

-- a refusal with its status and its message
abbrev pub refusal_text : Option (List ℕ) → Status → List ℕ → List ℕ
refusal_text request_id status message =
    message_text message ++ (first_end request_id status ++ message_end)
