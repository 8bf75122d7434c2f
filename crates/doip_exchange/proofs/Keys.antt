-- The entries of a first segment: put one after another, and found again.
use Rattle.std.proofs.Common.{◌≡◌, ℕ, List, [], ◌∷◌, ◌++◌, Option, None, Some, codes, refl}
use Rattle.doip_json.specs.Value.{Value, table, entries_from}
use Rattle.doip_message.specs.Reading.{PropertyValues, property_values, unless_null}
use Rattle.doip_message.specs.Reply.{entry_for}
use Rattle.doip_exchange.specs.Answer.{ReplyValues, reply_values}
use Rattle.doip_exchange.specs.Held.{put_some}

-- the entries of a request
abbrev pub asked_entries : Option Value → Option Value → Option Value → Value → Option Value → Value → List (List ℕ × Value)
asked_entries attributes who input operation id target =
    entry_for (codes "attributes") attributes ++ entry_for (codes "authentication") who
    ++ entry_for (codes "input") input ++ (codes "operationId", operation) ∷ []
    ++ entry_for (codes "requestId") id ++ (codes "targetId", target) ∷ []

-- those that are put
abbrev pub asked_puts : Option Value → Option Value → Option Value → Value → Option Value → Value → List (List ℕ × Value)
asked_puts attributes who input operation id target =
    put_some (put_some (put_some (put_some (put_some (put_some [] (codes "attributes") attributes)
    (codes "authentication") who) (codes "input") input) (codes "operationId") (Some operation))
    (codes "requestId") id) (codes "targetId") (Some target)

pub puts_ascend : (attributes who input : Option Value) (operation : Value) (id : Option Value) (target : Value)
    → asked_puts attributes who input operation id target ≡ asked_entries attributes who input operation id target
puts_ascend None None None o None t = refl
puts_ascend None None None o (Some d) t = refl
puts_ascend None None (Some i) o None t = refl
puts_ascend None None (Some i) o (Some d) t = refl
puts_ascend None (Some w) None o None t = refl
puts_ascend None (Some w) None o (Some d) t = refl
puts_ascend None (Some w) (Some i) o None t = refl
puts_ascend None (Some w) (Some i) o (Some d) t = refl
puts_ascend (Some a) None None o None t = refl
puts_ascend (Some a) None None o (Some d) t = refl
puts_ascend (Some a) None (Some i) o None t = refl
puts_ascend (Some a) None (Some i) o (Some d) t = refl
puts_ascend (Some a) (Some w) None o None t = refl
puts_ascend (Some a) (Some w) None o (Some d) t = refl
puts_ascend (Some a) (Some w) (Some i) o None t = refl
puts_ascend (Some a) (Some w) (Some i) o (Some d) t = refl

-- the properties that are found
abbrev pub asked_found : Option Value → Option Value → Option Value → Value → Option Value → Value → PropertyValues
asked_found attributes who input operation id target = record {
  request_id = unless_null id;
  target_id = unless_null (Some target);
  operation_id = unless_null (Some operation);
  attributes = unless_null attributes;
  authentication = unless_null who;
  input = unless_null input;
}

pub question_found : (attributes who input : Option Value) (operation : Value) (id : Option Value) (target : Value)
    → property_values (table (entries_from (asked_entries attributes who input operation id target)))
    ≡ asked_found attributes who input operation id target
question_found None None None o None t = refl
question_found None None None o (Some d) t = refl
question_found None None (Some i) o None t = refl
question_found None None (Some i) o (Some d) t = refl
question_found None (Some w) None o None t = refl
question_found None (Some w) None o (Some d) t = refl
question_found None (Some w) (Some i) o None t = refl
question_found None (Some w) (Some i) o (Some d) t = refl
question_found (Some a) None None o None t = refl
question_found (Some a) None None o (Some d) t = refl
question_found (Some a) None (Some i) o None t = refl
question_found (Some a) None (Some i) o (Some d) t = refl
question_found (Some a) (Some w) None o None t = refl
question_found (Some a) (Some w) None o (Some d) t = refl
question_found (Some a) (Some w) (Some i) o None t = refl
question_found (Some a) (Some w) (Some i) o (Some d) t = refl

-- the entries of a response, and the properties that are found
abbrev pub replied_entries : Option Value → Option Value → Option Value → Value → List (List ℕ × Value)
replied_entries attributes output id status =
    entry_for (codes "attributes") attributes ++ entry_for (codes "output") output
    ++ entry_for (codes "requestId") id ++ (codes "status", status) ∷ []

abbrev pub replied_found : Option Value → Option Value → Option Value → Value → ReplyValues
replied_found attributes output id status = record {
  request_id = unless_null id;
  status = unless_null (Some status);
  attributes = unless_null attributes;
  output = unless_null output;
}

pub answer_found : (attributes output id : Option Value) (status : Value)
    → reply_values (table (entries_from (replied_entries attributes output id status)))
    ≡ replied_found attributes output id status
answer_found None None None s = refl
answer_found None None (Some d) s = refl
answer_found None (Some o) None s = refl
answer_found None (Some o) (Some d) s = refl
answer_found (Some a) None None s = refl
answer_found (Some a) None (Some d) s = refl
answer_found (Some a) (Some o) None s = refl
answer_found (Some a) (Some o) (Some d) s = refl
