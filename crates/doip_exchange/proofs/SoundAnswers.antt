-- A response whose parts are sound has a sound first segment.
use Rattle.std.proofs.Common.{ℕ, List, [], ◌∷◌, Option, None, Some, codes, IsUtf8, option_map, refl}
use Rattle.std.specs.List.Sorted.{IsStrictlySortedBy}
use Rattle.json.proofs.Printed.Utf8.{IsUtf8-are_ascii}
use Rattle.doip_json.specs.Value.{Value, text, table, entries_from}
use Rattle.doip_json.specs.Sound.{IsSound}
use Rattle.doip_message.specs.Reply.{Replied, attributes_value, output_value, status_text}
use Rattle.doip_exchange.specs.Answer.{answer_value}
use Rattle.doip_exchange.specs.Held.{IsSoundIf}
use Rattle.doip_exchange.proofs.Keys.{replied_entries}

attributes_key : IsUtf8 (codes "attributes")
attributes_key = IsUtf8-are_ascii _ refl

output_key : IsUtf8 (codes "output")
output_key = IsUtf8-are_ascii _ refl

id_key : IsUtf8 (codes "requestId")
id_key = IsUtf8-are_ascii _ refl

status_key : IsUtf8 (codes "status")
status_key = IsUtf8-are_ascii _ refl

entries_sound : (a o r : Option Value) (s : Value) → IsSoundIf a → IsSoundIf o → IsSoundIf r → IsSound s
    → IsSound (table (entries_from (replied_entries a o r s)))
unfolding IsStrictlySortedBy
entries_sound None None None s ha ho hr hs = ((tt, tt), (status_key, hs, tt))
entries_sound None None (Some r) s ha ho hr hs = (((refl, tt), (tt, tt)), (id_key, hr, (status_key, hs, tt)))
entries_sound None (Some o) None s ha ho hr hs = (((refl, tt), (tt, tt)), (output_key, ho, (status_key, hs, tt)))
entries_sound None (Some o) (Some r) s ha ho hr hs =
    (((refl, (refl, tt)), ((refl, tt), (tt, tt))), (output_key, ho, (id_key, hr, (status_key, hs, tt))))
entries_sound (Some a) None None s ha ho hr hs = (((refl, tt), (tt, tt)), (attributes_key, ha, (status_key, hs, tt)))
entries_sound (Some a) None (Some r) s ha ho hr hs =
    (((refl, (refl, tt)), ((refl, tt), (tt, tt))), (attributes_key, ha, (id_key, hr, (status_key, hs, tt))))
entries_sound (Some a) (Some o) None s ha ho hr hs =
    (((refl, (refl, tt)), ((refl, tt), (tt, tt))), (attributes_key, ha, (output_key, ho, (status_key, hs, tt))))
entries_sound (Some a) (Some o) (Some r) s ha ho hr hs = (
  ((refl, (refl, (refl, tt))), ((refl, (refl, tt)), ((refl, tt), (tt, tt)))),
  (attributes_key, ha, (output_key, ho, (id_key, hr, (status_key, hs, tt)))),
)

listed_sound : (es : List (List ℕ × Value)) → IsSound (table (entries_from es)) → IsSoundIf (attributes_value es)
listed_sound [] h = tt
listed_sound (e ∷ es) h = h

pub sound_answer : (p : Replied) → IsSound (table (entries_from p.attributes)) → IsSoundIf (output_value p.output)
    → IsSoundIf (option_map text p.request_id) → IsUtf8 (status_text p.status) → IsSound (answer_value p)
sound_answer p attributes output id status =
    entries_sound (attributes_value p.attributes) (output_value p.output) (option_map text p.request_id)
    (text (status_text p.status)) (listed_sound p.attributes attributes) output id status
