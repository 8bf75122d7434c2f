-- The parts of a reply, put together, are its text.
use Rattle.std.proofs.Common.{◌≡◌, ℕ, List, [], ◌∷◌, ◌++◌, Option, None, Some, refl, ap, codes, sym, ◌∙◌, append_assoc, append-nil}
use Rattle.std.specs.List.{flat_map}
use Rattle.doip_json.specs.Value.{Value}
use Rattle.doip_json.specs.Text.{text_of, string_of}
use Rattle.doip_segment.specs.Segments.{Segment}
use Rattle.doip_segment.specs.Canonical.{segment_text}
use Rattle.doip_message.specs.declared.response.Status.{Status}
use Rattle.doip_message.specs.declared.response.Status.TheVariants.{Done}
use Rattle.doip_message.specs.Asked.{no_content, one_value, parts}
use Rattle.doip_message.specs.Reply.{reply_text, refusal, done}
use Rattle.doip_message.specs.Appended.{message_end, status_end, value_start, value_end, parts_start, refusal_text}

-- texts one after another, from the left and from the right
from_right : (t b c d e f : List ℕ) → ((((t ++ b) ++ c) ++ d) ++ e) ++ f ≡ t ++ (b ++ (c ++ (d ++ (e ++ f))))
from_right t b c d e f = simp append_assoc

inner : (k s a b : List ℕ) → (k ++ (s ++ a)) ++ b ≡ k ++ (s ++ (a ++ b))
inner k s a b = simp append_assoc

outer : (k s c r : List ℕ) → ((k ++ s) ++ c) ++ r ≡ k ++ (s ++ (c ++ r))
outer k s c r = simp append_assoc

-- the texts of the entries after an output, if there is a request id
abbrev after_output : List ℕ → List ℕ
after_output id =
    44 ∷ ((string_of (codes "requestId") ++ 58 ∷ string_of id)
    ++ 44 ∷ (string_of (codes "status") ++ 58 ∷ string_of (codes "0.DOIP/Status.001")))

after_is : (id : List ℕ) → value_end (Some id) ≡ after_output id ++ (125 ∷ [] ++ (10 ∷ 35 ∷ 10 ∷ [] ++ ([] ++ message_end)))
after_is id =
    ap (λ (x : List ℕ). 44 ∷ x)
    (inner (codes "\"requestId\":") (string_of id) (codes "," ++ status_end Done) message_end
    ∙ sym (outer (codes "\"requestId\":") (string_of id) (44 ∷ (string_of (codes "status") ++ 58 ∷ string_of (codes "0.DOIP/Status.001")))
    (125 ∷ 10 ∷ 35 ∷ 10 ∷ message_end)))

pub value_text : (id : Option (List ℕ)) (v : Value) → value_start ++ (text_of v ++ value_end id) ≡ reply_text (done id (one_value v))
value_text None v =
    ap (λ x. value_start ++ x)
    (sym (from_right (text_of v) (44 ∷ (string_of (codes "status") ++ 58 ∷ string_of (codes "0.DOIP/Status.001"))) (125 ∷ [])
    (10 ∷ 35 ∷ 10 ∷ []) [] message_end))
value_text (Some id) v =
    ap (λ x. value_start ++ (text_of v ++ x)) (after_is id)
    ∙ ap (λ x. value_start ++ x) (sym (from_right (text_of v) (after_output id) (125 ∷ []) (10 ∷ 35 ∷ 10 ∷ []) [] message_end))

pub segments_text : (id : Option (List ℕ)) (s : Segment) (ss : List Segment)
    → parts_start id ++ (flat_map segment_text (s ∷ ss) ++ message_end) ≡ reply_text (done id (parts (s ∷ ss)))
segments_text None s ss = simp append_assoc
segments_text (Some id) s ss = simp append_assoc

pub nothing_text : (id : Option (List ℕ)) → parts_start id ++ message_end ≡ reply_text (done id no_content)
nothing_text None = simp append_assoc
nothing_text (Some id) = simp append_assoc

pub refused_text : (id : Option (List ℕ)) (status : Status) (message : List ℕ) → refusal_text id status message ≡ reply_text (refusal id status message)
refused_text None status message = simp append_assoc
refused_text (Some id) status message = simp append_assoc
