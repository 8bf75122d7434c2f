-- The message of a response reads back as the response, and no message is out of memory.
use Rattle.std.proofs.Common.{◌≡◌, ℕ, List, [], ◌∷◌, Option, None, Some, Result, Ok, Err, option_map, refl, ap, ◌∙◌, arith}
use Rattle.doip_json.specs.declared.fault.TextFault.{TextFault}
use Rattle.doip_json.specs.Value.{Value, text, table, entries_from, entries_in}
use Rattle.doip_json.specs.Sound.{IsSound}
use Rattle.doip_json.specs.Text.{text_of}
use Rattle.doip_json.specs.Read.{reading}
use Rattle.doip_json.proofs.ReadBack.{reading-text_of}
use Rattle.doip_json.proofs.PlainLists.{entries_listed}
use Rattle.doip_segment.specs.Segments.{Segment}
use Rattle.doip_segment.specs.declared.kind.Kind.{Kind}
use Rattle.doip_segment.specs.declared.kind.Kind.TheVariants as kinds
use Rattle.doip_message.specs.declared.request.FieldName.{FieldName}
use Rattle.doip_message.specs.declared.request.FieldName.TheVariants as names
use Rattle.doip_message.specs.declared.request.Why.{Why}
use Rattle.doip_message.specs.declared.request.Why.TheVariants as whys
use Rattle.doip_message.specs.declared.response.Status.{Status}
use Rattle.doip_message.specs.Asked.{Content}
use Rattle.doip_message.specs.Reading.{◌>>=◌, unless_null, optional_text, required_text, attributes_in, input_in, object_in}
use Rattle.doip_message.specs.Reply.{Replied, attributes_value, output_value, output_parts, status_text, response_segments}
use Rattle.doip_exchange.specs.declared.fault.ResponseFault.TheVariants as faults
use Rattle.doip_exchange.specs.Answer.{ReplyValues, reply_values, status_named, replied_in, reply_of_kind, reply_object, reply_in, with_fault, response, response_depth, answer_value, IsReadable}
use Rattle.doip_exchange.proofs.Kept.{brought_back}
use Rattle.doip_exchange.proofs.Keys.{replied_found, answer_found}

id_back : (id : Option (List ℕ)) → optional_text names.RequestId (unless_null (option_map text id)) ≡ Ok id
id_back None = refl
id_back (Some s) = refl

listed_back : (es : List (List ℕ × Value)) → attributes_in (unless_null (attributes_value es)) ≡ Ok (entries_from es)
listed_back [] = refl
listed_back (e ∷ es) = refl

-- the response, from what each of its properties reads as
replied_back : (id : Option (List ℕ)) (s : List ℕ) (status : Status) (a o r : Option Value)
    (es : List (List ℕ × Value)) (c : Content) (others : List Segment)
    → optional_text names.RequestId (unless_null r) ≡ Ok id → attributes_in (unless_null a) ≡ Ok (entries_from es)
    → input_in (unless_null o) others ≡ Ok c → status_named s ≡ status → entries_in (entries_from es) ≡ es
    → replied_in (replied_found a o r (text s)) others
    ≡ Ok (record { request_id = id; status = status; attributes = es; output = c })
unfolding replied_in
replied_back id s status a o r es c others first second third named listed =
    rw (first, second, third, named, listed) refl

pub answer_back : (p : Replied) → IsReadable p
    → reading (text_of (answer_value p)) response_depth ≡ Ok (answer_value p)
    → response (response_segments p) ≡ Ok p
answer_back p readable reads =
    let parts = output_parts p.output in
    let back = replied_back p.request_id (status_text p.status) p.status (attributes_value p.attributes)
    (output_value p.output) (option_map text p.request_id) p.attributes p.output parts
    (id_back p.request_id) (listed_back p.attributes) (brought_back p.output readable.output) readable.status
    (entries_listed p.attributes) in
    ap with_fault (ap (λ (r : Result Value TextFault). object_in r >>= (λ v. replied_in (reply_values v) parts)) reads
    ∙ (ap (λ (f : ReplyValues). replied_in f parts)
    (answer_found (attributes_value p.attributes) (output_value p.output) (option_map text p.request_id)
    (text (status_text p.status))) ∙ back))

-- the same of a sound value
pub sound_answer_back : (p : Replied) → IsReadable p → IsSound (answer_value p) → response (response_segments p) ≡ Ok p
sound_answer_back p readable sound =
    answer_back p readable (reading-text_of (answer_value p) 127 sound readable.nesting (omega arith))

-- ---- no fault of memory

abbrev NoMemory : {A : Type 0} → Result A Why → Type 0
NoMemory (Ok x) = Unit {0}
NoMemory (Err whys.Memory) = ⊥
NoMemory (Err why) = Unit {0}

then_none : {A B : Type 0} (r : Result A Why) (f : A → Result B Why) → NoMemory r → ((x : A) → NoMemory (f x))
    → NoMemory (r >>= f)
then_none (Ok x) f first next = next x
then_none (Err whys.NoSegment) f first next = tt
then_none (Err whys.FirstIsBytes) f first next = tt
then_none (Err (whys.Json t)) f first next = tt
then_none (Err whys.NotTable) f first next = tt
then_none (Err (whys.Field n)) f first next = tt
then_none (Err whys.TwoInputs) f first next = tt
then_none (Err whys.Memory) f first next = first

optional_none : (name : FieldName) (v : Option Value) → NoMemory (optional_text name v)
optional_none name None = tt
optional_none name (Some (text s)) = tt
optional_none name (Some v) = tt

required_none : (name : FieldName) (v : Option Value) → NoMemory (required_text name v)
required_none name None = tt
required_none name (Some (text s)) = tt
required_none name (Some v) = tt

attributes_none : (v : Option Value) → NoMemory (attributes_in v)
attributes_none None = tt
attributes_none (Some (table es)) = tt
attributes_none (Some v) = tt

input_none : (v : Option Value) (others : List Segment) → NoMemory (input_in v others)
input_none None [] = tt
input_none None (s ∷ ss) = tt
input_none (Some v) [] = tt
input_none (Some v) (s ∷ ss) = tt

object_none : (r : Result Value TextFault) → NoMemory (object_in r)
object_none (Err t) = tt
object_none (Ok (table es)) = tt
object_none (Ok v) = tt

kind_none : (kind : Kind) (bytes : List ℕ) → NoMemory (reply_of_kind kind bytes)
kind_none kinds.Bytes bytes = tt
kind_none kinds.Json bytes = object_none (reading bytes response_depth)

first_none : (segments : List Segment) → NoMemory (reply_object segments)
first_none [] = tt
first_none (s ∷ ss) = kind_none s.kind s.bytes

replied_none : (p : ReplyValues) (others : List Segment) → NoMemory (replied_in p others)
unfolding replied_in
replied_none p others =
    then_none _ _ (optional_none names.RequestId p.request_id) (λ id.
    then_none _ _ (required_none names.Status p.status) (λ status.
    then_none _ _ (attributes_none p.attributes) (λ attributes.
    then_none _ _ (input_none p.output others) (λ output. tt))))

no_memory : (r : Result Replied Why) → NoMemory r → with_fault r ≡ Err faults.Memory → ⊥
no_memory (Ok p) none is = absurd (cc)
no_memory (Err whys.NoSegment) none is = absurd (cc)
no_memory (Err whys.FirstIsBytes) none is = absurd (cc)
no_memory (Err (whys.Json t)) none is = absurd (cc)
no_memory (Err whys.NotTable) none is = absurd (cc)
no_memory (Err (whys.Field n)) none is = absurd (cc)
no_memory (Err whys.TwoInputs) none is = absurd (cc)
no_memory (Err whys.Memory) none is = none

pub never_memory : (segments : List Segment) → response segments ≡ Err faults.Memory → ⊥
never_memory segments is =
    no_memory (reply_in segments)
    (then_none _ _ (first_none segments) (λ v. replied_none (reply_values v) _)) is

-- the response that was read, from what each of its properties reads as
pub replied_by : (p : ReplyValues) (others : List Segment) (id : Option (List ℕ)) (s : List ℕ) (status : Status)
    (attributes : List (List ℕ × Value)) (c : Content) → optional_text names.RequestId p.request_id ≡ Ok id
    → required_text names.Status p.status ≡ Ok s → attributes_in p.attributes ≡ Ok (entries_from attributes)
    → input_in p.output others ≡ Ok c → status ≡ status_named s
    → replied_in p others ≡ Ok (record { request_id = id; status = status; attributes = attributes; output = c })
unfolding replied_in
replied_by p others id s status attributes c first second third fourth named =
    rw (first, second, third, fourth, named, entries_listed attributes) refl
