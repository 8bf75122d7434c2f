-- What the extended operations answer: this project's own, over JSON pointers (RFC 6901), SHA-256 (FIPS 180-4) and
-- hexadecimal digits.
use Rattle.std.specs.Prelude.{ℕ, pos, List, [], ◌∷◌, length, find, nat_eq, codes, Option, Some, None, option_map, option_and_then, Result, Ok, Err}
use Rattle.std.specs.Option.{ok_or}
use Rattle.std.specs.Cmp.Lexicographic.{pointwise}
use Rattle.sha2.specs.Sha256.{sha256}
use Rattle.hex.specs.Hex.{encode_lower}
use Rattle.doip_json.specs.Value.{Value, null, truth, whole, text, list, table, entries_from}
use Rattle.doip_json.specs.Meaning.{value_of}
use Rattle.doip_json.specs.Look.{entry_of}
use Rattle.doip_json.specs.Pointer.{pointed}
use Rattle.dobj_model.specs.declared.elements.Element.{Element}
use Rattle.dobj_model.specs.declared.object.ObjectValue.{ObjectValue}
use Rattle.ext_ops.specs.declared.code.ExtCode.{ExtCode}
use Rattle.ext_ops.specs.declared.code.ExtCode.TheVariants.{Digest, Pick}
use Rattle.ext_ops.specs.declared.answer.ExtAnswer.{ExtAnswer}
use Rattle.ext_ops.specs.declared.answer.ExtAnswer.TheVariants.{Answer, Refused}

-- an answer as plain data: the output, or the text of the refusal
abbrev pub answer_of : ExtAnswer → Result Value (List ℕ)
answer_of (Answer json) = Ok (value_of json)
answer_of (Refused reason) = Err reason

-- the text of a string
abbrev pub string_in : Value → Option (List ℕ)
string_in null = None
string_in (truth b) = None
string_in (whole z) = None
string_in (text s) = Some s
string_in (list vs) = None
string_in (table es) = None

-- the string at a key of the arguments
abbrev pub string_at : List ℕ → List (List ℕ × Value) → Option (List ℕ)
string_at key arguments = option_and_then string_in (entry_of key (entries_from arguments))

-- the element that the argument `element` names
abbrev pub element_named : ObjectValue → List (List ℕ × Value) → Option Element
element_named object arguments =
    option_and_then (λ id. find (λ e. pointwise nat_eq e.id id) object.elements) (string_at (codes "element") arguments)

-- an element's identifier, the number of its bytes, and their SHA-256 in lower case
abbrev pub digested : Element → Value
digested element = table (entries_from
    ((codes "element", text element.id) ∷ (codes "length", whole (pos (length element.bytes)))
    ∷ (codes "sha256", text (encode_lower (sha256 element.bytes))) ∷ []))

-- the value in the content to which the argument `pointer` points
abbrev pub place_in : ObjectValue → List (List ℕ × Value) → Option Value
place_in object arguments =
    option_and_then (λ pointer. option_and_then (pointed pointer) (entry_of (codes "content") (entries_from object.attributes)))
    (string_at (codes "pointer") arguments)

-- a value as an output
abbrev pub picked : Value → Value
picked value = table (entries_from ((codes "value", value) ∷ []))

-- what an extended operation answers on an object and arguments: its output, or the text of its refusal
abbrev pub ext : ExtCode → ObjectValue → List (List ℕ × Value) → Result Value (List ℕ)
ext Digest object arguments = ok_or (option_map digested (element_named object arguments)) (codes "element")
ext Pick object arguments = ok_or (option_map picked (place_in object arguments)) (codes "pointer")
