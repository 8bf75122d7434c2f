-- An object as it comes in, or the first fault (the properties are those of DOIP 2.0; which values are dropped, the
-- limits and the order of the faults are this project's own).
use Rattle.std.specs.Prelude.{◌≡◌, ℕ, suc, ◌+◌, List, [], ◌∷◌, ◌++◌, length, Bool, true, false, ◌&&◌, nat_le, nat_eq}
use Rattle.std.specs.Prelude.{if◌then◌else◌, is_none, Option, None, Some, Result, Ok, Err, codes}
use Rattle.std.specs.Ordering.{nat_cmp}
use Rattle.std.specs.Cmp.Lexicographic.{slice_cmp, pointwise}
use Rattle.std.specs.BTreeMap.{insert_entry}
use Rattle.std.specs.Map.{remove_entry}
use Rattle.doip_json.specs.declared.fault.TextFault.{TextFault}
use Rattle.doip_json.specs.Value.{Value, null, text, list, table, Values, no_values, value, values_in, entries_in}
use Rattle.doip_json.specs.Value.{entries_from}
use Rattle.doip_json.specs.Look.{entry_of, field_of}
use Rattle.doip_json.specs.Read.{reading}
use Rattle.doip_segment.specs.declared.kind.Kind.{Kind}
use Rattle.doip_segment.specs.declared.kind.Kind.TheVariants as kinds
use Rattle.doip_segment.specs.Segments.{Segment}
use Rattle.dobj_draft.specs.declared.draft.ObjectField.{ObjectField}
use Rattle.dobj_draft.specs.declared.draft.ObjectField.TheVariants as fields
use Rattle.dobj_draft.specs.declared.draft.ObjectFault.{ObjectFault}
use Rattle.dobj_draft.specs.declared.draft.ObjectFault.TheVariants as faults
use Rattle.dobj_draft.specs.declared.draft.DraftElement.{DraftElement}
use Rattle.dobj_draft.specs.declared.draft.Draft.{Draft}
use Rattle.dobj_model.specs.Name.{most_name}
use Rattle.dobj_model.specs.Elements.{most_elements}
use Rattle.dobj_model.specs.Shown.{object_with}

-- how deep a JSON segment may nest
abbrev pub segment_depth : ℕ
segment_depth = 64

infixl 10 ◌>>=◌
-- the first fault, or what comes of the value
abbrev pub ◌>>=◌ : {A B : Type 0} → Result A ObjectFault → (A → Result B ObjectFault) → Result B ObjectFault
(Ok x) >>= f = f x
(Err fault) >>= f = Err fault

-- `null` counts as absent
abbrev pub unless_null : Option Value → Option Value
unless_null None = None
unless_null (Some null) = None
unless_null (Some v) = Some v

-- the value of a property that is there
abbrev pub property : List ℕ → Value → Option Value
property key v = unless_null (field_of key v)

-- ---- the properties of an object

-- a name of 1 to 255 bytes
abbrev pub is_name : List ℕ → Bool
is_name s = nat_le 1 (length s) && nat_le (length s) most_name

-- the name that a string is
abbrev pub name_of : ObjectField → List ℕ → Result (List ℕ) ObjectFault
name_of field s = if is_name s then Ok s else Err (faults.BadField field)

-- a name that has to be there
abbrev pub required_name : ObjectField → Option Value → Result (List ℕ) ObjectFault
required_name field (Some (text s)) = name_of field s
required_name field v = Err (faults.BadField field)

-- a name that may be absent
abbrev pub optional_name : ObjectField → Option Value → Result (Option (List ℕ)) ObjectFault
optional_name field None = Ok None
optional_name field (Some v) = required_name field (Some v) >>= (λ name. Ok (Some name))

-- there is no signature
abbrev pub unsigned : Option Value → Result (Unit {0}) ObjectFault
unsigned None = Ok tt
unsigned (Some (list no_values)) = Ok tt
unsigned (Some v) = Err faults.Signatures

-- entries without a key
abbrev pub without : List ℕ → List (List ℕ × Value) → List (List ℕ × Value)
without key = remove_entry (pointwise nat_eq key)

-- entries without a key whose value is this, if that is `null`
abbrev pub dropped : Option Value → List ℕ → List (List ℕ × Value) → List (List ℕ × Value)
dropped (Some null) key es = without key es
dropped v key es = es

-- entries without a key that has `null`
abbrev pub unless_nulled : List ℕ → List (List ℕ × Value) → List (List ℕ × Value)
unless_nulled key es = dropped (entry_of key (entries_from es)) key es

-- a string
abbrev pub is_text : Value → Bool
is_text (text s) = true
is_text v = false

-- strings
abbrev pub are_texts : Values → Bool
are_texts no_values = true
are_texts (value v vs) = is_text v && are_texts vs

-- absent, or an array of strings
abbrev pub is_access_list : Option Value → Bool
is_access_list None = true
is_access_list (Some null) = true
is_access_list (Some (list vs)) = are_texts vs
is_access_list (Some v) = false

-- the access lists of an `acl`: those that are `null` are not kept
abbrev pub lists_in : List (List ℕ × Value) → Result (List (List ℕ × Value)) ObjectFault
lists_in es =
    if is_access_list (entry_of (codes "readers") (entries_from es))
    && is_access_list (entry_of (codes "writers") (entries_from es))
    then Ok (unless_nulled (codes "writers") (unless_nulled (codes "readers") es))
    else Err (faults.BadField fields.Acl)

-- attributes with this `acl` beside the others: one that is `null` isn't kept
abbrev pub with_acl : Option Value → List (List ℕ × Value) → Result (List (List ℕ × Value)) ObjectFault
with_acl None es = Ok es
with_acl (Some null) es = Ok es
with_acl (Some (table lists)) es =
    lists_in (entries_in lists) >>= (λ kept. Ok (insert_entry (slice_cmp nat_cmp) es (codes "acl") (object_with kept)))
with_acl (Some v) es = Err (faults.BadField fields.Acl)

-- attributes as they are kept: with no `metadata`, and no `content` that is `null`
abbrev pub attributes_kept : List (List ℕ × Value) → Result (List (List ℕ × Value)) ObjectFault
attributes_kept es =
    let kept = unless_nulled (codes "content") (without (codes "metadata") es) in
    with_acl (entry_of (codes "acl") (entries_from kept)) (without (codes "acl") kept)

-- attributes, empty where they are absent
abbrev pub attributes_in : Option Value → Result (List (List ℕ × Value)) ObjectFault
attributes_in None = Ok []
attributes_in (Some (table es)) = attributes_kept (entries_in es)
attributes_in (Some v) = Err (faults.BadField fields.Attributes)

-- ---- elements

-- a string that may be absent
abbrev pub optional_text : ObjectField → Option Value → Result (Option (List ℕ)) ObjectFault
optional_text field None = Ok None
optional_text field (Some (text s)) = Ok (Some s)
optional_text field (Some v) = Err (faults.BadField field)

-- an object that may be absent
abbrev pub optional_object : ObjectField → Option Value → Result (Option (List (List ℕ × Value))) ObjectFault
optional_object field None = Ok None
optional_object field (Some (table es)) = Ok (Some (entries_in es))
optional_object field (Some v) = Err (faults.BadField field)

-- one element, whose bytes haven't come yet
unfoldable pub element_in : Value → Result DraftElement ObjectFault
element_in v = do
  id ← required_name fields.ElementId (property (codes "id") v)
  type_name ← optional_text fields.ElementType (property (codes "type") v)
  attributes ← optional_object fields.ElementAttributes (property (codes "attributes") v)
  Ok (record { id = id; type_name = type_name; attributes = attributes; bytes = None })

-- an element has the identifier
abbrev pub is_listed : List ℕ → List DraftElement → Bool
is_listed id [] = false
is_listed id (e ∷ es) = if pointwise nat_eq id e.id then true else is_listed id es

-- the elements that were read, and one more unless its identifier is among them
abbrev pub and_element : List DraftElement → DraftElement → Result (List DraftElement) ObjectFault
and_element es e = if is_listed e.id es then Err (faults.TwiceElement e.id) else Ok (es ++ e ∷ [])

-- the same of an element that is still to be read
abbrev pub with_element : List DraftElement → Value → Result (List DraftElement) ObjectFault
with_element es v = element_in v >>= and_element es

-- elements in order, after those that were read
abbrev pub elements_after : List DraftElement → List Value → Result (List DraftElement) ObjectFault
elements_after es [] = Ok es
elements_after es (v ∷ vs) = with_element es v >>= (λ more. elements_after more vs)

-- a JSON object
abbrev pub is_table : Value → Bool
is_table (table es) = true
is_table v = false

-- JSON objects
abbrev pub are_tables : List Value → Bool
are_tables [] = true
are_tables (v ∷ vs) = is_table v && are_tables vs

-- the elements of an array of objects, at most 1,000
abbrev pub elements_of : List Value → Result (List DraftElement) ObjectFault
elements_of vs =
    if are_tables vs then (if nat_le (length vs) most_elements then elements_after [] vs else Err faults.TooMany)
    else Err (faults.BadField fields.Elements)

-- the elements, none where they are absent
abbrev pub elements_in : Option Value → Result (List DraftElement) ObjectFault
elements_in None = Ok []
elements_in (Some (list vs)) = elements_of (values_in vs)
elements_in (Some v) = Err (faults.BadField fields.Elements)

-- ---- bytes in segments

-- a value that was read of a segment of this number, or the fault of its text
abbrev pub value_read : ℕ → Result Value TextFault → Result Value ObjectFault
value_read n (Ok v) = Ok v
value_read n (Err fault) = Err (faults.Json n fault)

-- the JSON value of a segment of this number
abbrev pub value_of_kind : ℕ → Kind → List ℕ → Result Value ObjectFault
value_of_kind n kinds.Bytes bytes = Err (faults.Segment n)
value_of_kind n kinds.Json bytes = value_read n (reading bytes segment_depth)

-- the identifier that names the element whose bytes come next
abbrev pub named_in : ℕ → Option Value → Result (List ℕ) ObjectFault
named_in n (Some (text s)) = Ok s
named_in n v = Err (faults.Segment n)

-- an element with this identifier waits for its bytes
abbrev pub is_waiting : List ℕ → List DraftElement → Bool
is_waiting id [] = false
is_waiting id (e ∷ es) = if pointwise nat_eq id e.id then is_none e.bytes else is_waiting id es

-- the element waits, or else it is a stranger
abbrev pub expected : List ℕ → List DraftElement → Result (Unit {0}) ObjectFault
expected id es = if is_waiting id es then Ok tt else Err (faults.Stranger id)

-- the bytes of a segment of this number
abbrev pub bytes_of_kind : ℕ → Kind → List ℕ → Result (List ℕ) ObjectFault
bytes_of_kind n kinds.Bytes bytes = Ok bytes
bytes_of_kind n kinds.Json bytes = Err (faults.Segment n)

-- the bytes of the first segment
abbrev pub bytes_in : ℕ → List Segment → Result (List ℕ) ObjectFault
bytes_in n [] = Err (faults.Segment n)
bytes_in n (s ∷ rest) = bytes_of_kind n s.kind s.bytes

-- an element with these bytes
abbrev pub with_payload : List ℕ → DraftElement → DraftElement
with_payload bytes e = record e { bytes = Some bytes }

-- elements with the bytes of this one
abbrev pub filled : List ℕ → List ℕ → List DraftElement → List DraftElement
filled id bytes [] = []
filled id bytes (e ∷ es) =
    if pointwise nat_eq id e.id then with_payload bytes e ∷ es else e ∷ filled id bytes es

-- elements with the bytes that a segment of this number names and the one after it has
abbrev pub with_bytes : ℕ → Segment → List Segment → List DraftElement → Result (List DraftElement) ObjectFault
with_bytes n s rest es = do
  v ← value_of_kind n s.kind s.bytes
  id ← named_in n (field_of (codes "id") v)
  _ ← expected id es
  bytes ← bytes_in (suc n) rest
  Ok (filled id bytes es)

-- elements with the bytes of all pairs of segments, the first of which has this number
abbrev pub payloads : ℕ → List Segment → List DraftElement → Result (List DraftElement) ObjectFault
payloads n [] es = Ok es
payloads n (s ∷ []) es = with_bytes n s [] es
payloads n (s ∷ b ∷ rest) es = with_bytes n s (b ∷ rest) es >>= payloads (n + 2) rest

-- ---- the whole

-- the properties of an object, and the segments after it
unfoldable pub draft_in : Value → List Segment → Result Draft ObjectFault
draft_in v rest = do
  _ ← unsigned (property (codes "signatures") v)
  id ← optional_name fields.Id (property (codes "id") v)
  type_name ← optional_name fields.Type (property (codes "type") v)
  attributes ← attributes_in (property (codes "attributes") v)
  elements ← elements_in (property (codes "elements") v)
  filled ← payloads 2 rest elements
  Ok (record { id = id; type_name = type_name; attributes = attributes; elements = filled })

-- a JSON object, and the segments after it
abbrev pub draft_with : Value → List Segment → Result Draft ObjectFault
draft_with (table es) rest = draft_in (table es) rest
draft_with v rest = Err faults.NotObject

-- The object that a value is, or else the segments after a request's first, numbered in the message from 0.
abbrev pub draft : Option Value → List Segment → Result Draft ObjectFault
draft (Some v) parts = draft_with v []
draft None [] = Err faults.Missing
draft None (s ∷ rest) = value_of_kind 1 s.kind s.bytes >>= (λ v. draft_with v rest)

-- ---- what is read

-- the fault is the one that is meant, unless it is out of memory
abbrev pub Fails : {Y : Type 0} → ObjectFault → Result Y ObjectFault → Type 0
Fails faults.Memory meant = Unit {0}
Fails fault meant = meant ≡ Err fault

-- What was read, seen by view, is what is meant, or its fault is, unless memory ran out.
abbrev pub Reads : {X Y : Type 0} → (X → Y) → Result X ObjectFault → Result Y ObjectFault → Type 0
Reads view (Ok x) meant = meant ≡ Ok (view x)
Reads view (Err fault) meant = Fails fault meant
