-- What is found in the value of a record's text. Private readers are stated by these.
use Rattle.std.specs.Prelude.{◌≡◌, ℕ, pos, List, [], ◌&&◌, nat_le, nat_eq, length, if◌then◌else◌, Option, None, Some, Result, Ok, Err, codes, ⊤}
use Rattle.std.specs.Cmp.Lexicographic.{pointwise}
use Rattle.std.specs.Map.{remove_entry}
use Rattle.doip_json.specs.Value.{Value, whole, text, list, table, values_in, entries_in, entries_from}
use Rattle.doip_json.specs.Look.{entry_of, field_of}
use Rattle.dobj_model.specs.Name.{most_name}
use Rattle.dobj_model.specs.declared.metadata.Metadata.{Metadata}
use Rattle.record_core.specs.declared.change.RecordFault.{RecordFault}
use Rattle.record_core.specs.declared.change.RecordFault.TheVariants.{NotARecord, Memory}
use Rattle.record_core.specs.declared.elements.Listed.{Listed}
use Rattle.record_core.specs.declared.fields.Fields.{Fields}
use Rattle.record_core.specs.declared.format.Format.{Format}
use Rattle.record_core.specs.declared.format.Format.TheVariants.{First, Second}

infixl 10 ◌>>=◌
-- what comes of what is found
abbrev pub ◌>>=◌ : {A B : Type 0} → Option A → (A → Option B) → Option B
None >>= f = None
(Some x) >>= f = f x

-- what was found is there, and what was refused is not, unless memory ran out
abbrev pub Finds : {X : Type 0} → Result X RecordFault → Option X → Type 0
Finds (Ok x) found = found ≡ Some x
Finds (Err NotARecord) found = found ≡ None
Finds (Err Memory) found = ⊤

-- a string
abbrev pub text_at : Option Value → Option (List ℕ)
text_at (Some (text s)) = Some s
text_at v = None

-- the name that a string is
abbrev pub name_of : List ℕ → Option (List ℕ)
name_of s = if nat_le 1 (length s) && nat_le (length s) most_name then Some s else None

-- a name
abbrev pub name_at : Option Value → Option (List ℕ)
name_at (Some (text s)) = name_of s
name_at v = None

-- a number from 0
abbrev pub number_at : Option Value → Option ℕ
number_at (Some (whole (pos n))) = Some n
number_at v = None

-- a JSON object
abbrev pub table_at : Option Value → Option (List (List ℕ × Value))
table_at (Some (table es)) = Some (entries_in es)
table_at v = None

-- there is a JSON object
abbrev pub IsTable : Option Value → Type 0
IsTable (Some (table es)) = ⊤
IsTable v = ⊥

-- a string that may be absent
abbrev pub text_if : Option Value → Option (Option (List ℕ))
text_if None = Some None
text_if (Some (text s)) = Some (Some s)
text_if (Some v) = None

-- a JSON object that may be absent
abbrev pub table_if : Option Value → Option (Option (List (List ℕ × Value)))
table_if None = Some None
table_if (Some (table es)) = Some (Some (entries_in es))
table_if (Some v) = None

-- an array that may be absent
abbrev pub list_if : Option Value → Option (List Value)
list_if None = Some []
list_if (Some (list vs)) = Some (values_in vs)
list_if (Some v) = None

-- a time, which only format 2 has
abbrev pub time_at : Format → Option Value → Option ℕ
time_at First v = Some 0
time_at Second v = number_at v

-- `metadata`
unfoldable pub metadata_of : Format → List (List ℕ × Value) → Option Metadata
metadata_of format es = do
  created_by ← text_at (entry_of (codes "createdBy") (entries_from es))
  created_on ← time_at format (entry_of (codes "createdOn") (entries_from es))
  modified_by ← text_at (entry_of (codes "modifiedBy") (entries_from es))
  modified_on ← time_at format (entry_of (codes "modifiedOn") (entries_from es))
  revision ← number_at (entry_of (codes "revision") (entries_from es))
  Some (record {
    created_by = created_by;
    created_on = created_on;
    modified_by = modified_by;
    modified_on = modified_on;
    revision = revision;
  })

-- the same of a JSON object
abbrev pub metadata_at : Format → Option Value → Option Metadata
metadata_at format (Some (table es)) = metadata_of format (entries_in es)
metadata_at format v = None

-- an object but for the bytes of its elements
unfoldable pub fields_in : Format → List (List ℕ × Value) → Option Fields
fields_in format es = do
  id ← name_at (entry_of (codes "id") (entries_from es))
  type_name ← name_at (entry_of (codes "type") (entries_from es))
  attributes ← table_at (entry_of (codes "attributes") (entries_from es))
  metadata ← metadata_at format (entry_of (codes "metadata") (entries_from attributes))
  elements ← list_if (entry_of (codes "elements") (entries_from es))
  Some (record {
    id = id;
    type_name = type_name;
    attributes = remove_entry (pointwise nat_eq (codes "metadata")) attributes;
    metadata = metadata;
    elements = elements;
  })

-- the same of a JSON object
abbrev pub fields_at : Format → Value → Option Fields
fields_at format (table es) = fields_in format (entries_in es)
fields_at format v = None

-- an element but for its bytes
unfoldable pub listed_in : Value → Option Listed
listed_in v = do
  id ← name_at (field_of (codes "id") v)
  type_name ← text_if (field_of (codes "type") v)
  attributes ← table_if (field_of (codes "attributes") v)
  Some (record { id = id; type_name = type_name; attributes = attributes })
