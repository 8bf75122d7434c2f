-- The shown form of an object: what it is as a JSON value (DOIP 2.0, serialization of digital objects; `metadata` among
-- the attributes, and the length of each element, are this project's own).
use Rattle.std.specs.Prelude.{ℕ, pos, List, [], ◌∷◌, ◌++◌, Option, None, Some, length, map, codes}
use Rattle.std.specs.Ordering.{nat_cmp}
use Rattle.std.specs.Cmp.Lexicographic.{slice_cmp}
use Rattle.std.specs.BTreeMap.{insert_entry}
use Rattle.doip_json.specs.Value.{Value, text, whole, list, table, values_from, entries_from}
use Rattle.dobj_model.specs.declared.metadata.Metadata.{Metadata}
use Rattle.dobj_model.specs.declared.elements.Element.{Element}
use Rattle.dobj_model.specs.declared.object.ObjectValue.{ObjectValue}

-- the JSON object with these entries
abbrev pub object_with : List (List ℕ × Value) → Value
object_with entries = table (entries_from entries)

-- a number
abbrev pub number : ℕ → Value
number n = whole (pos n)

-- the entry of a property that may be absent
abbrev pub optional : {X : Type 0} → List ℕ → (X → Value) → Option X → List (List ℕ × Value)
optional key form None = []
optional key form (Some x) = (key, form x) ∷ []

-- `metadata`
abbrev pub metadata_form : Metadata → Value
metadata_form m = object_with
    ((codes "createdBy", text m.created_by) ∷ (codes "createdOn", number m.created_on)
    ∷ (codes "modifiedBy", text m.modified_by) ∷ (codes "modifiedOn", number m.modified_on)
    ∷ (codes "revision", number m.revision) ∷ [])

-- an element without its bytes: their number is its `length`
abbrev pub element_form : Element → Value
element_form e = object_with
    (optional (codes "attributes") object_with e.attributes
    ++ (codes "id", text e.id) ∷ (codes "length", number (length e.bytes))
    ∷ optional (codes "type") text e.type_name)

-- `elements`, if there is one
abbrev pub elements_form : List Element → List (List ℕ × Value)
elements_form [] = []
elements_form (e ∷ es) = (codes "elements", list (values_from (map element_form (e ∷ es)))) ∷ []

-- an object with these attributes
abbrev pub form_with : List (List ℕ × Value) → ObjectValue → Value
form_with attributes o = object_with
    ((codes "attributes", object_with attributes)
    ∷ (elements_form o.elements ++ (codes "id", text o.id) ∷ (codes "type", text o.type_name) ∷ []))

-- attributes with `metadata` among them, at its place by the keys' bytes
abbrev pub with_metadata : List (List ℕ × Value) → Metadata → List (List ℕ × Value)
with_metadata attributes m = insert_entry (slice_cmp nat_cmp) attributes (codes "metadata") (metadata_form m)

-- the object as it is shown, sent and recorded
abbrev pub shown_form : ObjectValue → Value
shown_form o = form_with (with_metadata o.attributes o.metadata) o

-- the same without `metadata`
abbrev pub bare_form : ObjectValue → Value
bare_form o = form_with o.attributes o
