-- The bytes of a change (this project's own format).
use Rattle.std.specs.Prelude.{ℕ, List, [], ◌∷◌, ◌++◌, length, Option, unwrap_or, codes}
use Rattle.std.specs.List.{flat_map}
use Rattle.std.specs.Ordering.{nat_cmp}
use Rattle.std.specs.Cmp.Lexicographic.{slice_cmp}
use Rattle.std.specs.BTreeMap.{insert_entry}
use Rattle.doip_json.specs.Value.{Value, text}
use Rattle.doip_json.specs.Text.{text_of}
use Rattle.dobj_model.specs.declared.elements.Element.{Element}
use Rattle.dobj_model.specs.declared.metadata.Metadata.{Metadata}
use Rattle.dobj_model.specs.declared.object.ObjectValue.{ObjectValue}
use Rattle.dobj_model.specs.Shown.{object_with, number, metadata_form, form_with}
use Rattle.record_core.specs.declared.change.Change.{Change}
use Rattle.record_core.specs.declared.change.Change.TheVariants.{Put, Remove, Counter}
use Rattle.record_core.specs.declared.format.Format.{Format}
use Rattle.record_core.specs.declared.format.Format.TheVariants.{First, Second}
use Rattle.record_core.specs.Numbers.{in_two, in_four, in_eight}

-- `metadata` in each format: the first has no times
abbrev pub metadata_in : Format → Metadata → Value
metadata_in First m = object_with
    ((codes "createdBy", text m.created_by) ∷ (codes "modifiedBy", text m.modified_by)
    ∷ (codes "revision", number m.revision) ∷ [])
metadata_in Second m = metadata_form m

-- the shown form of an object in each format; in the second it is `shown_form`
abbrev pub form_in : Format → ObjectValue → Value
form_in format o =
    form_with (insert_entry (slice_cmp nat_cmp) o.attributes (codes "metadata") (metadata_in format o.metadata)) o

-- the length of an element's bytes, and these bytes
abbrev pub payload : Element → List ℕ
payload e = in_eight (length e.bytes) ++ e.bytes

-- what a put begins with, after its first byte: a counter or 0, a text with its length, and a number of elements
abbrev pub head : ℕ → List ℕ → ℕ → List ℕ → List ℕ
head counter shown count payloads =
    in_eight counter ++ (in_four (length shown) ++ (shown ++ (in_four count ++ payloads)))

-- a put after its first byte: the head with the canonical text of the shown form, and each element's bytes
abbrev pub put_content : Format → ObjectValue → Option ℕ → List ℕ
put_content format o counter =
    head (unwrap_or counter 0) (text_of (form_in format o)) (length o.elements) (flat_map payload o.elements)

-- the bytes of a change: a byte for its kind, and what the kind has
abbrev pub body_in : Format → Change → List ℕ
body_in format (Put o counter) = 1 ∷ put_content format o counter
body_in format (Remove id) = 2 ∷ (in_two (length id) ++ id)
body_in format (Counter n) = 3 ∷ in_eight n

-- the bytes of a change
abbrev pub body : Change → List ℕ
body = body_in Second

-- the same in format 1
abbrev pub first_body : Change → List ℕ
first_body = body_in First
