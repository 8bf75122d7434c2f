-- What every object keeps (the properties are those of DOIP 2.0; the limits are this project's own).
use Rattle.std.specs.Prelude.{◌≡◌, ◌≢◌, ℕ, ◌^◌, ◌<◌, ◌≤◌, List, length, Option, None, Some, option_and_then, codes, ⊤}
use Rattle.doip_json.specs.Value.{Value, null, truth, whole, text, list, table, Values, no_values, value, depth_of}
use Rattle.doip_json.specs.Value.{entries_from}
use Rattle.doip_json.specs.Look.{entry_of, field_of}
use Rattle.doip_json.specs.Text.{text_of}
use Rattle.dobj_model.specs.declared.metadata.Metadata.{Metadata}
use Rattle.dobj_model.specs.declared.object.ObjectValue.{ObjectValue}
use Rattle.dobj_model.specs.Elements.{AreElements}
use Rattle.dobj_model.specs.Shown.{shown_form, bare_form}

-- the text of a shown form has fewer bytes
abbrev pub text_bound : ℕ
text_bound = 2 ^ 32

-- how deep a shown form may nest, without its `metadata`
abbrev pub most_nested : ℕ
most_nested = 64

-- a string
abbrev pub IsText : Value → Type 0
IsText null = ⊥
IsText (truth b) = ⊥
IsText (whole z) = ⊥
IsText (text s) = ⊤
IsText (list vs) = ⊥
IsText (table es) = ⊥

-- strings
abbrev pub AreTexts : Values → Type 0
AreTexts no_values = ⊤
AreTexts (value v vs) = IsText v × AreTexts vs

-- an array of strings
abbrev pub IsTextList : Value → Type 0
IsTextList null = ⊥
IsTextList (truth b) = ⊥
IsTextList (whole z) = ⊥
IsTextList (text s) = ⊥
IsTextList (list vs) = AreTexts vs
IsTextList (table es) = ⊥

-- absent, or such a value
abbrev pub IfThere : (Value → Type 0) → Option Value → Type 0
IfThere P None = ⊤
IfThere P (Some v) = P v

-- an object whose `readers` and `writers` are absent or arrays of strings
abbrev pub IsAcl : Value → Type 0
IsAcl null = ⊥
IsAcl (truth b) = ⊥
IsAcl (whole z) = ⊥
IsAcl (text s) = ⊥
IsAcl (list vs) = ⊥
IsAcl (table es) =
    IfThere IsTextList (entry_of (codes "readers") es) × IfThere IsTextList (entry_of (codes "writers") es)

-- the value at a key of an object's `acl`
abbrev pub access_list : List ℕ → ObjectValue → Option Value
access_list key o = option_and_then (field_of key) (entry_of (codes "acl") (entries_from o.attributes))

-- the attributes of an object without its `metadata`
pub record AreAttributes (attributes : List (List ℕ × Value)) : Type 0 where
  pub content : entry_of (codes "content") (entries_from attributes) ≢ Some null
  pub acl : IfThere IsAcl (entry_of (codes "acl") (entries_from attributes))
  pub no_metadata : entry_of (codes "metadata") (entries_from attributes) ≡ None

-- who and when, in range: names of at most 255 bytes, times of 64 bits, a revision from 1 to 2^63 - 1
pub record IsMetadata (m : Metadata) : Type 0 where
  pub created_by : length m.created_by ≤ 255
  pub created_on : m.created_on < 2 ^ 64
  pub modified_by : length m.modified_by ≤ 255
  pub modified_on : m.modified_on < 2 ^ 64
  pub first : 1 ≤ m.revision
  pub last : m.revision < 2 ^ 63

-- what an object keeps, beside the forms that its types give
pub record IsObject (o : ObjectValue) : Type 0 where
  pub attributes : AreAttributes o.attributes
  pub metadata : IsMetadata o.metadata
  pub elements : AreElements o.elements
  pub nests : depth_of (bare_form o) ≤ most_nested
  pub short : length (text_of (shown_form o)) < text_bound
