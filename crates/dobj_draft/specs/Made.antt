-- What an object that is made of a draft keeps. This project's own.
use Rattle.std.specs.Prelude.{◌≡◌, ◌≢◌, ◌<◌, ◌≤◌, List, length, map, All, AllPairs, Option, None, IfSome, ⊤}
use Rattle.doip_json.specs.Value.{Value, null, truth, whole, text, list, table, Values, no_values, value, Entries}
use Rattle.doip_json.specs.Value.{no_entries, entry, depth_of}
use Rattle.doip_json.specs.Look.{entry_of}
use Rattle.doip_json.specs.Text.{text_of}
use Rattle.doip_segment.specs.Framing.{most_total}
use Rattle.doip_segment.specs.Segments.{Segment}
use Rattle.dobj_model.specs.declared.elements.Element.{Element}
use Rattle.dobj_model.specs.declared.object.ObjectValue.{ObjectValue}
use Rattle.dobj_model.specs.Name.{IsName}
use Rattle.dobj_model.specs.Elements.{most_elements, element_bound}
use Rattle.dobj_model.specs.Object.{AreAttributes, IfThere, IsMetadata}
use Rattle.dobj_draft.specs.declared.draft.DraftElement.{DraftElement}
use Rattle.dobj_draft.specs.declared.draft.Draft.{Draft}
use Rattle.dobj_draft.specs.Draft.{segment_depth}

-- no object in a value has a key twice
abbrev mutual
  pub KeysDiffer : Value → Type 0
  KeysDiffer null = ⊤
  KeysDiffer (truth b) = ⊤
  KeysDiffer (whole z) = ⊤
  KeysDiffer (text s) = ⊤
  KeysDiffer (list vs) = ItemsDiffer vs
  KeysDiffer (table es) = EntriesDiffer es

  -- the same of the items of an array
  pub ItemsDiffer : Values → Type 0
  ItemsDiffer no_values = ⊤
  ItemsDiffer (value v vs) = KeysDiffer v × ItemsDiffer vs

  -- the same of the entries of an object: no key comes again
  pub EntriesDiffer : Entries → Type 0
  EntriesDiffer no_entries = ⊤
  EntriesDiffer (entry k v es) = (entry_of k es ≡ None) × KeysDiffer v × EntriesDiffer es

-- a value that a message brings: no key comes twice, it nests no deeper than a segment may, and it is written in no
-- more bytes than a message has
pub record IsBrought (v : Value) : Type 0 where
  pub differ : KeysDiffer v
  pub nests : depth_of v ≤ segment_depth
  pub short : length (text_of v) ≤ most_total

-- an input that a message brings: a value, or segments
pub record AreBrought (input : Option Value) (parts : List Segment) : Type 0 where
  pub value : IfThere IsBrought input
  pub short : All (λ s. length s.bytes ≤ most_total) parts

-- what a draft keeps, whatever message brought it
pub record IsWithin (d : Draft) : Type 0 where
  pub attributes : AreAttributes d.attributes
  pub few : length d.elements ≤ most_elements
  pub differ : AllPairs (λ a b. a ≢ b) (map (λ e. e.id) d.elements)
  pub small : All (λ e. IfSome e.bytes (λ bytes. length bytes < element_bound)) d.elements

-- an element with no bytes: what is listed of it
abbrev pub listed : Element → DraftElement
listed e = record { id = e.id; type_name = e.type_name; attributes = e.attributes; bytes = None }

-- the same of an element of a draft
abbrev pub unfilled : DraftElement → DraftElement
unfilled e = record e { bytes = None }

-- the elements that a draft lists, each with bytes: those that came, or others
abbrev pub AreListed : List DraftElement → List Element → Type 0
AreListed drafted elements = map listed elements ≡ map unfilled drafted

-- fewer than 10^10 bytes each
abbrev pub AreSmall : List Element → Type 0
AreSmall = All (λ e. length e.bytes < element_bound)

-- An object that is made of a draft: its attributes, and its elements with bytes. Identifier, type name and `metadata`
-- are the draft's or others, in range.
pub record IsMadeOf (d : Draft) (o : ObjectValue) : Type 0 where
  pub id : IsName o.id
  pub type_name : IsName o.type_name
  pub attributes : o.attributes ≡ d.attributes
  pub metadata : IsMetadata o.metadata
  pub elements : AreListed d.elements o.elements
  pub small : AreSmall o.elements
