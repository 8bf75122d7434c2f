-- A draft that a message brings keeps its bounds, and so does each object that is made of it.
use Rattle.std.proofs.Common.{◌≡◌, ℕ, zero, suc, ◌+◌, ◌*◌, ◌<◌, ◌≤◌, ◌^◌, List, [], ◌∷◌, length, map, flat_map, Bool}
use Rattle.std.proofs.Common.{true, false, if◌then◌else◌, nat_lt, Option, Some, None, Ok, codes, pos, refl, sym, ap}
use Rattle.std.proofs.Common.{subst, ◌∙◌, arith}
use Rattle.std.specs.Prelude.{IfSome, ◌/◌, ◌%◌}
use Rattle.std.specs.Char.{digit_char}
use Rattle.std.specs.Fmt.{signed_decimal}
use Rattle.std.specs.List.{All, AllByRecursion}
use Rattle.std.proofs.lemmas.Fmt.{length-decimal-le}
use Rattle.std.proofs.lemmas.List.{length-append, length-map}
use Rattle.doip_json.specs.Value.{Value, null, truth, whole, text, list, table, values_from, entries_from, depth_of}
use Rattle.doip_json.specs.Value.{deepest_value, deepest_entry}
use Rattle.doip_json.specs.Text.{text_of, string_of, escaped, letter_of}
use Rattle.doip_json.proofs.Ascending.{Pairs}
use Rattle.doip_json.proofs.Building.{field_of-depth}
use Rattle.doip_segment.specs.Framing.{most_total}
use Rattle.doip_segment.specs.Segments.{Segment}
use Rattle.dobj_model.specs.declared.elements.Element.{Element}
use Rattle.dobj_model.specs.declared.metadata.Metadata.{Metadata}
use Rattle.dobj_model.specs.declared.object.ObjectValue.{ObjectValue}
use Rattle.dobj_model.specs.Elements.{AreElements, ids_of, most_elements, element_bound}
use Rattle.dobj_model.specs.Lengths.{items_total, entries_total}
use Rattle.dobj_model.specs.Object.{AreAttributes, IsMetadata, IsObject}
use Rattle.dobj_model.specs.Shown.{number, metadata_form, with_metadata, element_form, elements_form}
use Rattle.dobj_model.proofs.Distinct.{AreApart}
use Rattle.dobj_model.proofs.Forms.{element, form_shallow, plain_shallow, element_shallow, element_total, form_length}
use Rattle.dobj_model.proofs.Forms.{total-insert, entry_total_of}
use Rattle.dobj_model.proofs.Totals.{table_total, string_total}
use Rattle.dobj_draft.specs.declared.draft.DraftElement.{DraftElement}
use Rattle.dobj_draft.specs.declared.draft.Draft.{Draft}
use Rattle.dobj_draft.specs.declared.draft.ObjectField.TheVariants as fields
use Rattle.dobj_draft.specs.Draft.{property, unsigned, optional_name, attributes_in, elements_in, payloads, draft_in}
use Rattle.dobj_draft.specs.Draft.{draft_with, draft, value_of_kind}
use Rattle.dobj_draft.specs.Made.{IsBrought, AreBrought, IsWithin, listed, unfilled, AreListed, AreSmall, IsMadeOf}
use Rattle.dobj_draft.proofs.Kept.{then_value, ok_value, attributes_shallow, attributes_total}
use Rattle.dobj_draft.proofs.Listing.{property_found, field_shorter, deep_of, AreShallow, AreWaiting, all_total}
use Rattle.dobj_draft.proofs.Listing.{names_of, IsList, elements_kept}
use Rattle.dobj_draft.proofs.Filling.{ComeWithin, AreWithin, Fills, payloads_fill}
use Rattle.dobj_draft.proofs.Attributes.{field_differs, attributes_are}
use Rattle.dobj_draft.proofs.Brought.{kind_brings}

-- ---- facts of each item, by place and one after another

pub each_after : {X : Type 0} (P : X → Type 0) (xs : List X) → All P xs → AllByRecursion P xs
each_after P [] h = tt
each_after P (x ∷ xs) h = (h 0 x (omega arith), each_after P xs (λ i d within. h (suc i) d (omega arith)))

pub each_place : {X : Type 0} (P : X → Type 0) (xs : List X) → AllByRecursion P xs → All P xs
each_place P [] h i d within = absurd (omega arith)
each_place P (x ∷ xs) h zero d within = h.0
each_place P (x ∷ xs) h (suc i) d within = each_place P xs h.1 i d (omega arith)

-- ---- what a draft is read of

record ReadOf (d : Draft) : Type 0 where
  v : Value
  rest : List Segment
  first : List DraftElement
  brought : IsBrought v
  short : AreWithin most_total rest
  attributes : attributes_in (property (codes "attributes") v) ≡ Ok d.attributes
  elements : elements_in (property (codes "elements") v) ≡ Ok first
  fills : payloads 2 rest first ≡ Ok d.elements

read_in : (v : Value) (rest : List Segment) (d : Draft) → IsBrought v → AreWithin most_total rest
    → draft_in v rest ≡ Ok d → ReadOf d
unfolding draft_in
read_in v rest d brought short e =
    let one = then_value (unsigned (property (codes "signatures") v)) _ d e in
    let two = then_value (optional_name fields.Id (property (codes "id") v)) _ d one.2 in
    let three = then_value (optional_name fields.Type (property (codes "type") v)) _ d two.2 in
    let four = then_value (attributes_in (property (codes "attributes") v)) _ d three.2 in
    let five = then_value (elements_in (property (codes "elements") v)) _ d four.2 in
    let six = then_value (payloads 2 rest five.0) _ d five.2 in
    let same = ok_value _ d six.2 in
    record {
      v = v;
      rest = rest;
      first = five.0;
      brought = brought;
      short = short;
      attributes = four.1 ∙ ap (λ (x : Draft). Ok x.attributes) same;
      elements = five.1;
      fills = six.1 ∙ ap (λ (x : Draft). Ok x.elements) same;
    }

read_with : (v : Value) (rest : List Segment) (d : Draft) → IsBrought v → AreWithin most_total rest
    → draft_with v rest ≡ Ok d → ReadOf d
read_with null rest d brought short e = absurd (cc)
read_with (truth b) rest d brought short e = absurd (cc)
read_with (whole z) rest d brought short e = absurd (cc)
read_with (text s) rest d brought short e = absurd (cc)
read_with (list vs) rest d brought short e = absurd (cc)
read_with (table es) rest d brought short e = read_in (table es) rest d brought short e

read_of : (input : Option Value) (parts : List Segment) (d : Draft) → AreBrought input parts → draft input parts ≡ Ok d
    → ReadOf d
read_of (Some v) parts d b e = read_with v [] d b.value tt e
read_of None [] d b e = absurd (cc)
read_of None (s ∷ rest) d b e =
    let some = then_value (value_of_kind 1 s.kind s.bytes) (λ v. draft_with v rest) d e in
    let short = each_after _ (s ∷ rest) b.short in
    read_with some.0 rest d (kind_brings 1 s.kind s.bytes some.0 some.1 short.0) short.1 some.2

-- ---- elements with and without bytes

names_unfilled : (es : List DraftElement) → names_of (map unfilled es) ≡ names_of es
names_unfilled [] = refl
names_unfilled (e ∷ es) = ap (λ (x : List (List ℕ)). e.id ∷ x) (names_unfilled es)

shallow_unfilled : (n : ℕ) (es : List DraftElement) → AreShallow n es → AreShallow n (map unfilled es)
shallow_unfilled n [] all = tt
shallow_unfilled n (e ∷ es) all = (all.0, shallow_unfilled n es all.1)

total_unfilled : (es : List DraftElement) → all_total (map unfilled es) ≡ all_total es
total_unfilled [] = refl
total_unfilled (e ∷ es) = omega (arith, total_unfilled es)

waiting_come : (n : ℕ) (es : List DraftElement) → AreWaiting es → ComeWithin n es
waiting_come n [] all = tt
waiting_come n (e ∷ es) all =
    (subst (λ o. IfSome o (λ (bytes : List ℕ). length bytes ≤ n)) (sym all.0) tt, waiting_come n es all.1)

ids_listed : (es : List Element) → names_of (map listed es) ≡ ids_of es
ids_listed [] = refl
ids_listed (e ∷ es) = ap (λ (x : List (List ℕ)). e.id ∷ x) (ids_listed es)

one_shallow : (a : Option Pairs) (id : List ℕ) (size : ℕ) (t : Option (List ℕ)) → deep_of a ≤ 60
    → depth_of (element a id size t) ≤ 62
one_shallow None id size t h = plain_shallow id size t
one_shallow (Some es) id size t h = element_shallow es id size t h

listed_shallow : (es : List Element) → AreShallow 60 (map listed es)
    → deepest_value (values_from (map element_form es)) ≤ 62
listed_shallow [] all = omega arith
listed_shallow (e ∷ es) all =
    omega (arith, one_shallow e.attributes e.id (length e.bytes) e.type_name all.0, listed_shallow es all.1)

listed_total : (es : List Element) → AllByRecursion (λ e. length e.bytes < element_bound) es
    → items_total (map element_form es) ≤ all_total (map listed es) + 28 * length es
listed_total [] all = omega arith
listed_total (e ∷ es) all =
    omega (
      arith,
      element_total e.attributes e.id (length e.bytes) e.type_name,
      length-decimal-le 10 (length e.bytes) (omega arith) all.0 (omega (arith, all.0)),
      listed_total es all.1,
    )

-- ---- how long names and `metadata` are

escape_short : (x : ℕ) → length (escaped x) ≤ 6
escape_short x = here (digit_char (x / 16)) (digit_char (x % 16)) (nat_lt 0 (letter_of x)) (nat_lt x 32)
  where
    here : (p q : ℕ) (b c : Bool)
        → length (if b then 92 ∷ letter_of x ∷ [] else (if c then 92 ∷ 117 ∷ 48 ∷ 48 ∷ p ∷ q ∷ [] else x ∷ [])) ≤ 6
    here p q true c = omega arith
    here p q false true = omega arith
    here p q false false = omega arith

escapes_short : (s : List ℕ) → length (flat_map escaped s) ≤ 6 * length s
escapes_short [] = omega arith
escapes_short (x ∷ s) = omega (arith, length-append (escaped x) (flat_map escaped s), escape_short x, escapes_short s)

name_short : (s : List ℕ) → length s ≤ 255 → length (string_of s) ≤ 1532
name_short s h = omega (arith, string_total s, escapes_short s)

number_short : (n : ℕ) → n < 2 ^ 64 → length (signed_decimal (pos n)) ≤ 20
number_short n h = length-decimal-le 20 n (omega arith) (omega (arith, h)) h

metadata_short : (m : Metadata) → IsMetadata m → length (text_of (metadata_form m)) ≤ 3300
metadata_short m is =
    omega (
      arith,
      table_total ((codes "createdBy", text m.created_by) ∷ (codes "createdOn", number m.created_on)
          ∷ (codes "modifiedBy", text m.modified_by) ∷ (codes "modifiedOn", number m.modified_on)
          ∷ (codes "revision", number m.revision) ∷ []),
      name_short m.created_by is.created_by,
      name_short m.modified_by is.modified_by,
      number_short m.created_on is.created_on,
      number_short m.modified_on is.modified_on,
      number_short m.revision (omega (arith, is.last)),
    )

-- ---- the laws

module _ (d : Draft) (r : ReadOf d) where
  abbrev v : Value
  v = r.v

  within : (k : List ℕ) (w : Value) → property k v ≡ Some w → (length (text_of w) ≤ most_total) × (depth_of w ≤ 63)
  within k w is =
      let found = property_found k v w is in (
        omega (arith, field_shorter k v w found, r.brought.short),
        omega (arith, field_of-depth v w k found, r.brought.nests),
      )

  first_list : IsList 60 most_total r.first
  first_list =
      elements_kept 60 most_total (property (codes "elements") v) r.first r.elements (within (codes "elements"))

  fill : Fills most_total r.first d.elements
  fill = payloads_fill most_total 2 r.rest r.first d.elements r.fills r.short

  count : length d.elements ≡ length r.first
  count = sym (length-map d.elements unfilled) ∙ (ap length fill.same ∙ length-map r.first unfilled)

  names : names_of d.elements ≡ names_of r.first
  names = sym (names_unfilled d.elements) ∙ (ap names_of fill.same ∙ names_unfilled r.first)

  come : ComeWithin most_total d.elements
  come = fill.within (waiting_come most_total r.first first_list.waiting)

  draft_within : IsWithin d
  draft_within = record {
    attributes = attributes_are (property (codes "attributes") v) d.attributes
        (λ w is. field_differs (codes "attributes") v w r.brought.differ (property_found (codes "attributes") v w is))
        r.attributes;
    few = omega (arith, count, first_list.few);
    differ = subst AreApart (sym names) first_list.apart;
    small = each_place _ d.elements (smaller d.elements come);
  }
    where
      smaller_one : (o : Option (List ℕ)) → IfSome o (λ bytes. length bytes ≤ most_total)
          → IfSome o (λ bytes. length bytes < element_bound)
      smaller_one None h = tt
      smaller_one (Some bytes) h = omega (arith, h)

      smaller : (es : List DraftElement) → ComeWithin most_total es
          → AllByRecursion (λ e. IfSome e.bytes (λ bytes. length bytes < element_bound)) es
      smaller [] all = tt
      smaller (e ∷ es) all = (smaller_one e.bytes all.0, smaller es all.1)

  -- elements that are listed
  elements_within : (es : List Element) → AreListed d.elements es → AreSmall es → AreElements es
  elements_within es same small =
      let all : map listed es ≡ map unfilled r.first = same ∙ fill.same in
      let ids : ids_of es ≡ names_of r.first = sym (ids_listed es) ∙ (ap names_of all ∙ names_unfilled r.first) in
      record {
        few = omega (arith, sym (length-map es listed) ∙ (ap length all ∙ length-map r.first unfilled), first_list.few);
        small = small;
        differ = subst AreApart (sym ids) first_list.apart;
      }

  listed_deep : (es : List Element) → AreListed d.elements es → deepest_value (values_from (map element_form es)) ≤ 62
  listed_deep es same =
      listed_shallow es (subst (AreShallow 60) (sym (same ∙ fill.same))
      (shallow_unfilled 60 r.first first_list.shallow))

  listed_long : (es : List Element) → AreListed d.elements es → AreSmall es → length es ≤ most_elements
      → items_total (map element_form es) ≤ 3 * most_total + 44 * most_elements
  listed_long es same small few =
      omega (
        arith,
        listed_total es (each_after _ es small),
        ap all_total (same ∙ fill.same),
        total_unfilled r.first,
        first_list.total,
      )

  entry_long : (es : List Element) → AreListed d.elements es → AreSmall es → length es ≤ most_elements
      → entries_total (elements_form es) ≤ 3 * most_total + 44 * most_elements + 13
  entry_long [] same small few = omega arith
  entry_long (e ∷ es) same small few =
      omega (
        arith,
        listed_long (e ∷ es) same small few,
        entry_total_of (e ∷ es) (λ is. absurd (omega (arith, ap length is))),
      )

  -- an object that is made of the draft
  object_within : (o : ObjectValue) → IsMadeOf d o → IsObject o
  object_within o m =
      let attributes : AreAttributes o.attributes = subst AreAttributes (sym m.attributes) draft_within.attributes in
      let elements = elements_within o.elements m.elements m.small in
      let deep : deepest_entry (entries_from o.attributes) ≤ 62 =
      omega (
        arith,
        ap (λ x. deepest_entry (entries_from x)) m.attributes,
        attributes_shallow (property (codes "attributes") v) d.attributes 62 r.attributes
            (λ w is. (within (codes "attributes") w is).1),
      ) in
      let long : entries_total o.attributes ≤ most_total =
      omega (
        arith,
        ap entries_total m.attributes,
        attributes_total (property (codes "attributes") v) d.attributes most_total r.attributes
            (λ w is. (within (codes "attributes") w is).0),
      ) in
      let put = total-insert o.attributes (codes "metadata") (metadata_form o.metadata) attributes.no_metadata in
      let some : 1 ≤ entries_total (with_metadata o.attributes o.metadata) = omega (arith, put) in
      record {
        attributes = attributes;
        metadata = m.metadata;
        elements = elements;
        nests = form_shallow o.attributes o.elements o.id o.type_name deep (listed_deep o.elements m.elements);
        short = omega (
          arith,
          form_length (with_metadata o.attributes o.metadata) o.elements o.id o.type_name some,
          put,
          long,
          metadata_short o.metadata m.metadata,
          entry_long o.elements m.elements m.small elements.few,
          name_short o.id m.id.1,
          name_short o.type_name m.type_name.1,
        );
      }

pub brought_within : (input : Option Value) (parts : List Segment) (d : Draft) → AreBrought input parts
    → draft input parts ≡ Ok d → IsWithin d
brought_within input parts d b e = draft_within d (read_of input parts d b e)

pub brought_elements : (input : Option Value) (parts : List Segment) (d : Draft) (es : List Element)
    → AreBrought input parts → draft input parts ≡ Ok d
    → AreListed d.elements es → AreSmall es → AreElements es
brought_elements input parts d es b e = elements_within d (read_of input parts d b e) es

pub brought_object : (input : Option Value) (parts : List Segment) (d : Draft) (o : ObjectValue)
    → AreBrought input parts → draft input parts ≡ Ok d → IsMadeOf d o → IsObject o
brought_object input parts d o b e = object_within d (read_of input parts d b e) o
