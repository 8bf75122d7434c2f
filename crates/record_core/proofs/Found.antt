-- What is found in the shown form of an object.
use Rattle.std.proofs.Common.{◌≡◌, ℕ, ◌≤◌, List, [], ◌∷◌, ◌++◌, length, map, Bool, true, false, ◌&&◌, nat_le, nat_eq, if◌then◌else◌, Option, Some, None, codes, refl, sym, ap, ◌∙◌, subst, rules, pos}
use Rattle.std.specs.Ordering.{match_ordering, is_eq}
use Rattle.std.specs.declared.cmp.Ordering.{Ordering}
use Rattle.std.specs.declared.cmp.Ordering.TheVariants.{Less, Equal, Greater}
use Rattle.std.specs.BTreeMap.{insert_entry}
use Rattle.std.specs.Map.{remove_entry}
use Rattle.std.specs.Cmp.Lexicographic.{pointwise, texts_ties}
use Rattle.doip_json.specs.Value.{Value, text, whole, list, table, values_from, entries_from}
use Rattle.doip_json.specs.Look.{entry_of}
use Rattle.doip_json.proofs.Ascending.{Pairs, compared}
use Rattle.doip_json.proofs.Building.{entry_of-insert}
use Rattle.doip_json.proofs.Found.{same_key}
use Rattle.doip_json.proofs.PlainLists.{entries_listed, values_listed}
use Rattle.dobj_model.specs.declared.elements.Element.{Element}
use Rattle.dobj_model.specs.declared.metadata.Metadata.{Metadata}
use Rattle.dobj_model.specs.declared.object.ObjectValue.{ObjectValue}
use Rattle.dobj_model.specs.Name.{IsName}
use Rattle.dobj_model.specs.Shown.{object_with, number, optional, element_form, elements_form}
use Rattle.record_core.specs.declared.fields.Fields.{Fields}
use Rattle.record_core.specs.declared.format.Format.{Format}
use Rattle.record_core.specs.declared.format.Format.TheVariants.{First, Second}
use Rattle.record_core.specs.Body.{metadata_in}
use Rattle.record_core.specs.Fields.{◌>>=◌, name_of, name_at, table_at, list_if, metadata_of, metadata_at, fields_in, fields_at, listed_in, IsTable}
use Rattle.record_core.specs.Storable.{HasTimesOf}

-- ---- one value

pub table_found : (o : Option Value) (es : Pairs) → o ≡ Some (table (entries_from es)) → table_at o ≡ Some es
table_found o es is = ap table_at is ∙ ap Some (entries_listed es)

pub list_found : (o : Option Value) (vs : List Value) → o ≡ Some (list (values_from vs)) → list_if o ≡ Some vs
list_found o vs is = ap list_if is ∙ ap Some (values_listed vs)

pub metadata_found : (format : Format) (o : Option Value) (es : Pairs) → o ≡ Some (table (entries_from es)) → metadata_of format es ≡ metadata_at format o
metadata_found format o es is = sym (ap (metadata_at format) is ∙ ap (metadata_of format) (entries_listed es))

pub fields_found : (format : Format) (v : Value) (es : Pairs) → v ≡ table (entries_from es) → fields_in format es ≡ fields_at format v
fields_found format v es is = sym (ap (fields_at format) is ∙ ap (fields_in format) (entries_listed es))

pub is_table : (o : Option Value) (es : Pairs) → o ≡ Some (table (entries_from es)) → IsTable o
is_table o es is = subst IsTable (sym is) tt

le_true : (m n : ℕ) → m ≤ n → nat_le m n ≡ true
le_true m n h = search rules

both : (b c : Bool) → b ≡ true → c ≡ true → (b && c) ≡ true
both true c e f = f
both false c e f = e

pub name_is : (s : List ℕ) → IsName s → name_of s ≡ Some s
name_is s name = ap (λ b. if b then Some s else None) (both (nat_le 1 (length s)) (nat_le (length s) 255) (le_true 1 (length s) name.0) (le_true (length s) 255 name.1))

-- ---- a key that was put where it was absent

absent_parts : (b : Bool) (v : Value) (o : Option Value) → (if b then Some v else o) ≡ None → (b ≡ false) × (o ≡ None)
absent_parts true v o e = absurd (cc)
absent_parts false v o e = (refl, e)

taken_here : (k : List ℕ) (v : Value) (e : List ℕ × Value) (es rest : Pairs) → remove_entry (pointwise nat_eq k) rest ≡ es → pointwise nat_eq k e.0 ≡ false → (o : Ordering) → compared k e.0 ≡ o
    → remove_entry (pointwise nat_eq k) (match_ordering o ((k, v) ∷ e ∷ es) ((e.0, v) ∷ es) (e ∷ rest)) ≡ e ∷ es
taken_here k v e es rest later other Less is = rw (same_key k k refl) refl
taken_here k v e es rest later other Equal is = let no : true ≡ false = sym (texts_ties k e.0 ∙ ap is_eq is) ∙ other in absurd (cc)
taken_here k v e es rest later other Greater is = rw other (ap (λ r. e ∷ r) later)

pub remove-insert : (es : Pairs) (k : List ℕ) (v : Value) → entry_of k (entries_from es) ≡ None → remove_entry (pointwise nat_eq k) (insert_entry compared es k v) ≡ es
remove-insert [] k v absent = rw (same_key k k refl) refl
remove-insert (e ∷ es) k v absent =
    let parts = absent_parts (pointwise nat_eq k e.0) e.1 (entry_of k (entries_from es)) absent in
    taken_here k v e es (insert_entry compared es k v) (remove-insert es k v parts.1) parts.0 (compared k e.0) refl

-- ---- an object

-- the entries of an object's form in each format
abbrev pub entries_of_form : Format → ObjectValue → Pairs
entries_of_form format o =
    (codes "attributes", object_with (insert_entry compared o.attributes (codes "metadata") (metadata_in format o.metadata)))
    ∷ (elements_form o.elements ++ (codes "id", text o.id) ∷ (codes "type", text o.type_name) ∷ [])

first_back : (m : Metadata) → (m.created_on ≡ 0) × (m.modified_on ≡ 0)
    → metadata_of First ((codes "createdBy", text m.created_by) ∷ (codes "modifiedBy", text m.modified_by) ∷ (codes "revision", whole (pos m.revision)) ∷ []) ≡ Some m
unfolding metadata_of
first_back m zeros = λ j. Some (record {
  created_by = m.created_by;
  created_on = (sym zeros.0) j;
  modified_by = m.modified_by;
  modified_on = (sym zeros.1) j;
  revision = m.revision;
})

second_back : (m : Metadata) → metadata_of Second ((codes "createdBy", text m.created_by) ∷ (codes "createdOn", whole (pos m.created_on)) ∷ (codes "modifiedBy", text m.modified_by) ∷ (codes "modifiedOn", whole (pos m.modified_on)) ∷ (codes "revision", whole (pos m.revision)) ∷ []) ≡ Some m
unfolding metadata_of
second_back m = refl

metadata_back : (format : Format) (o : ObjectValue) → HasTimesOf format o → metadata_at format (Some (metadata_in format o.metadata)) ≡ Some o.metadata
metadata_back First o times = first_back o.metadata times
metadata_back Second o times = second_back o.metadata

elements_back : (es : List Element) (id type_name : List ℕ)
    → list_if (entry_of (codes "elements") (entries_from (elements_form es ++ (codes "id", text id) ∷ (codes "type", text type_name) ∷ []))) ≡ Some (map element_form es)
elements_back [] id type_name = refl
elements_back (e ∷ es) id type_name = ap Some (values_listed (map element_form (e ∷ es)))

id_back : (es : List Element) (id type_name : List ℕ) → entry_of (codes "id") (entries_from (elements_form es ++ (codes "id", text id) ∷ (codes "type", text type_name) ∷ [])) ≡ Some (text id)
id_back [] id type_name = refl
id_back (e ∷ es) id type_name = refl

type_back : (es : List Element) (id type_name : List ℕ) → entry_of (codes "type") (entries_from (elements_form es ++ (codes "id", text id) ∷ (codes "type", text type_name) ∷ [])) ≡ Some (text type_name)
type_back [] id type_name = refl
type_back (e ∷ es) id type_name = refl

abbrev made : List ℕ → List ℕ → Pairs → Metadata → List Value → Option Fields
made id type_name attributes metadata elements = Some (record { id = id; type_name = type_name; attributes = attributes; metadata = metadata; elements = elements })

chain : (i t : Option (List ℕ)) (a : Option Pairs) (m : Pairs → Option Metadata) (l : Option (List Value)) (id type_name : List ℕ) (attributes kept : Pairs) (metadata : Metadata) (elements : List Value)
    → i ≡ Some id → t ≡ Some type_name → a ≡ Some attributes → m attributes ≡ Some metadata → l ≡ Some elements → remove_entry (pointwise nat_eq (codes "metadata")) attributes ≡ kept
    → (i >>= (λ id. t >>= (λ type_name. a >>= (λ attributes. m attributes >>= (λ metadata. l >>= (λ elements. made id type_name (remove_entry (pointwise nat_eq (codes "metadata")) attributes) metadata elements))))))
    ≡ made id type_name kept metadata elements
chain i t a m l id type_name attributes kept metadata elements p q r s u w = rw (p, q, r, s, u, w) refl

-- what is found in the form of an object is the object
pub fields_back : (format : Format) (o : ObjectValue) → IsName o.id → IsName o.type_name → HasTimesOf format o → entry_of (codes "metadata") (entries_from o.attributes) ≡ None
    → fields_in format (entries_of_form format o)
    ≡ Some (record { id = o.id; type_name = o.type_name; attributes = o.attributes; metadata = o.metadata; elements = map element_form o.elements })
unfolding fields_in
fields_back format o id type_name times absent =
    let shown = insert_entry compared o.attributes (codes "metadata") (metadata_in format o.metadata) in
    chain (name_at (entry_of (codes "id") (entries_from (entries_of_form format o)))) (name_at (entry_of (codes "type") (entries_from (entries_of_form format o)))) (table_at (entry_of (codes "attributes") (entries_from (entries_of_form format o))))
    (λ attributes. metadata_at format (entry_of (codes "metadata") (entries_from attributes))) (list_if (entry_of (codes "elements") (entries_from (entries_of_form format o))))
    o.id o.type_name shown o.attributes o.metadata (map element_form o.elements)
    (ap name_at (id_back o.elements o.id o.type_name) ∙ name_is o.id id)
    (ap name_at (type_back o.elements o.id o.type_name) ∙ name_is o.type_name type_name)
    (ap Some (entries_listed shown))
    (ap (metadata_at format) (entry_of-insert o.attributes (codes "metadata") (metadata_in format o.metadata)) ∙ metadata_back format o times)
    (elements_back o.elements o.id o.type_name)
    (remove-insert o.attributes (codes "metadata") (metadata_in format o.metadata) absent)

-- ---- an element

listed_parts : (id : List ℕ) (size : ℕ) (t : Option (List ℕ)) (a : Option Pairs) → IsName id
    → listed_in (object_with (optional (codes "attributes") object_with a ++ (codes "id", text id) ∷ (codes "length", number size) ∷ optional (codes "type") text t)) ≡ Some (record { id = id; type_name = t; attributes = a })
unfolding listed_in
listed_parts id size None None name = rw (name_is id name) refl
listed_parts id size (Some t) None name = rw (name_is id name) refl
listed_parts id size None (Some a) name = rw (name_is id name, entries_listed a) refl
listed_parts id size (Some t) (Some a) name = rw (name_is id name, entries_listed a) refl

-- what is found in the form of an element is the element
pub listed_back : (e : Element) → IsName e.id → listed_in (element_form e) ≡ Some (record { id = e.id; type_name = e.type_name; attributes = e.attributes })
listed_back e name = listed_parts e.id (length e.bytes) e.type_name e.attributes name
