-- Shown forms: how deep they nest, how long they are, and that they are sound.
use Rattle.std.proofs.Common.{◌≡◌, ◌≢◌, ℕ, zero, suc, ◌+◌, ◌<◌, ◌≤◌, ◌^◌, List, [], ◌∷◌, ◌++◌, length, map, take}
use Rattle.std.proofs.Common.{get_or, Bool, true, false, if◌then◌else◌, Option, Some, None, codes, pos, refl, sym, ap}
use Rattle.std.proofs.Common.{◌∙◌, arith}
use Rattle.std.specs.Prelude.{IsUtf8}
use Rattle.json.proofs.Printed.Utf8.{are_ascii, IsUtf8-are_ascii}
use Rattle.std.proofs.lemmas.List.{take_more, map-append}
use Rattle.std.specs.Ordering.{match_ordering, is_eq}
use Rattle.std.specs.declared.cmp.Ordering.{Ordering}
use Rattle.std.specs.declared.cmp.Ordering.TheVariants.{Less, Equal, Greater}
use Rattle.std.specs.BTreeMap.{insert_entry}
use Rattle.std.specs.List.Sorted.{IsStrictlySortedBy}
use Rattle.std.specs.Cmp.Lexicographic.{pointwise, texts_ties}
use Rattle.std.specs.Prelude.{nat_eq}
use Rattle.std.specs.Fmt.{signed_decimal}
use Rattle.doip_json.specs.Value.{Value, text, values_from, entries_from, depth_of, deepest_value, deepest_entry}
use Rattle.doip_json.specs.Look.{entry_of}
use Rattle.doip_json.specs.Sound.{IsSound, AreSound, EntriesAreSound}
use Rattle.doip_json.specs.Text.{text_of, string_of}
use Rattle.doip_json.proofs.Ascending.{Pairs, compared}
use Rattle.dobj_model.specs.declared.metadata.Metadata.{Metadata}
use Rattle.dobj_model.specs.declared.elements.Element.{Element}
use Rattle.dobj_model.specs.Lengths.{items_total, entry_total, entries_total}
use Rattle.doip_json.proofs.Building.{deepest_entry-insert}
use Rattle.dobj_model.specs.declared.object.ObjectValue.{ObjectValue}
use Rattle.dobj_model.specs.Shown.{object_with, number, optional, metadata_form, with_metadata, element_form}
use Rattle.dobj_model.specs.Shown.{elements_form, shown_form, bare_form}
use Rattle.dobj_model.proofs.Totals.{table_total, list_total}

-- an object's form by its parts
abbrev pub form : Pairs → List Element → List ℕ → List ℕ → Value
form attributes elements id type_name = object_with
    ((codes "attributes", object_with attributes)
    ∷ (elements_form elements ++ (codes "id", text id) ∷ (codes "type", text type_name) ∷ []))

-- an element's form by its parts
abbrev pub element : Option Pairs → List ℕ → ℕ → Option (List ℕ) → Value
element attributes id size type_name = object_with
    (optional (codes "attributes") object_with attributes
    ++ (codes "id", text id) ∷ (codes "length", number size) ∷ optional (codes "type") text type_name)

-- ---- depth

pub form_shallow : (attributes : Pairs) (elements : List Element) (id type_name : List ℕ)
    → deepest_entry (entries_from attributes) ≤ 62 → deepest_value (values_from (map element_form elements)) ≤ 62
    → depth_of (form attributes elements id type_name) ≤ 64
form_shallow attributes [] id type_name a e = omega arith
form_shallow attributes (x ∷ xs) id type_name a e = omega arith

pub form_attributes : (attributes : Pairs) (elements : List Element) (id type_name : List ℕ)
    → depth_of (form attributes elements id type_name) ≤ 64 → deepest_entry (entries_from attributes) ≤ 62
form_attributes attributes [] id type_name h = omega arith
form_attributes attributes (x ∷ xs) id type_name h = omega arith

pub form_elements : (attributes : Pairs) (elements : List Element) (id type_name : List ℕ)
    → depth_of (form attributes elements id type_name) ≤ 64
    → deepest_value (values_from (map element_form elements)) ≤ 62
form_elements attributes [] id type_name h = omega arith
form_elements attributes (x ∷ xs) id type_name h = omega arith

pub plain_shallow : (id : List ℕ) (size : ℕ) (type_name : Option (List ℕ))
    → depth_of (element None id size type_name) ≤ 62
plain_shallow id size None = omega arith
plain_shallow id size (Some t) = omega arith

pub element_shallow : (attributes : Pairs) (id : List ℕ) (size : ℕ) (type_name : Option (List ℕ))
    → deepest_entry (entries_from attributes) ≤ 60 → depth_of (element (Some attributes) id size type_name) ≤ 62
element_shallow attributes id size None h = omega arith
element_shallow attributes id size (Some t) h = omega arith

pub element_deep : (attributes : Pairs) (id : List ℕ) (size : ℕ) (type_name : Option (List ℕ))
    → depth_of (element (Some attributes) id size type_name) ≤ 62 → deepest_entry (entries_from attributes) ≤ 60
element_deep attributes id size None h = omega arith
element_deep attributes id size (Some t) h = omega arith

-- ---- length

absent_here : (b : Bool) (v : Value) (o : Option Value) → (if b then Some v else o) ≡ None → (b ≡ false) × (o ≡ None)
absent_here true v o e = absurd (cc)
absent_here false v o e = (refl, e)

total_here : (k : List ℕ) (v : Value) (e : List ℕ × Value) (es rest : Pairs)
    → entries_total rest ≡ entries_total es + entry_total k v → pointwise nat_eq k e.0 ≡ false → (o : Ordering)
    → compared k e.0 ≡ o
    → entries_total (match_ordering o ((k, v) ∷ e ∷ es) ((e.0, v) ∷ es) (e ∷ rest)) ≡ entries_total
    (e ∷ es) + entry_total k v
total_here k v e es rest later other Less is = omega arith
total_here k v e es rest later other Equal is =
    let no : true ≡ false = sym (texts_ties k e.0 ∙ ap is_eq is) ∙ other in absurd (cc)
total_here k v e es rest later other Greater is = omega (arith, later)

-- a key that is put where it was absent adds its entry
pub total-insert : (es : Pairs) (k : List ℕ) (v : Value) → entry_of k (entries_from es) ≡ None
    → entries_total (insert_entry compared es k v) ≡ entries_total es + entry_total k v
total-insert [] k v absent = omega arith
total-insert (e ∷ es) k v absent =
    let parts = absent_here (pointwise nat_eq k e.0) e.1 (entry_of k (entries_from es)) absent in
    total_here k v e es (insert_entry compared es k v) (total-insert es k v parts.1) parts.0 (compared k e.0) refl

pub elements_total : (e : Element) (es : List Element)
    → entries_total (elements_form (e ∷ es)) ≡ items_total (map element_form (e ∷ es)) + 13
elements_total e es = omega (arith, list_total (map element_form (e ∷ es)))

pub form_length : (attributes : Pairs) (elements : List Element) (id type_name : List ℕ) → 1 ≤ entries_total attributes
    → length (text_of (form attributes elements id type_name)) ≡ entries_total attributes + entries_total
    (elements_form elements) + length (string_of id) + length (string_of type_name) + 30
form_length attributes [] id type_name some =
    omega (
      arith,
      table_total attributes,
      table_total
          ((codes "attributes", object_with attributes) ∷ (codes "id", text id) ∷ (codes "type", text type_name) ∷ []),
    )
form_length attributes (e ∷ es) id type_name some =
    omega (
      arith,
      table_total attributes,
      table_total
          ((codes "attributes", object_with attributes)
          ∷ (elements_form (e ∷ es) ++ (codes "id", text id) ∷ (codes "type", text type_name) ∷ [])),
    )

pub element_total : (attributes : Option Pairs) (id : List ℕ) (size : ℕ) (type_name : Option (List ℕ))
    → length (text_of (element attributes id size type_name))
    ≡ entries_total (optional (codes "attributes") object_with attributes) + entries_total
    (optional (codes "type") text type_name) + length (string_of id) + length (signed_decimal (pos size)) + 17
element_total None id size None =
    omega (arith, table_total ((codes "id", text id) ∷ (codes "length", number size) ∷ []))
element_total None id size (Some t) =
    omega (arith, table_total ((codes "id", text id) ∷ (codes "length", number size) ∷ (codes "type", text t) ∷ []))
element_total (Some a) id size None =
    omega (
      arith,
      table_total ((codes "attributes", object_with a) ∷ (codes "id", text id)
          ∷ (codes "length", number size) ∷ []),
    )
element_total (Some a) id size (Some t) =
    omega (
      arith,
      table_total ((codes "attributes", object_with a) ∷ (codes "id", text id)
          ∷ (codes "length", number size) ∷ (codes "type", text t) ∷ []),
    )

-- ---- soundness

pub letters : (s : List ℕ) → are_ascii s ≡ true → IsUtf8 s
letters s plain = IsUtf8-are_ascii s plain

pub metadata_sound : (m : Metadata) → IsUtf8 m.created_by → IsUtf8 m.modified_by → m.created_on < 2 ^ 64
    → m.modified_on < 2 ^ 64 → m.revision < 2 ^ 64 → IsSound (metadata_form m)
unfolding IsStrictlySortedBy
metadata_sound m by modified made changed revision = (
  ((refl, (refl, (refl, (refl, tt)))), ((refl, (refl, (refl, tt))), ((refl, (refl, tt)), ((refl, tt), (tt, tt))))),
  (
    letters _ refl,
    by,
    (
      letters _ refl,
      made,
      (letters _ refl, modified, (letters _ refl, changed, (letters _ refl, revision, tt))),
    ),
  ),
)

pub element_sound : (attributes : Option Pairs) (id : List ℕ) (size : ℕ) (type_name : Option (List ℕ))
    → EntriesAreSound (entries_from (optional (codes "attributes") object_with attributes))
    → EntriesAreSound (entries_from (optional (codes "type") text type_name))
    → IsUtf8 id → size < 2 ^ 64 → IsSound (element attributes id size type_name)
unfolding IsStrictlySortedBy
element_sound None id size None a t i n = (((refl, tt), (tt, tt)), (letters _ refl, i, (letters _ refl, n, tt)))
element_sound None id size (Some s) a t i n =
    (((refl, (refl, tt)), ((refl, tt), (tt, tt))), (letters _ refl, i, (letters _ refl, n, t)))
element_sound (Some b) id size None a t i n =
    (((refl, (refl, tt)), ((refl, tt), (tt, tt))), (a.0, a.1, (letters _ refl, i, (letters _ refl, n, tt))))
element_sound (Some b) id size (Some s) a t i n = (
  ((refl, (refl, (refl, tt))), ((refl, (refl, tt)), ((refl, tt), (tt, tt)))),
  (a.0, a.1, (letters _ refl, i, (letters _ refl, n, t))),
)

pub form_sound : (attributes : Pairs) (elements : List Element) (id type_name : List ℕ)
    → IsSound (object_with attributes) → EntriesAreSound (entries_from (elements_form elements)) → IsUtf8 id
    → IsUtf8 type_name → IsSound (form attributes elements id type_name)
unfolding IsStrictlySortedBy
form_sound attributes [] id type_name a e i t =
    (((refl, (refl, tt)), ((refl, tt), (tt, tt))), (letters _ refl, a, (letters _ refl, i, (letters _ refl, t, tt))))
form_sound attributes (x ∷ xs) id type_name a e i t = (
  ((refl, (refl, (refl, tt))), ((refl, (refl, tt)), ((refl, tt), (tt, tt)))),
  (letters _ refl, a, (e.0, e.1, (letters _ refl, i, (letters _ refl, t, tt)))),
)

-- ---- the first elements

pub elements_next : (es : List Element) (i : ℕ) (e : Element) → e ≡ get_or es i e → i < length es
    → map element_form (take (i + 1) es) ≡ map element_form (take i es) ++ element_form e ∷ []
elements_next es i e is within =
    ap (map element_form) (take_more es i e within ∙ ap (λ x. take i es ++ x ∷ []) (sym is))
    ∙ map-append element_form (take i es) (e ∷ [])

pub items_total-append : (vs : List Value) (v : Value)
    → items_total (vs ++ v ∷ []) ≡ items_total vs + (length (text_of v) + 1)
items_total-append [] v = omega arith
items_total-append (w ∷ vs) v = omega (arith, items_total-append vs v)

pub element_within_all : (es : List Element) (i : ℕ) (e : Element) → e ≡ get_or es i e → i < length es
    → depth_of (element_form e) ≤ deepest_value (values_from (map element_form es))
element_within_all [] i e is within = absurd (omega arith)
element_within_all (x ∷ es) zero e is within = let same : x ≡ e = sym is in rw (← same) (omega arith)
element_within_all (x ∷ es) (suc i) e is within = omega (arith, element_within_all es i e is (omega arith))

pub entry_total_of : (es : List Element) → es ≢ []
    → entries_total (elements_form es) ≡ items_total (map element_form es) + 13
entry_total_of [] some = absurd (some refl)
entry_total_of (e ∷ es) some = elements_total e es

pub entry_sound_of : (es : List Element) → AreSound (values_from (map element_form es))
    → EntriesAreSound (entries_from (elements_form es))
entry_sound_of [] all = tt
entry_sound_of (e ∷ es) all = (letters _ refl, all, tt)

-- `metadata` nests no deeper than the attributes may
pub shown_shallow : (o : ObjectValue) → depth_of (bare_form o) ≤ 64 → depth_of (shown_form o) ≤ 64
shown_shallow o h =
    let attributes = form_attributes o.attributes o.elements o.id o.type_name h in
    form_shallow (with_metadata o.attributes o.metadata) o.elements o.id o.type_name
    (deepest_entry-insert o.attributes (codes "metadata") (metadata_form o.metadata) 62 attributes (omega arith))
    (form_elements o.attributes o.elements o.id o.type_name h)
