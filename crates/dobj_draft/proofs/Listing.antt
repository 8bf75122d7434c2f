-- The elements that a draft lists: how many, that their identifiers differ, how deep and how long they are.
use Rattle.std.proofs.Common.{◌≡◌, ◌≢◌, ℕ, zero, suc, ◌+◌, ◌*◌, ◌<◌, ◌≤◌, List, [], ◌∷◌, ◌++◌, length, map, get_or}
use Rattle.std.proofs.Common.{Bool, true, false, if◌then◌else◌, Option, Some, None, Result, Ok, Err, nat_eq, nat_le}
use Rattle.std.proofs.Common.{codes, refl, sym, ap, subst, ◌∙◌, arith}
use Rattle.std.specs.List.{AllByRecursion}
use Rattle.std.specs.Cmp.Lexicographic.{pointwise}
use Rattle.std.proofs.lemmas.Bool.Decides.{nat_tests}
use Rattle.std.proofs.lemmas.List.{length-append, map-append}
use Rattle.std.proofs.lemmas.List.Quantifiers.{all_pairs_push}
use Rattle.doip_json.specs.Value.{Value, null, truth, whole, text, list, table, values_from, values_in, entries_from}
use Rattle.doip_json.specs.Value.{entries_in, depth_of, deepest_value, deepest_entry}
use Rattle.doip_json.specs.Look.{entry_of, field_of}
use Rattle.doip_json.specs.Text.{text_of, string_of}
use Rattle.doip_json.proofs.Ascending.{Pairs}
use Rattle.doip_json.proofs.Building.{field_of-depth}
use Rattle.doip_json.proofs.Found.{same_key}
use Rattle.doip_json.proofs.PlainLists.{entries_back, values_back}
use Rattle.dobj_model.specs.Lengths.{items_total, entries_total}
use Rattle.dobj_model.specs.Shown.{object_with, optional}
use Rattle.dobj_model.specs.Elements.{most_elements}
use Rattle.dobj_model.proofs.Totals.{table_total, list_total}
use Rattle.dobj_model.proofs.Distinct.{AreApart}
use Rattle.dobj_draft.specs.declared.draft.ObjectFault.{ObjectFault}
use Rattle.dobj_draft.specs.declared.draft.ObjectField.{ObjectField}
use Rattle.dobj_draft.specs.declared.draft.ObjectField.TheVariants as fields
use Rattle.dobj_draft.specs.declared.draft.DraftElement.{DraftElement}
use Rattle.dobj_draft.specs.Draft.{unless_null, property, is_name, name_of, required_name, optional_text}
use Rattle.dobj_draft.specs.Draft.{optional_object, element_in, is_listed, and_element, with_element, elements_after}
use Rattle.dobj_draft.specs.Draft.{are_tables, elements_of, elements_in}
use Rattle.dobj_draft.proofs.Kept.{then_value, ok_value, if_ok}

-- ---- what lies at a key

not_null : (o : Option Value) (v : Value) → unless_null o ≡ Some v → o ≡ Some v
not_null None v e = absurd (cc)
not_null (Some null) v e = absurd (cc)
not_null (Some (truth b)) v e = e
not_null (Some (whole z)) v e = e
not_null (Some (text s)) v e = e
not_null (Some (list vs)) v e = e
not_null (Some (table es)) v e = e

pub property_found : (k : List ℕ) (v w : Value) → property k v ≡ Some w → field_of k v ≡ Some w
property_found k v w e = not_null (field_of k v) w e

entry_within : (k : List ℕ) (es : Pairs) (v : Value) → entry_of k (entries_from es) ≡ Some v
    → length (text_of v) + 2 ≤ entries_total es
entry_within k [] v is = absurd (cc)
entry_within k (e ∷ es) v is = here (pointwise nat_eq k e.0) is (entry_within k es v)
  where
    here : (b : Bool) → (if b then Some e.1 else entry_of k (entries_from es)) ≡ Some v
        → (entry_of k (entries_from es) ≡ Some v → length (text_of v) + 2 ≤ entries_total es)
        → length (text_of v) + 2 ≤ entries_total (e ∷ es)
    here true found later = let same : e.1 ≡ v = cc in omega (arith, ap (λ x. length (text_of x)) same)
    here false found later = omega (arith, later found)

-- the text of what lies at a key is shorter than the object's
pub field_shorter : (k : List ℕ) (v w : Value) → field_of k v ≡ Some w → length (text_of w) + 3 ≤ length (text_of v)
field_shorter k null w is = absurd (cc)
field_shorter k (truth b) w is = absurd (cc)
field_shorter k (whole z) w is = absurd (cc)
field_shorter k (text s) w is = absurd (cc)
field_shorter k (list vs) w is = absurd (cc)
field_shorter k (table es) w is =
    let ps = entries_in es in
    let back = entries_back es in
    let inside = entry_within k ps w (ap (entry_of k) back ∙ is) in
    omega (arith, inside, table_total ps, ap (λ x. length (text_of (table x))) back)

-- ---- one element

-- what is bounded of an element: how deep its attributes are, and how long its parts
abbrev pub deep_of : Option Pairs → ℕ
deep_of None = 0
deep_of (Some es) = deepest_entry (entries_from es)

abbrev pub parts_total : DraftElement → ℕ
parts_total e =
    entries_total (optional (codes "attributes") object_with e.attributes)
    + entries_total (optional (codes "type") text e.type_name) + length (string_of e.id)

named : (field : ObjectField) (s id : List ℕ) → name_of field s ≡ Ok id → s ≡ id
named field s id e = if_ok (is_name s) s id _ e

id_shorter : (field : ObjectField) (o : Option Value) (id : List ℕ) (n : ℕ) → required_name field o ≡ Ok id
    → ((w : Value) → o ≡ Some w → length (text_of w) + 3 ≤ n) → length (string_of id) ≤ n
id_shorter field None id n e short = absurd (cc)
id_shorter field (Some null) id n e short = absurd (cc)
id_shorter field (Some (truth b)) id n e short = absurd (cc)
id_shorter field (Some (whole z)) id n e short = absurd (cc)
id_shorter field (Some (text s)) id n e short =
    omega (arith, short (text s) refl, ap (λ x. length (string_of x)) (named field s id e))
id_shorter field (Some (list vs)) id n e short = absurd (cc)
id_shorter field (Some (table es)) id n e short = absurd (cc)

type_shorter : (field : ObjectField) (o : Option Value) (name : Option (List ℕ)) (n : ℕ)
    → optional_text field o ≡ Ok name
    → ((w : Value) → o ≡ Some w → length (text_of w) + 3 ≤ n)
    → entries_total (optional (codes "type") text name) ≤ n + 5
type_shorter field None name n e short =
    omega (arith, ap (λ x. entries_total (optional (codes "type") text x)) (ok_value None name e))
type_shorter field (Some null) name n e short = absurd (cc)
type_shorter field (Some (truth b)) name n e short = absurd (cc)
type_shorter field (Some (whole z)) name n e short = absurd (cc)
type_shorter field (Some (text s)) name n e short =
    omega (
      arith,
      ap (λ x. entries_total (optional (codes "type") text x)) (ok_value (Some s) name e),
      short (text s) refl,
    )
type_shorter field (Some (list vs)) name n e short = absurd (cc)
type_shorter field (Some (table es)) name n e short = absurd (cc)

attributes_shorter : (field : ObjectField) (o : Option Value) (es : Option Pairs) (n : ℕ)
    → optional_object field o ≡ Ok es
    → ((w : Value) → o ≡ Some w → length (text_of w) + 3 ≤ n)
    → entries_total (optional (codes "attributes") object_with es) ≤ n + 11
attributes_shorter field None es n e short =
    omega (arith, ap (λ x. entries_total (optional (codes "attributes") object_with x)) (ok_value None es e))
attributes_shorter field (Some null) es n e short = absurd (cc)
attributes_shorter field (Some (truth b)) es n e short = absurd (cc)
attributes_shorter field (Some (whole z)) es n e short = absurd (cc)
attributes_shorter field (Some (text s)) es n e short = absurd (cc)
attributes_shorter field (Some (list vs)) es n e short = absurd (cc)
attributes_shorter field (Some (table ts)) es n e short =
    omega (
      arith,
      ap (λ x. entries_total (optional (codes "attributes") object_with x)) (ok_value (Some (entries_in ts)) es e),
      short (table ts) refl,
      ap (λ x. length (text_of (table x))) (entries_back ts),
    )

attributes_shallow : (field : ObjectField) (o : Option Value) (es : Option Pairs) (n : ℕ)
    → optional_object field o ≡ Ok es
    → ((w : Value) → o ≡ Some w → depth_of w ≤ n + 1) → deep_of es ≤ n
attributes_shallow field None es n e shallow = omega (arith, ap deep_of (ok_value None es e))
attributes_shallow field (Some null) es n e shallow = absurd (cc)
attributes_shallow field (Some (truth b)) es n e shallow = absurd (cc)
attributes_shallow field (Some (whole z)) es n e shallow = absurd (cc)
attributes_shallow field (Some (text s)) es n e shallow = absurd (cc)
attributes_shallow field (Some (list vs)) es n e shallow = absurd (cc)
attributes_shallow field (Some (table ts)) es n e shallow =
    omega (
      arith,
      ap deep_of (ok_value (Some (entries_in ts)) es e),
      shallow (table ts) refl,
      ap deepest_entry (entries_back ts),
    )

-- the parts of an element that is read
record PartsOf (v : Value) (e : DraftElement) : Type 0 where
  id : required_name fields.ElementId (property (codes "id") v) ≡ Ok e.id
  type_name : optional_text fields.ElementType (property (codes "type") v) ≡ Ok e.type_name
  attributes : optional_object fields.ElementAttributes (property (codes "attributes") v) ≡ Ok e.attributes
  waits : e.bytes ≡ None

parts_of : (v : Value) (e : DraftElement) → element_in v ≡ Ok e → PartsOf v e
unfolding element_in
parts_of v e is =
    let one = then_value (required_name fields.ElementId (property (codes "id") v)) _ e is in
    let two = then_value (optional_text fields.ElementType (property (codes "type") v)) _ e one.2 in
    let three = then_value (optional_object fields.ElementAttributes (property (codes "attributes") v)) _ e two.2 in
    let same = ok_value _ e three.2 in
    record {
      id = one.1 ∙ ap (λ (x : DraftElement). Ok x.id) same;
      type_name = two.1 ∙ ap (λ (x : DraftElement). Ok x.type_name) same;
      attributes = three.1 ∙ ap (λ (x : DraftElement). Ok x.attributes) same;
      waits = ap (λ (x : DraftElement). x.bytes) (sym same);
    }

pub element_shorter : (v : Value) (e : DraftElement) → element_in v ≡ Ok e → parts_total e ≤ 3 * length (text_of v) + 16
element_shorter v e is =
    let parts = parts_of v e is in
    let n = length (text_of v) in
    let short : (k : List ℕ) (w : Value) → property k v ≡ Some w → length (text_of w) + 3 ≤ n =
    λ k w found. field_shorter k v w (property_found k v w found) in
    omega (
      arith,
      id_shorter _ _ e.id n parts.id (short (codes "id")),
      type_shorter _ _ e.type_name n parts.type_name (short (codes "type")),
      attributes_shorter _ _ e.attributes n parts.attributes (short (codes "attributes")),
    )

pub element_shallower : (v : Value) (e : DraftElement) (n : ℕ) → element_in v ≡ Ok e → depth_of v ≤ n + 2
    → deep_of e.attributes ≤ n
element_shallower v e n is all =
    let parts = parts_of v e is in
    let shallow : (w : Value) → property (codes "attributes") v ≡ Some w → depth_of w ≤ n + 1 =
    λ w found. omega (arith, field_of-depth v w (codes "attributes") (property_found (codes "attributes") v w found)) in
    attributes_shallow _ _ e.attributes n parts.attributes shallow

-- ---- one element after another

abbrev pub AreShallow : ℕ → List DraftElement → Type 0
AreShallow n = AllByRecursion (λ e. deep_of e.attributes ≤ n)

abbrev pub AreWaiting : List DraftElement → Type 0
AreWaiting = AllByRecursion (λ e. e.bytes ≡ None)

abbrev pub all_total : List DraftElement → ℕ
all_total [] = 0
all_total (e ∷ es) = parts_total e + all_total es

abbrev pub names_of : List DraftElement → List (List ℕ)
names_of = map (λ e. e.id)

shallow_next : (n : ℕ) (es : List DraftElement) (e : DraftElement) → AreShallow n es → deep_of e.attributes ≤ n
    → AreShallow n (es ++ e ∷ [])
shallow_next n [] e all one = (one, tt)
shallow_next n (x ∷ es) e all one = (all.0, shallow_next n es e all.1 one)

waiting_next : (es : List DraftElement) (e : DraftElement) → AreWaiting es → e.bytes ≡ None → AreWaiting (es ++ e ∷ [])
waiting_next [] e all one = (one, tt)
waiting_next (x ∷ es) e all one = (all.0, waiting_next es e all.1 one)

total_next : (es : List DraftElement) (e : DraftElement) → all_total (es ++ e ∷ []) ≡ all_total es + parts_total e
total_next [] e = omega arith
total_next (x ∷ es) e = omega (arith, total_next es e)

not_listed : (id : List ℕ) (es : List DraftElement) (k : ℕ) (d : List ℕ) → is_listed id es ≡ false
    → k < length (names_of es) → get_or (names_of es) k d ≡ id → ⊥
not_listed id [] k d none within same = absurd (omega arith)
not_listed id (e ∷ es) zero d none within same = differs (pointwise nat_eq id e.id) none (same_key id e.id same)
  where
    differs : (b : Bool) → (if b then true else is_listed id es) ≡ false → b ≡ true → ⊥
    differs true some same = absurd (cc)
    differs false some same = absurd (cc)
not_listed id (e ∷ es) (suc k) d none within same =
    not_listed id es k d (later (pointwise nat_eq id e.id) none) (omega arith) same
  where
    later : (b : Bool) → (if b then true else is_listed id es) ≡ false → is_listed id es ≡ false
    later true some = absurd (cc)
    later false some = some

names_next : (es : List DraftElement) (e : DraftElement) → is_listed e.id es ≡ false → AreApart (names_of es)
    → AreApart (names_of (es ++ e ∷ []))
names_next es e new apart =
    subst AreApart (sym (map-append (λ x. x.id) es (e ∷ [])))
    (all_pairs_push (λ a b. a ≢ b) (names_of es) e.id apart (λ k d within same. not_listed e.id es k d new within same))

-- an element that is added
record Adds (es : List DraftElement) (v : Value) (more : List DraftElement) : Type 0 where
  one : DraftElement
  read : element_in v ≡ Ok one
  new : is_listed one.id es ≡ false
  more_is : es ++ one ∷ [] ≡ more

unless_listed : (b : Bool) (x y : List DraftElement) (fault : ObjectFault) → (if b then Err fault else Ok x) ≡ Ok y
    → (b ≡ false) × (x ≡ y)
unless_listed true x y fault e = absurd (cc)
unless_listed false x y fault e = (refl, ok_value x y e)

adds : (es : List DraftElement) (v : Value) (more : List DraftElement) → with_element es v ≡ Ok more → Adds es v more
adds es v more e =
    let some = then_value (element_in v) (and_element es) more e in
    let new = unless_listed (is_listed some.0.id es) (es ++ some.0 ∷ []) more _ some.2 in
    record { one = some.0; read = some.1; new = new.0; more_is = new.1 }

-- what elements keep that were read, after others, of values
pub record KeptOf (n : ℕ) (before : List DraftElement) (vs : List Value) (es : List DraftElement) : Type 0 where
  pub count : length es ≡ length before + length vs
  pub total : all_total es ≤ all_total before + 3 * items_total vs + 16 * length vs
  pub shallow : AreShallow n before → deepest_value (values_from vs) ≤ n + 2 → AreShallow n es
  pub apart : AreApart (names_of before) → AreApart (names_of es)
  pub waiting : AreWaiting before → AreWaiting es

pub kept_after : (n : ℕ) (before : List DraftElement) (vs : List Value) (es : List DraftElement)
    → elements_after before vs ≡ Ok es → KeptOf n before vs es
kept_after n before [] es e =
    let same = ok_value before es e in
    record {
      count = omega (arith, ap length same);
      total = omega (arith, ap all_total same);
      shallow = λ all deep. subst (AreShallow n) same all;
      apart = λ all. subst (λ x. AreApart (names_of x)) same all;
      waiting = λ all. subst AreWaiting same all;
    }
kept_after n before (v ∷ vs) es e =
    let some = then_value (with_element before v) (λ more. elements_after more vs) es e in
    let a = adds before v some.0 some.1 in
    let rest = kept_after n some.0 vs es some.2 in
    let one = a.one in
    record {
      count = omega (arith, rest.count, ap length (sym a.more_is), length-append before (one ∷ []));
      total = omega (
        arith,
        rest.total,
        ap all_total (sym a.more_is),
        total_next before one,
        element_shorter v one a.read,
      );
      shallow = λ all deep. rest.shallow (subst (AreShallow n) a.more_is
          (shallow_next n before one all (element_shallower v one n a.read (omega arith)))) (omega arith);
      apart = λ all. rest.apart (subst (λ x. AreApart (names_of x)) a.more_is (names_next before one a.new all));
      waiting = λ all. rest.waiting (subst AreWaiting a.more_is
          (waiting_next before one all (parts_of v one a.read).waits));
    }

-- ---- the whole list

pub tested : {A : Type 0} (b : Bool) (r : Result A ObjectFault) (y : A) (fault : ObjectFault)
    → (if b then r else Err fault) ≡ Ok y → (b ≡ true) × (r ≡ Ok y)
tested true r y fault e = (refl, e)
tested false r y fault e = absurd (cc)

-- what a list keeps that was read of a value of at most so many bytes, nested at most so deep
pub record IsList (n size : ℕ) (es : List DraftElement) : Type 0 where
  pub few : length es ≤ most_elements
  pub total : all_total es ≤ 3 * size + 16 * most_elements
  pub shallow : AreShallow n es
  pub apart : AreApart (names_of es)
  pub waiting : AreWaiting es

nothing_apart : AreApart []
nothing_apart i j d below within = absurd (omega arith)

few_items : (m n : ℕ) → nat_le m n ≡ true → m ≤ n
few_items m n e = grind (arith, nat_tests)

pub list_kept : (n size : ℕ) (vs : List Value) (es : List DraftElement) → elements_of vs ≡ Ok es
    → items_total vs ≤ size → deepest_value (values_from vs) ≤ n + 2 → IsList n size es
list_kept n size vs es e long deep =
    let tables = tested (are_tables vs) _ es _ e in
    let few = tested (nat_le (length vs) most_elements) (elements_after [] vs) es _ tables.1 in
    let all = kept_after n [] vs es few.1 in
    let count = few_items (length vs) most_elements few.0 in
    record {
      few = omega (arith, all.count, count);
      total = omega (arith, all.total, count);
      shallow = all.shallow tt deep;
      apart = all.apart nothing_apart;
      waiting = all.waiting tt;
    }

pub elements_kept : (n size : ℕ) (o : Option Value) (es : List DraftElement) → elements_in o ≡ Ok es
    → ((w : Value) → o ≡ Some w → (length (text_of w) ≤ size) × (depth_of w ≤ n + 3)) → IsList n size es
elements_kept n size None es e within =
    let same = ok_value [] es e in
    record {
      few = omega (arith, ap length same);
      total = omega (arith, ap all_total same);
      shallow = subst (AreShallow n) same tt;
      apart = subst (λ x. AreApart (names_of x)) same nothing_apart;
      waiting = subst AreWaiting same tt;
    }
elements_kept n size (Some null) es e within = absurd (cc)
elements_kept n size (Some (truth b)) es e within = absurd (cc)
elements_kept n size (Some (whole z)) es e within = absurd (cc)
elements_kept n size (Some (text s)) es e within = absurd (cc)
elements_kept n size (Some (list vs)) es e within =
    let ws = values_in vs in
    let back = values_back vs in
    let here = within (list vs) refl in
    list_kept n size ws es e (omega (arith, here.0, list_total ws, ap (λ x. length (text_of (list x))) back))
    (omega (arith, here.1, ap deepest_value back))
elements_kept n size (Some (table ts)) es e within = absurd (cc)
