-- The attributes that a draft keeps: no deeper and no longer than those that came.
use Rattle.std.proofs.Common.{◌≡◌, ℕ, ◌+◌, ◌≤◌, List, [], ◌∷◌, length, Bool, true, false, if◌then◌else◌, cond, Option}
use Rattle.std.proofs.Common.{Some, None, Result, Ok, Err, nat_eq, codes, refl, sym, ap, subst, ◌∙◌, arith}
use Rattle.std.specs.Ordering.{match_ordering}
use Rattle.std.specs.declared.cmp.Ordering.{Ordering}
use Rattle.std.specs.declared.cmp.Ordering.TheVariants.{Less, Equal, Greater}
use Rattle.std.specs.BTreeMap.{insert_entry}
use Rattle.std.specs.Cmp.Lexicographic.{pointwise, same_text}
use Rattle.doip_json.specs.Value.{Value, null, truth, whole, text, list, table, Entries, entries_from, entries_in}
use Rattle.doip_json.specs.Value.{depth_of, deepest_entry}
use Rattle.doip_json.specs.Look.{entry_of}
use Rattle.doip_json.specs.Text.{text_of, string_of}
use Rattle.doip_json.proofs.Ascending.{Pairs, compared}
use Rattle.doip_json.proofs.Building.{deepest_entry-insert, entry_of-depth}
use Rattle.doip_json.proofs.PlainLists.{entries_back}
use Rattle.dobj_model.specs.Lengths.{entry_total, entries_total}
use Rattle.dobj_model.specs.Shown.{object_with}
use Rattle.dobj_model.proofs.Totals.{table_total}
use Rattle.dobj_draft.specs.declared.draft.ObjectFault.{ObjectFault}
use Rattle.dobj_draft.specs.Draft.{◌>>=◌, without, dropped, unless_nulled, lists_in, with_acl, attributes_kept}
use Rattle.dobj_draft.specs.Draft.{attributes_in}

-- what comes before, and what comes of it
pub then_value : {A B : Type 0} (r : Result A ObjectFault) (f : A → Result B ObjectFault) (b : B) → (r >>= f) ≡ Ok b
    → (a : A) × (r ≡ Ok a) × (f a ≡ Ok b)
then_value (Ok a) f b e = (a, refl, e)
then_value (Err fault) f b e = absurd (cc)

abbrev pub given : {A : Type 0} → A → Result A ObjectFault
given a = Ok a

pub ok_value : {A : Type 0} (a b : A) → given a ≡ Ok b → a ≡ b
ok_value a b e = cc

-- ---- without a key

without_shallow : (k : List ℕ) (es : Pairs)
    → deepest_entry (entries_from (without k es)) ≤ deepest_entry (entries_from es)
without_shallow k [] = omega arith
without_shallow k (e ∷ es) =
    elim (pointwise nat_eq k e.0) as (λ b. deepest_entry (entries_from (cond b es (e ∷ without k es))) ≤ deepest_entry
    (entries_from (e ∷ es))) [
      | true ↦ omega arith
      | false ↦ omega (arith, without_shallow k es)
    ]

without_total : (k : List ℕ) (es : Pairs) → entries_total (without k es) ≤ entries_total es
without_total k [] = omega arith
without_total k (e ∷ es) =
    elim (pointwise nat_eq k e.0) as (λ b. entries_total (cond b es (e ∷ without k es)) ≤ entries_total (e ∷ es)) [
      | true ↦ omega arith
      | false ↦ omega (arith, without_total k es)
    ]

total_of_same : (k l : List ℕ) (v w : Value) → k ≡ l → v ≡ w → entry_total k v ≡ entry_total l w
total_of_same k l v w key is =
    ap (λ x. length (string_of x) + 1 + length (text_of v) + 1) key
    ∙ ap (λ x. length (string_of l) + 1 + length (text_of x) + 1) is

-- a key that goes takes its entry with it
removed_total : (k : List ℕ) (es : Pairs) (v : Value) → entry_of k (entries_from es) ≡ Some v
    → entries_total (without k es) + entry_total k v ≤ entries_total es
removed_total k [] v is = absurd (cc)
removed_total k (e ∷ es) v is = here (pointwise nat_eq k e.0) refl is (removed_total k es v)
  where
    here : (b : Bool) → pointwise nat_eq k e.0 ≡ b → (if b then Some e.1 else entry_of k (entries_from es)) ≡ Some v
        → (entry_of k (entries_from es) ≡ Some v → entries_total (without k es) + entry_total k v ≤ entries_total es)
        → entries_total (cond b es (e ∷ without k es)) + entry_total k v ≤ entries_total (e ∷ es)
    here true same found later =
        omega (arith, total_of_same k e.0 v e.1 (same_text k e.0 (sym same)) (let is : e.1 ≡ v = cc in sym is))
    here false same found later = omega (arith, later found)

nulled_shallow : (o : Option Value) (k : List ℕ) (es : Pairs)
    → deepest_entry (entries_from (dropped o k es)) ≤ deepest_entry (entries_from es)
nulled_shallow None k es = omega arith
nulled_shallow (Some null) k es = without_shallow k es
nulled_shallow (Some (truth b)) k es = omega arith
nulled_shallow (Some (whole z)) k es = omega arith
nulled_shallow (Some (text s)) k es = omega arith
nulled_shallow (Some (list vs)) k es = omega arith
nulled_shallow (Some (table ts)) k es = omega arith

nulled_total : (o : Option Value) (k : List ℕ) (es : Pairs) → entries_total (dropped o k es) ≤ entries_total es
nulled_total None k es = omega arith
nulled_total (Some null) k es = without_total k es
nulled_total (Some (truth b)) k es = omega arith
nulled_total (Some (whole z)) k es = omega arith
nulled_total (Some (text s)) k es = omega arith
nulled_total (Some (list vs)) k es = omega arith
nulled_total (Some (table ts)) k es = omega arith

-- ---- with a key

inserted_here : (k : List ℕ) (v : Value) (e : List ℕ × Value) (es rest : Pairs)
    → entries_total rest ≤ entries_total es + entry_total k v → (o : Ordering)
    → entries_total (match_ordering o ((k, v) ∷ e ∷ es) ((e.0, v) ∷ es) (e ∷ rest)) ≤ entries_total
    (e ∷ es) + entry_total k v
inserted_here k v e es rest later Less = omega arith
inserted_here k v e es rest later Equal = omega arith
inserted_here k v e es rest later Greater = omega arith

pub inserted_total : (es : Pairs) (k : List ℕ) (v : Value)
    → entries_total (insert_entry compared es k v) ≤ entries_total es + entry_total k v
inserted_total [] k v = omega arith
inserted_total (e ∷ es) k v =
    inserted_here k v e es (insert_entry compared es k v) (inserted_total es k v) (compared k e.0)

-- ---- the access lists, and all attributes

pub if_ok : {A : Type 0} (b : Bool) (x y : A) (fault : ObjectFault) → (if b then Ok x else Err fault) ≡ Ok y → x ≡ y
if_ok true x y fault e = ok_value x y e
if_ok false x y fault e = absurd (cc)

lists_are : (es kept : Pairs) → lists_in es ≡ Ok kept
    → unless_nulled (codes "writers") (unless_nulled (codes "readers") es) ≡ kept
lists_are es kept e = if_ok _ _ kept _ e

lists_shallow : (es kept : Pairs) → lists_in es ≡ Ok kept
    → deepest_entry (entries_from kept) ≤ deepest_entry (entries_from es)
lists_shallow es kept e =
    let some = unless_nulled (codes "readers") es in
    omega (
      arith,
      ap (λ x. deepest_entry (entries_from x)) (lists_are es kept e),
      nulled_shallow (entry_of (codes "writers") (entries_from some)) (codes "writers") some,
      nulled_shallow (entry_of (codes "readers") (entries_from es)) (codes "readers") es,
    )

lists_total : (es kept : Pairs) → lists_in es ≡ Ok kept → entries_total kept ≤ entries_total es
lists_total es kept e =
    let some = unless_nulled (codes "readers") es in
    omega (
      arith,
      ap entries_total (lists_are es kept e),
      nulled_total (entry_of (codes "writers") (entries_from some)) (codes "writers") some,
      nulled_total (entry_of (codes "readers") (entries_from es)) (codes "readers") es,
    )

-- an `acl` that is kept
record AclOf (ts : Entries) (es kept : Pairs) : Type 0 where
  lists : Pairs
  read : lists_in (entries_in ts) ≡ Ok lists
  put : kept ≡ insert_entry compared es (codes "acl") (object_with lists)

acl_of : (ts : Entries) (es kept : Pairs) → with_acl (Some (table ts)) es ≡ Ok kept → AclOf ts es kept
acl_of ts es kept e =
    let some = then_value (lists_in (entries_in ts)) _ kept e in
    record { lists = some.0; read = some.1; put = sym (ok_value _ kept some.2) }

acl_shallow : (ts : Entries) (es kept : Pairs) (n : ℕ) → with_acl (Some (table ts)) es ≡ Ok kept
    → deepest_entry (entries_from es) ≤ n → depth_of (table ts) ≤ n → deepest_entry (entries_from kept) ≤ n
acl_shallow ts es kept n e all one =
    let a = acl_of ts es kept e in
    let same : deepest_entry (entries_from (entries_in ts)) ≡ deepest_entry ts = ap deepest_entry (entries_back ts) in
    subst (λ x. deepest_entry (entries_from x) ≤ n) (sym a.put)
    (deepest_entry-insert es (codes "acl") (object_with a.lists) n all
    (omega (arith, lists_shallow (entries_in ts) a.lists a.read, same)))

acl_total : (ts : Entries) (es kept : Pairs) → with_acl (Some (table ts)) es ≡ Ok kept
    → entries_total kept ≤ entries_total es + entry_total (codes "acl") (table ts)
acl_total ts es kept e =
    let a = acl_of ts es kept e in
    let back : length (text_of (table (entries_from (entries_in ts)))) ≡ length (text_of (table ts)) =
    ap (λ x. length (text_of (table x))) (entries_back ts) in
    omega (
      arith,
      ap entries_total a.put,
      inserted_total es (codes "acl") (object_with a.lists),
      back,
      table_total a.lists,
      table_total (entries_in ts),
      lists_total (entries_in ts) a.lists a.read,
    )

-- attributes with their `acl` read
with_shallow : (o : Option Value) (es kept : Pairs) (n : ℕ) → with_acl o (without (codes "acl") es) ≡ Ok kept
    → entry_of (codes "acl") (entries_from es) ≡ o → deepest_entry (entries_from es) ≤ n
    → deepest_entry (entries_from kept) ≤ n
with_shallow None es kept n e is all =
    omega (arith, ap (λ x. deepest_entry (entries_from x)) (ok_value _ kept e), without_shallow (codes "acl") es)
with_shallow (Some null) es kept n e is all =
    omega (arith, ap (λ x. deepest_entry (entries_from x)) (ok_value _ kept e), without_shallow (codes "acl") es)
with_shallow (Some (truth b)) es kept n e is all = absurd (cc)
with_shallow (Some (whole z)) es kept n e is all = absurd (cc)
with_shallow (Some (text s)) es kept n e is all = absurd (cc)
with_shallow (Some (list vs)) es kept n e is all = absurd (cc)
with_shallow (Some (table ts)) es kept n e is all =
    acl_shallow ts (without (codes "acl") es) kept n e (omega (arith, without_shallow (codes "acl") es))
    (omega (arith, entry_of-depth (entries_from es) (codes "acl") (table ts) is))

with_total : (o : Option Value) (es kept : Pairs) → with_acl o (without (codes "acl") es) ≡ Ok kept
    → entry_of (codes "acl") (entries_from es) ≡ o → entries_total kept ≤ entries_total es
with_total None es kept e is = omega (arith, ap entries_total (ok_value _ kept e), without_total (codes "acl") es)
with_total (Some null) es kept e is =
    omega (arith, ap entries_total (ok_value _ kept e), without_total (codes "acl") es)
with_total (Some (truth b)) es kept e is = absurd (cc)
with_total (Some (whole z)) es kept e is = absurd (cc)
with_total (Some (text s)) es kept e is = absurd (cc)
with_total (Some (list vs)) es kept e is = absurd (cc)
with_total (Some (table ts)) es kept e is =
    omega (arith, acl_total ts (without (codes "acl") es) kept e, removed_total (codes "acl") es (table ts) is)

-- those that are kept nest no deeper
pub kept_shallow : (es kept : Pairs) (n : ℕ) → attributes_kept es ≡ Ok kept → deepest_entry (entries_from es) ≤ n
    → deepest_entry (entries_from kept) ≤ n
kept_shallow es kept n e all =
    let some = without (codes "metadata") es in
    let rest = unless_nulled (codes "content") some in
    with_shallow (entry_of (codes "acl") (entries_from rest)) rest kept n e refl
    (omega (
      arith,
      nulled_shallow (entry_of (codes "content") (entries_from some)) (codes "content") some,
      without_shallow (codes "metadata") es,
    ))

-- and are no longer
pub kept_total : (es kept : Pairs) → attributes_kept es ≡ Ok kept → entries_total kept ≤ entries_total es
kept_total es kept e =
    let some = without (codes "metadata") es in
    let rest = unless_nulled (codes "content") some in
    omega (
      arith,
      with_total (entry_of (codes "acl") (entries_from rest)) rest kept e refl,
      nulled_total (entry_of (codes "content") (entries_from some)) (codes "content") some,
      without_total (codes "metadata") es,
    )

pub attributes_shallow : (o : Option Value) (kept : Pairs) (n : ℕ) → attributes_in o ≡ Ok kept
    → ((w : Value) → o ≡ Some w → depth_of w ≤ n + 1) → deepest_entry (entries_from kept) ≤ n
attributes_shallow None kept n e all = omega (arith, ap (λ x. deepest_entry (entries_from x)) (ok_value [] kept e))
attributes_shallow (Some null) kept n e all = absurd (cc)
attributes_shallow (Some (truth b)) kept n e all = absurd (cc)
attributes_shallow (Some (whole z)) kept n e all = absurd (cc)
attributes_shallow (Some (text s)) kept n e all = absurd (cc)
attributes_shallow (Some (list vs)) kept n e all = absurd (cc)
attributes_shallow (Some (table es)) kept n e all =
    kept_shallow (entries_in es) kept n e (omega (arith, all (table es) refl, ap deepest_entry (entries_back es)))

pub attributes_total : (o : Option Value) (kept : Pairs) (size : ℕ) → attributes_in o ≡ Ok kept
    → ((w : Value) → o ≡ Some w → length (text_of w) ≤ size) → entries_total kept ≤ size
attributes_total None kept size e all = omega (arith, ap entries_total (ok_value [] kept e))
attributes_total (Some null) kept size e all = absurd (cc)
attributes_total (Some (truth b)) kept size e all = absurd (cc)
attributes_total (Some (whole z)) kept size e all = absurd (cc)
attributes_total (Some (text s)) kept size e all = absurd (cc)
attributes_total (Some (list vs)) kept size e all = absurd (cc)
attributes_total (Some (table es)) kept size e all =
    omega (
      arith,
      kept_total (entries_in es) kept e,
      table_total (entries_in es),
      all (table es) refl,
      ap (λ x. length (text_of (table x))) (entries_back es),
    )
