-- The attributes that a draft keeps are attributes of an object.
use Rattle.std.proofs.Common.{◌≡◌, ◌≢◌, ℕ, List, [], ◌∷◌, Bool, true, false, if◌then◌else◌, cond, Option, Some, None}
use Rattle.std.proofs.Common.{Ok, nat_eq, codes, refl, sym, ap, subst, ◌∙◌}
use Rattle.std.specs.BTreeMap.{insert_entry}
use Rattle.std.specs.Cmp.Lexicographic.{pointwise, same_text}
use Rattle.std.proofs.lemmas.Bool.{and_parts}
use Rattle.doip_json.specs.Value.{Value, null, truth, whole, text, list, table, Entries, no_entries, entry}
use Rattle.doip_json.specs.Value.{entries_from, entries_in}
use Rattle.doip_json.specs.Look.{entry_of, field_of}
use Rattle.doip_json.proofs.Ascending.{Pairs, compared}
use Rattle.doip_json.proofs.Building.{entry_of-insert, entry_of-insert_other}
use Rattle.doip_json.proofs.PlainLists.{entries_back}
use Rattle.doip_json.proofs.Found.{same_key}
use Rattle.doip_json.proofs.Removed.{others_kept}
use Rattle.dobj_model.specs.Object.{AreAttributes, IfThere, IsAcl, IsTextList}
use Rattle.dobj_model.specs.Shown.{object_with}
use Rattle.dobj_draft.specs.Draft.{unless_null, without, dropped, unless_nulled, is_access_list, lists_in, with_acl}
use Rattle.dobj_draft.specs.Draft.{attributes_kept, attributes_in}
use Rattle.dobj_draft.specs.Made.{KeysDiffer, EntriesDiffer}
use Rattle.dobj_draft.proofs.Drafts.{texts_fact}
use Rattle.dobj_draft.proofs.Kept.{then_value, ok_value}
use Rattle.dobj_draft.proofs.Listing.{tested}

-- ---- keys that differ

differ_here : (b : Bool) (w : Value) (o : Option Value) (v : Value) → (if b then Some w else o) ≡ Some v → KeysDiffer w
    → (o ≡ Some v → KeysDiffer v) → KeysDiffer v
differ_here true w o v is one later = let same : w ≡ v = cc in subst KeysDiffer same one
differ_here false w o v is one later = later is

pub entry_differs : (k : List ℕ) (es : Entries) (v : Value) → EntriesDiffer es → entry_of k es ≡ Some v → KeysDiffer v
entry_differs k no_entries v differ is = absurd (cc)
entry_differs k (entry l w es) v differ is =
    differ_here (pointwise nat_eq k l) w (entry_of k es) v is differ.1 (entry_differs k es v differ.2)

pub field_differs : (k : List ℕ) (v w : Value) → KeysDiffer v → field_of k v ≡ Some w → KeysDiffer w
field_differs k null w differ is = absurd (cc)
field_differs k (truth b) w differ is = absurd (cc)
field_differs k (whole z) w differ is = absurd (cc)
field_differs k (text s) w differ is = absurd (cc)
field_differs k (list vs) w differ is = absurd (cc)
field_differs k (table es) w differ is = entry_differs k es w differ is

still_none : (q k : List ℕ) (es : Pairs) → entry_of q (entries_from es) ≡ None
    → entry_of q (entries_from (without k es)) ≡ None
still_none q k [] none = refl
still_none q k (e ∷ es) none = here (pointwise nat_eq k e.0) (pointwise nat_eq q e.0) refl none (still_none q k es)
  where
    here : (b c : Bool) → pointwise nat_eq q e.0 ≡ c → (if c then Some e.1 else entry_of q (entries_from es)) ≡ None
        → (entry_of q (entries_from es) ≡ None → entry_of q (entries_from (without k es)) ≡ None)
        → entry_of q (entries_from (cond b es (e ∷ without k es))) ≡ None
    here b true is none later = absurd (cc)
    here true false is none later = none
    here false false is none later = rw is (later none)

without_differ : (k : List ℕ) (es : Pairs) → EntriesDiffer (entries_from es)
    → EntriesDiffer (entries_from (without k es))
without_differ k [] h = tt
without_differ k (e ∷ es) h =
    elim (pointwise nat_eq k e.0) as (λ b. EntriesDiffer (entries_from (cond b es (e ∷ without k es)))) [
      | true ↦ h.2
      | false ↦ (still_none e.0 k es h.0, h.1, without_differ k es h.2)
    ]

-- the key is gone
gone : (k : List ℕ) (es : Pairs) → EntriesDiffer (entries_from es) → entry_of k (entries_from (without k es)) ≡ None
gone k [] h = refl
gone k (e ∷ es) h = here (pointwise nat_eq k e.0) refl (gone k es h.2)
  where
    here : (b : Bool) → pointwise nat_eq k e.0 ≡ b → entry_of k (entries_from (without k es)) ≡ None
        → entry_of k (entries_from (without k (e ∷ es))) ≡ None
    here true is later = rw is (ap (λ (l : List ℕ). entry_of l (entries_from es)) (same_text k e.0 (sym is)) ∙ h.0)
    here false is later = rw is (rw is later)

-- ---- a key that goes if it has `null`

nulled_differ : (o : Option Value) (k : List ℕ) (es : Pairs) → EntriesDiffer (entries_from es)
    → EntriesDiffer (entries_from (dropped o k es))
nulled_differ None k es h = h
nulled_differ (Some null) k es h = without_differ k es h
nulled_differ (Some (truth b)) k es h = h
nulled_differ (Some (whole z)) k es h = h
nulled_differ (Some (text s)) k es h = h
nulled_differ (Some (list vs)) k es h = h
nulled_differ (Some (table ts)) k es h = h

nulled_here : (o : Option Value) (k : List ℕ) (es : Pairs) → EntriesDiffer (entries_from es)
    → entry_of k (entries_from es) ≡ o → entry_of k (entries_from (dropped o k es)) ≡ unless_null o
nulled_here None k es h is = is
nulled_here (Some null) k es h is = gone k es h
nulled_here (Some (truth b)) k es h is = is
nulled_here (Some (whole z)) k es h is = is
nulled_here (Some (text s)) k es h is = is
nulled_here (Some (list vs)) k es h is = is
nulled_here (Some (table ts)) k es h is = is

nulled_other : (o : Option Value) (k q : List ℕ) (es : Pairs) → q ≢ k
    → entry_of q (entries_from (dropped o k es)) ≡ entry_of q (entries_from es)
nulled_other None k q es other = refl
nulled_other (Some null) k q es other = others_kept es k q other
nulled_other (Some (truth b)) k q es other = refl
nulled_other (Some (whole z)) k q es other = refl
nulled_other (Some (text s)) k q es other = refl
nulled_other (Some (list vs)) k q es other = refl
nulled_other (Some (table ts)) k q es other = refl

never_null : (o : Option Value) → unless_null o ≡ Some null → ⊥
never_null None e = absurd (cc)
never_null (Some null) e = absurd (cc)
never_null (Some (truth b)) e = absurd (cc)
never_null (Some (whole z)) e = absurd (cc)
never_null (Some (text s)) e = absurd (cc)
never_null (Some (list vs)) e = absurd (cc)
never_null (Some (table es)) e = absurd (cc)

-- ---- the access lists

-- names that are not the same
apart : (k l : List ℕ) → pointwise nat_eq k l ≡ false → k ≢ l
apart k l e same = absurd (let both : true ≡ false = sym (same_key k l (sym same)) ∙ e in cc)

writers_apart : codes "writers" ≢ codes "readers"
writers_apart = apart (codes "writers") (codes "readers") refl

readers_apart : codes "readers" ≢ codes "writers"
readers_apart = apart (codes "readers") (codes "writers") refl

content_apart : codes "content" ≢ codes "acl"
content_apart = apart (codes "content") (codes "acl") refl

metadata_apart : codes "metadata" ≢ codes "acl"
metadata_apart = apart (codes "metadata") (codes "acl") refl

metadata_content : codes "metadata" ≢ codes "content"
metadata_content = apart (codes "metadata") (codes "content") refl

list_if_there : (o : Option Value) → is_access_list o ≡ true → IfThere IsTextList (unless_null o)
list_if_there None e = tt
list_if_there (Some null) e = tt
list_if_there (Some (truth b)) e = absurd (cc)
list_if_there (Some (whole z)) e = absurd (cc)
list_if_there (Some (text s)) e = absurd (cc)
list_if_there (Some (list vs)) e = texts_fact vs e
list_if_there (Some (table es)) e = absurd (cc)

lists_are_acl : (es lists : Pairs) → EntriesDiffer (entries_from es) → lists_in es ≡ Ok lists
    → IsAcl (object_with lists)
lists_are_acl es lists differ e =
    let some = unless_nulled (codes "readers") es in
    let r = entry_of (codes "readers") (entries_from es) in
    let w = entry_of (codes "writers") (entries_from es) in
    let test = tested _ (Ok (unless_nulled (codes "writers") some)) lists _ e in
    let both = and_parts (is_access_list r) (is_access_list w) test.0 in
    let is = ok_value (unless_nulled (codes "writers") some) lists test.1 in
    let some_differ = nulled_differ r (codes "readers") es differ in
    let same : entry_of (codes "writers") (entries_from some) ≡ w =
    nulled_other r (codes "readers") (codes "writers") es writers_apart in
    let readers : entry_of (codes "readers") (entries_from lists) ≡ unless_null r =
    ap (λ (x : Pairs). entry_of (codes "readers") (entries_from x)) (sym is)
    ∙ (nulled_other (entry_of (codes "writers") (entries_from some)) (codes "writers")
    (codes "readers") some readers_apart ∙ nulled_here r (codes "readers") es differ refl) in
    let writers : entry_of (codes "writers") (entries_from lists) ≡ unless_null w =
    ap (λ (x : Pairs). entry_of (codes "writers") (entries_from x)) (sym is)
    ∙ (nulled_here (entry_of (codes "writers") (entries_from some)) (codes "writers") some some_differ refl
    ∙ ap unless_null same) in (
      subst (IfThere IsTextList) (sym readers) (list_if_there r both.0),
      subst (IfThere IsTextList) (sym writers) (list_if_there w both.1),
    )

-- ---- all attributes

-- what `acl` is read of, and what else is there
record Rest (es : Pairs) : Type 0 where
  differ : EntriesDiffer (entries_from es)
  content : entry_of (codes "content") (entries_from es) ≢ Some null
  no_metadata : entry_of (codes "metadata") (entries_from es) ≡ None

no_acl : (es kept : Pairs) → Rest es → without (codes "acl") es ≡ kept → AreAttributes kept
no_acl es kept rest is = subst AreAttributes is (record {
  content = subst (λ o. o ≢ Some null) (sym (others_kept es (codes "acl") (codes "content") content_apart))
      rest.content;
  acl = subst (IfThere IsAcl) (sym (gone (codes "acl") es rest.differ)) tt;
  no_metadata = others_kept es (codes "acl") (codes "metadata") metadata_apart ∙ rest.no_metadata;
})

some_acl : (ts : Entries) (es kept : Pairs) → Rest es → EntriesDiffer ts
    → with_acl (Some (table ts)) (without (codes "acl") es) ≡ Ok kept → AreAttributes kept
some_acl ts es kept rest differ e =
    let some = then_value (lists_in (entries_in ts)) _ kept e in
    let lists = some.0 in
    let others = without (codes "acl") es in
    let put = ok_value (insert_entry compared others (codes "acl") (object_with lists)) kept some.2 in
    let acl = lists_are_acl (entries_in ts) lists (subst EntriesDiffer (sym (entries_back ts)) differ) some.1 in
    subst AreAttributes put (record {
      content = subst (λ o. o ≢ Some null) (sym
          (entry_of-insert_other others (codes "content") (codes "acl") (object_with lists) content_apart
          ∙ others_kept es (codes "acl") (codes "content") content_apart)) rest.content;
      acl = subst (IfThere IsAcl) (sym (entry_of-insert others (codes "acl") (object_with lists))) acl;
      no_metadata = entry_of-insert_other others (codes "metadata") (codes "acl") (object_with lists) metadata_apart
          ∙ (others_kept es (codes "acl") (codes "metadata") metadata_apart ∙ rest.no_metadata);
    })

acl_cases : (o : Option Value) (es kept : Pairs) → Rest es → entry_of (codes "acl") (entries_from es) ≡ o
    → with_acl o (without (codes "acl") es) ≡ Ok kept → AreAttributes kept
acl_cases None es kept rest is e = no_acl es kept rest (ok_value (without (codes "acl") es) kept e)
acl_cases (Some null) es kept rest is e = no_acl es kept rest (ok_value (without (codes "acl") es) kept e)
acl_cases (Some (truth b)) es kept rest is e = absurd (cc)
acl_cases (Some (whole z)) es kept rest is e = absurd (cc)
acl_cases (Some (text s)) es kept rest is e = absurd (cc)
acl_cases (Some (list vs)) es kept rest is e = absurd (cc)
acl_cases (Some (table ts)) es kept rest is e =
    some_acl ts es kept rest (entry_differs (codes "acl") (entries_from es) (table ts) rest.differ is) e

kept_are : (es kept : Pairs) → EntriesDiffer (entries_from es) → attributes_kept es ≡ Ok kept → AreAttributes kept
kept_are es kept differ e =
    let some = without (codes "metadata") es in
    let o = entry_of (codes "content") (entries_from some) in
    let rest = unless_nulled (codes "content") some in
    let some_differ = without_differ (codes "metadata") es differ in
    acl_cases (entry_of (codes "acl") (entries_from rest)) rest kept (record {
      differ = nulled_differ o (codes "content") some some_differ;
      content = λ is. never_null o (sym (nulled_here o (codes "content") some some_differ refl) ∙ is);
      no_metadata = nulled_other o (codes "content") (codes "metadata") some metadata_content
          ∙ gone (codes "metadata") es differ;
    }) refl e

nothing_are : AreAttributes []
nothing_are = record { content = λ is. absurd (cc); acl = tt; no_metadata = refl }

pub attributes_are : (o : Option Value) (kept : Pairs) → ((v : Value) → o ≡ Some v → KeysDiffer v)
    → attributes_in o ≡ Ok kept → AreAttributes kept
attributes_are None kept differ e = subst AreAttributes (ok_value [] kept e) nothing_are
attributes_are (Some null) kept differ e = absurd (cc)
attributes_are (Some (truth b)) kept differ e = absurd (cc)
attributes_are (Some (whole z)) kept differ e = absurd (cc)
attributes_are (Some (text s)) kept differ e = absurd (cc)
attributes_are (Some (list vs)) kept differ e = absurd (cc)
attributes_are (Some (table es)) kept differ e =
    kept_are (entries_in es) kept (subst EntriesDiffer (sym (entries_back es)) (differ (table es) refl)) e
