-- What is read of an object that comes in.
use Rattle.std.proofs.Common.{◌≡◌, ◌≢◌, ◌↔◌, ℕ, List, [], ◌∷◌, length, Bool, true, false, IsTrue, Option, Some, Result}
use Rattle.std.proofs.Common.{Ok, Err, refl, sym, ap, ◌∙◌, arith, codes, ◌&&◌, nat_cmp}
use Rattle.std.specs.Cmp.Lexicographic.{slice_cmp}
use Rattle.std.specs.BTreeMap.{insert_entry}
use Rattle.doip_json.specs.Value.{Value, null, truth, whole, text, list, table, Values, no_values, value, values_from}
use Rattle.doip_json.specs.Value.{entries_from}
use Rattle.doip_json.proofs.PlainLists.{entries_listed}
use Rattle.dobj_draft.specs.declared.draft.ObjectFault.{ObjectFault}
use Rattle.dobj_draft.specs.declared.draft.ObjectFault.TheVariants as faults
use Rattle.dobj_model.specs.Object.{IsText, AreTexts}
use Rattle.dobj_model.specs.Shown.{object_with}
use Rattle.dobj_draft.specs.Draft.{◌>>=◌, unsigned, is_text, are_texts, lists_in, with_acl, attributes_in}
use Rattle.dobj_draft.specs.Draft.{attributes_kept, Fails}

pub signed : (vs : List Value) → length vs ≢ 0 → unsigned (Some (list (values_from vs))) ≡ Err faults.Signatures
signed [] some = absurd (some refl)
signed (v ∷ vs) some = refl

pub not_signed : (vs : List Value) → length vs ≡ 0 → unsigned (Some (list (values_from vs))) ≡ Ok tt
not_signed [] none = refl
not_signed (v ∷ vs) none = absurd (omega arith)

-- the test of strings is the fact
text_fact : (v : Value) → is_text v ≡ true → IsText v
text_fact null e = absurd (cc)
text_fact (truth b) e = absurd (cc)
text_fact (whole z) e = absurd (cc)
text_fact (text s) e = tt
text_fact (list vs) e = absurd (cc)
text_fact (table es) e = absurd (cc)

text_test : (v : Value) → IsText v → is_text v ≡ true
text_test null h = elim h [ ]
text_test (truth b) h = elim h [ ]
text_test (whole z) h = elim h [ ]
text_test (text s) h = refl
text_test (list vs) h = elim h [ ]
text_test (table es) h = elim h [ ]

test_more : (b c : Bool) → b ≡ true → c ≡ true → (b && c) ≡ true
test_more true true e f = refl
test_more true false e f = f
test_more false c e f = e

test_parts : (b c : Bool) → (b && c) ≡ true → (b ≡ true) × (c ≡ true)
test_parts true c e = (refl, e)
test_parts false c e = absurd (cc)

pub texts_fact : (vs : Values) → are_texts vs ≡ true → AreTexts vs
texts_fact no_values e = tt
texts_fact (value v vs) e =
    let parts = test_parts (is_text v) (are_texts vs) e in (text_fact v parts.0, texts_fact vs parts.1)

pub texts_test : (vs : Values) → AreTexts vs → are_texts vs ≡ true
texts_test no_values h = refl
texts_test (value v vs) h = test_more (is_text v) (are_texts vs) (text_test v h.0) (texts_test vs h.1)

same_bool : (b c : Bool) → (b ≡ true → c ≡ true) → (c ≡ true → b ≡ true) → b ≡ c
same_bool true c f g = sym (f refl)
same_bool false true f g = g refl
same_bool false false f g = refl

pub texts_same : (b : Bool) (vs : Values) → IsTrue b ↔ AreTexts vs → b ≡ are_texts vs
texts_same b vs same = same_bool b (are_texts vs) (λ e. texts_test vs (same.0 e)) (λ e. same.1 (texts_fact vs e))

-- ---- a result that is handed on

abbrev Pairs : Type 0
Pairs = List (List ℕ × Value)

with_lists : (o : Option Value) (lists es : Pairs) → o ≡ Some (table (entries_from lists))
    → with_acl o es ≡ (lists_in lists >>= (λ kept. Ok
    (insert_entry (slice_cmp nat_cmp) es (codes "acl") (object_with kept))))
with_lists o lists es is =
    ap (λ p. with_acl p es) is
    ∙ ap (λ ls. lists_in ls >>= (λ kept. Ok (insert_entry (slice_cmp nat_cmp) es (codes "acl") (object_with kept))))
    (entries_listed lists)

pub acl_kept : (o : Option Value) (lists kept es : Pairs) → o ≡ Some (table (entries_from lists))
    → lists_in lists ≡ Ok kept
    → with_acl o es ≡ Ok (insert_entry (slice_cmp nat_cmp) es (codes "acl") (object_with kept))
acl_kept o lists kept es is read =
    with_lists o lists es is
    ∙ ap (λ r. r >>= (λ k. Ok (insert_entry (slice_cmp nat_cmp) es (codes "acl") (object_with k)))) read

pub fails_on : {X Y : Type 0} (fault : ObjectFault) (r : Result X ObjectFault) (meant : Result Y ObjectFault)
    → (r ≡ Err fault → meant ≡ Err fault) → Fails fault r → Fails fault meant
fails_on faults.Missing r meant on h = on h
fails_on (faults.Segment n) r meant on h = on h
fails_on (faults.Json n f) r meant on h = on h
fails_on faults.NotObject r meant on h = on h
fails_on faults.Signatures r meant on h = on h
fails_on (faults.BadField f) r meant on h = on h
fails_on faults.TooMany r meant on h = on h
fails_on (faults.TwiceElement id) r meant on h = on h
fails_on (faults.Stranger id) r meant on h = on h
fails_on faults.Memory r meant on h = tt

pub acl_fails : (o : Option Value) (lists es : Pairs) (fault : ObjectFault) → o ≡ Some (table (entries_from lists))
    → Fails fault (lists_in lists) → Fails fault (with_acl o es)
acl_fails o lists es fault is read =
    fails_on fault (lists_in lists) (with_acl o es)
    (λ e. with_lists o lists es is
    ∙ ap (λ r. r >>= (λ k. Ok (insert_entry (slice_cmp nat_cmp) es (codes "acl") (object_with k)))) e) read

pub kept_of : (o : Option Value) (es : Pairs) → o ≡ Some (table (entries_from es))
    → attributes_in o ≡ attributes_kept es
kept_of o es is = ap attributes_in is ∙ ap attributes_kept (entries_listed es)

pub put_again : (made rest es kept : Pairs) (k : List ℕ)
    → made ≡ insert_entry (slice_cmp nat_cmp) rest k (table (entries_from kept)) → rest ≡ es → k ≡ codes "acl"
    → made ≡ insert_entry (slice_cmp nat_cmp) es (codes "acl") (object_with kept)
put_again made rest es kept k put same key =
    put ∙ (ap (λ r. insert_entry (slice_cmp nat_cmp) r k (table (entries_from kept))) same
    ∙ ap (λ l. insert_entry (slice_cmp nat_cmp) es l (table (entries_from kept))) key)
