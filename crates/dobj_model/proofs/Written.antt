-- What was written one after another, and the tokens of entries in two parts.
use Rattle.std.proofs.Common.{◌≡◌, ◌≢◌, ℕ, zero, suc, ◌<◌, List, [], ◌∷◌, ◌++◌, length, drop, take, map, codes, Some}
use Rattle.std.proofs.Common.{None, sym, refl, ap, ◌∙◌, append_assoc, append-nil, arith}
use Rattle.std.specs.List.{insert, slice_get}
use Rattle.std.specs.BTreeMap.{insert_entry}
use Rattle.std.specs.Map.{keys_of, values_of}
use Rattle.std.specs.declared.cmp.Ordering.TheVariants.{Less, Greater}
use Rattle.std.specs.Fmt.{decimal}
use Rattle.json.specs.Token as json
use Rattle.doip_json.specs.Value.{Value, null, text, values_from, entries_from}
use Rattle.doip_json.specs.Look.{entry_of}
use Rattle.doip_json.specs.Sound.{IsAscending}
use Rattle.doip_json.specs.Places.{key_of, IsGapFor}
use Rattle.doip_json.specs.Tokens.{tokens_of, item_tokens, entry_tokens}
use Rattle.doip_json.proofs.Ascending.{Pairs, compared, keys_after, put_in_gap}
use Rattle.doip_json.proofs.Found.{found}
use Rattle.dobj_model.specs.declared.elements.Element.{Element}
use Rattle.dobj_model.specs.declared.metadata.Metadata.{Metadata}
use Rattle.dobj_model.specs.Shown.{object_with, metadata_form, with_metadata, element_form, elements_form}
use Rattle.dobj_model.proofs.Forms.{form}

abbrev value_here : Pairs → ℕ → Value
value_here [] i = null
value_here (e ∷ es) zero = e.1
value_here (e ∷ es) (suc i) = value_here es i

values_read : (es : Pairs) (i : ℕ) → i < length es → slice_get (values_of es) i ≡ Some (value_here es i)
values_read [] i within = absurd (omega arith)
values_read (e ∷ es) zero within = refl
values_read (e ∷ es) (suc i) within = values_read es i (omega arith)

-- one part after another
pub joined : {X : Type 0} (t0 t1 t2 s rest : List X) → t1 ≡ t0 ++ s → t2 ≡ t1 ++ rest → t2 ≡ t0 ++ (s ++ rest)
joined t0 t1 t2 s rest first then = then ∙ (ap (λ t. t ++ rest) first ∙ append_assoc t0 s rest)

pub entry_tokens-both : (es fs : Pairs)
    → entry_tokens (entries_from (es ++ fs)) ≡ entry_tokens (entries_from es) ++ entry_tokens (entries_from fs)
entry_tokens-both [] fs = refl
entry_tokens-both (e ∷ es) fs =
    ap (λ ts. json.key e.0 ∷ (tokens_of e.1 ++ ts)) (entry_tokens-both es fs)
    ∙ ap (λ ts. json.key e.0 ∷ ts) (sym (append_assoc (tokens_of e.1) _ _))

-- a key that is absent is at no place
pub not_here : (es : Pairs) (k : List ℕ) (i : ℕ) → IsAscending (keys_of es) → entry_of k (entries_from es) ≡ None
    → i < length es → key_of es i ≡ k → ⊥
not_here es k i sorted gone within same =
    let there =
    found es k i (value_here es i) sorted within same (values_read es i within) in
    absurd (let no = sym there ∙ gone in cc)

-- the first key that is above one which is absent shows where that would go
pub gap_here : (es : Pairs) (k : List ℕ) (i : ℕ) → IsAscending (keys_of es) → i < length es
    → ((j : ℕ) → j < i → compared (key_of es j) k ≡ Less) → compared (key_of es i) k ≡ Greater → IsGapFor k es i
gap_here es k i sorted within lower is =
    record { within = omega arith; lower = lower; greater = keys_after es k i sorted is }

insert_between : {X : Type 0} (xs : List X) (i : ℕ) (x : X) → insert xs i x ≡ take i xs ++ x ∷ drop i xs
insert_between xs i x = refl

-- the tokens of entries with one put into its gap
pub put_tokens : (es : Pairs) (k : List ℕ) (v : Value) (i : ℕ) → IsGapFor k es i
    → entry_tokens (entries_from (insert_entry compared es k v)) ≡ entry_tokens (entries_from (take i es))
    ++ (json.key k ∷ (tokens_of v ++ entry_tokens (entries_from (drop i es))))
put_tokens es k v i gap =
    ap (λ fs. entry_tokens (entries_from fs))
    (put_in_gap es k v i gap.within gap.lower gap.greater ∙ insert_between es i (k, v))
    ∙ entry_tokens-both (take i es) ((k, v) ∷ drop i es)

pub two_sides : (a : List json.Token) (k : json.Token) (m b : List json.Token) (last : json.Token)
    → a ++ ((k ∷ []) ++ (m ++ (b ++ last ∷ []))) ≡ (a ++ (k ∷ (m ++ b))) ++ last ∷ []
two_sides a k m b last = simp append_assoc

pub elements_tokens : (es : List Element) → es ≢ []
    → entry_tokens (entries_from (elements_form es)) ≡ json.key (codes "elements") ∷ json.begin_array
    ∷ (item_tokens (values_from (map element_form es)) ++ json.end_array ∷ [])
elements_tokens [] some = absurd (some refl)
elements_tokens (e ∷ es) some = append-nil _

pub form_tokens : (attributes : Pairs) (elements : List Element) (id type_name : List ℕ)
    → tokens_of (form attributes elements id type_name)
    ≡ (json.begin_object ∷ []) ++ ((json.key (codes "attributes") ∷ [])
    ++ (tokens_of (object_with attributes) ++ (entry_tokens (entries_from (elements_form elements))
    ++ ((json.key (codes "id") ∷ json.string id ∷ [])
    ++ ((json.key (codes "type") ∷ json.string type_name ∷ []) ++ json.end_object ∷ [])))))
form_tokens attributes elements id type_name =
    let tail : Pairs = (codes "id", text id) ∷ (codes "type", text type_name) ∷ [] in
    let both = entry_tokens-both (elements_form elements) tail in
    ap (λ ts. json.begin_object ∷ json.key (codes "attributes") ∷ ts)
    (append_assoc (tokens_of (object_with attributes)) (entry_tokens (entries_from (elements_form elements ++ tail)))
    (json.end_object ∷ [])
    ∙ ap (λ ts. tokens_of (object_with attributes) ++ ts)
    (ap (λ ts. ts ++ json.end_object ∷ []) both
    ∙ append_assoc (entry_tokens (entries_from (elements_form elements))) (entry_tokens (entries_from tail))
    (json.end_object ∷ [])))

-- ---- what the private writers write, one part after another

abbrev Tokens : Type 0
Tokens = List json.Token

pub metadata_written : (t0 t1 t2 t3 t4 t5 t6 t7 : Tokens) (m : Metadata) → t1 ≡ t0 ++ json.begin_object ∷ []
    → t2 ≡ t1 ++ json.key (codes "createdBy") ∷ json.string m.created_by ∷ []
    → t3 ≡ t2 ++ json.key (codes "createdOn") ∷ json.number (decimal m.created_on) ∷ []
    → t4 ≡ t3 ++ json.key (codes "modifiedBy") ∷ json.string m.modified_by ∷ []
    → t5 ≡ t4 ++ json.key (codes "modifiedOn") ∷ json.number (decimal m.modified_on) ∷ []
    → t6 ≡ t5 ++ json.key (codes "revision") ∷ json.number (decimal m.revision) ∷ [] → t7 ≡ t6 ++ json.end_object ∷ []
    → t7 ≡ t0 ++ tokens_of (metadata_form m)
metadata_written t0 t1 t2 t3 t4 t5 t6 t7 m e1 e2 e3 e4 e5 e6 e7 =
    joined t0 t1 t7 (json.begin_object ∷ []) _ e1
    (joined t1 t2 t7 (json.key (codes "createdBy") ∷ json.string m.created_by ∷ []) _ e2
    (joined t2 t3 t7 (json.key (codes "createdOn") ∷ json.number (decimal m.created_on) ∷ []) _ e3
    (joined t3 t4 t7 (json.key (codes "modifiedBy") ∷ json.string m.modified_by ∷ []) _ e4
    (joined t4 t5 t7 (json.key (codes "modifiedOn") ∷ json.number (decimal m.modified_on) ∷ []) _ e5
    (joined t5 t6 t7 (json.key (codes "revision") ∷ json.number (decimal m.revision) ∷ [])
    (json.end_object ∷ []) e6 e7)))))

pub attributes_written : (t0 t1 t2 t3 t4 t5 t6 : Tokens) (es : Pairs) (m : Metadata) (place : ℕ)
    → IsGapFor (codes "metadata") es place → t1 ≡ t0 ++ json.begin_object ∷ []
    → t2 ≡ t1 ++ entry_tokens (entries_from (take place es)) → t3 ≡ t2 ++ json.key (codes "metadata") ∷ []
    → t4 ≡ t3 ++ tokens_of (metadata_form m)
    → t5 ≡ t4 ++ entry_tokens (entries_from (drop place es)) → t6 ≡ t5 ++ json.end_object ∷ []
    → t6 ≡ t0 ++ tokens_of (object_with (with_metadata es m))
attributes_written t0 t1 t2 t3 t4 t5 t6 es m place gap e1 e2 e3 e4 e5 e6 =
    let before = entry_tokens (entries_from (take place es)) in
    let after = entry_tokens (entries_from (drop place es)) in
    let last : Tokens = json.end_object ∷ [] in
    let parts =
    joined t0 t1 t6 (json.begin_object ∷ [])
    (before ++ ((json.key (codes "metadata") ∷ []) ++ (tokens_of (metadata_form m) ++ (after ++ last)))) e1
    (joined t1 t2 t6 before ((json.key (codes "metadata") ∷ []) ++ (tokens_of (metadata_form m) ++ (after ++ last))) e2
    (joined t2 t3 t6 (json.key (codes "metadata") ∷ []) (tokens_of (metadata_form m) ++ (after ++ last)) e3
    (joined t3 t4 t6 (tokens_of (metadata_form m)) (after ++ last) e4 (joined t4 t5 t6 after last e5 e6)))) in
    parts ∙ ap (λ ts. t0 ++ json.begin_object ∷ ts)
    (two_sides before (json.key (codes "metadata")) (tokens_of (metadata_form m)) after json.end_object
    ∙ ap (λ ts. ts ++ last) (sym (put_tokens es (codes "metadata") (metadata_form m) place gap)))

pub shown_written : (t0 t1 t2 t3 t4 t5 t6 t7 : Tokens) (attributes : Pairs) (elements : List Element)
    (id type_name : List ℕ) → t1 ≡ t0 ++ json.begin_object ∷ []
    → t2 ≡ t1 ++ json.key (codes "attributes") ∷ [] → t3 ≡ t2 ++ tokens_of (object_with attributes)
    → t4 ≡ t3 ++ entry_tokens (entries_from (elements_form elements))
    → t5 ≡ t4 ++ json.key (codes "id") ∷ json.string id ∷ []
    → t6 ≡ t5 ++ json.key (codes "type") ∷ json.string type_name ∷ [] → t7 ≡ t6 ++ json.end_object ∷ []
    → t7 ≡ t0 ++ tokens_of (form attributes elements id type_name)
shown_written t0 t1 t2 t3 t4 t5 t6 t7 attributes elements id type_name e1 e2 e3 e4 e5 e6 e7 =
    let last : Tokens = json.end_object ∷ [] in
    let typed : Tokens = json.key (codes "type") ∷ json.string type_name ∷ [] in
    let named : Tokens = json.key (codes "id") ∷ json.string id ∷ [] in
    let listed = entry_tokens (entries_from (elements_form elements)) in
    let parts =
    joined t0 t1 t7 (json.begin_object ∷ [])
    ((json.key (codes "attributes") ∷ []) ++ (tokens_of (object_with attributes)
    ++ (listed ++ (named ++ (typed ++ last))))) e1
    (joined t1 t2 t7 (json.key (codes "attributes") ∷ [])
    (tokens_of (object_with attributes) ++ (listed ++ (named ++ (typed ++ last)))) e2
    (joined t2 t3 t7 (tokens_of (object_with attributes)) (listed ++ (named ++ (typed ++ last))) e3
    (joined t3 t4 t7 listed (named ++ (typed ++ last)) e4
    (joined t4 t5 t7 named (typed ++ last) e5 (joined t5 t6 t7 typed last e6 e7))))) in
    parts ∙ ap (λ ts. t0 ++ ts) (sym (form_tokens attributes elements id type_name))
