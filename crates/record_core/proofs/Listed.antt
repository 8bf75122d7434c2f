-- Elements that are listed, one after another.
use Rattle.std.proofs.Common.{◌≡◌, ℕ, zero, suc, ◌+◌, ◌<◌, ◌≤◌, ◌^◌, List, [], ◌∷◌, ◌++◌, length, map, take, drop, Option, Some, None, Result, Err, refl, sym, ap, ◌∙◌, subst, append_assoc, append-nil, add-one, arith}
use Rattle.std.specs.List.{flat_map, slice_get, AllByRecursion}
use Rattle.std.proofs.lemmas.List.{take_all, drop_all, length-map}
use Rattle.std.proofs.lemmas.Option.{slice_get_within}
use Rattle.doip_json.specs.Value.{Value}
use Rattle.dobj_model.specs.declared.elements.Element.{Element}
use Rattle.dobj_model.specs.Name.{IsName}
use Rattle.dobj_model.specs.Shown.{element_form}
use Rattle.record_core.specs.declared.change.RecordFault.{RecordFault}
use Rattle.record_core.specs.declared.change.RecordFault.TheVariants.{NotARecord, Memory}
use Rattle.record_core.specs.declared.elements.Listed.{Listed}
use Rattle.record_core.specs.Body.{payload}
use Rattle.record_core.specs.Fields.{listed_in, Finds}
use Rattle.record_core.specs.Numbers.{in_eight}
use Rattle.record_core.proofs.Found.{listed_back}
use Rattle.record_core.proofs.Heads.{same_payload}
use Rattle.record_core.specs.Cuts.{AreListed, YieldsFirst, YieldsItems}

-- an element at a place, with what comes before and after it
record Place (es : List Element) (i : ℕ) : Type 0 where
  e : Element
  name : IsName e.id
  size : length e.bytes < 2 ^ 64
  drop_is : drop i es ≡ e ∷ drop (suc i) es
  take_is : take (suc i) es ≡ take i es ++ e ∷ []
  form : slice_get (map element_form es) i ≡ Some (element_form e)

place : (es : List Element) (i : ℕ) → AllByRecursion (λ e. IsName e.id) es → AllByRecursion (λ e. length e.bytes < 2 ^ 64) es → i < length es → Place es i
place [] i p q h = absurd (omega arith)
place (e ∷ es) zero p q h = record { e = e; name = p.0; size = q.0; drop_is = refl; take_is = refl; form = refl }
place (e ∷ es) (suc i) p q h =
    let at = place es i p.1 q.1 (omega arith) in
    record { e = at.e; name = at.name; size = at.size; drop_is = at.drop_is; take_is = ap (λ l. e ∷ l) at.take_is; form = at.form }

-- the next element that is listed, and its bytes
pub record Next (es : List Element) (i : ℕ) (v : Value) (rest : List ℕ) : Type 0 where
  pub e : Element
  pub name : IsName e.id
  pub size : length e.bytes < 2 ^ 64
  pub is : v ≡ element_form e
  pub bytes : rest ≡ payload e ++ flat_map payload (drop (i + 1) es)
  pub take_is : take (i + 1) es ≡ take i es ++ e ∷ []

same_value : (v w : Value) → Some v ≡ Some w → v ≡ w
same_value v w is = cc

pub next_listed : (items : List Value) (payloads : List ℕ) (es : List Element) (i : ℕ) (v : Value) (rest : List ℕ) → AreListed items payloads es → slice_get items i ≡ Some v → rest ≡ flat_map payload (drop i es) → Next es i v rest
next_listed items payloads es i v rest listed here bytes =
    let there : slice_get (map element_form es) i ≡ Some v = ap (λ l. slice_get l i) (sym listed.listed) ∙ here in
    let within : i < length es = omega (arith, slice_get_within (map element_form es) i v there, length-map es element_form) in
    let at = place es i listed.names listed.sizes within in
    record {
      e = at.e;
      name = at.name;
      size = at.size;
      is = same_value v (element_form at.e) (sym there ∙ at.form);
      bytes = bytes ∙ (ap (flat_map payload) at.drop_is ∙ ap (λ n. payload at.e ++ flat_map payload (drop n es)) (sym (add-one i)));
      take_is = ap (λ n. take n es) (add-one i) ∙ at.take_is;
    }

-- one more element
pub bytes_next : (payloads rest after : List ℕ) (made more : List Element) (e : Element) → payloads ≡ flat_map payload made ++ rest → rest ≡ payload e ++ after → more ≡ made ++ e ∷ [] → payloads ≡ flat_map payload more ++ after
bytes_next payloads rest after made more e is first grown =
    is ∙ (ap (λ l. flat_map payload made ++ l) first ∙ (sym (append_assoc (flat_map payload made) (payload e) after) ∙ ap (λ l. l ++ after) (flat_push made e ∙ ap (flat_map payload) (sym grown))))
  where
    flat_push : (made : List Element) (e : Element) → flat_map payload made ++ payload e ≡ flat_map payload (made ++ e ∷ [])
    flat_push [] e = sym (append-nil (payload e))
    flat_push (x ∷ xs) e = append_assoc (payload x) (flat_map payload xs) (payload e) ∙ ap (λ l. payload x ++ l) (flat_push xs e)

-- ---- the end

pub all_made : (items : List Value) (payloads : List ℕ) (es made : List Element) (i : ℕ) → AreListed items payloads es → length items ≤ i → made ≡ take i es → made ≡ es
all_made items payloads es made i listed past is = is ∙ take_all i es (omega (arith, ap length listed.listed, length-map es element_form))

pub all_read : (items : List Value) (payloads : List ℕ) (es : List Element) (rest : List ℕ) (i : ℕ) → AreListed items payloads es → length items ≤ i → rest ≡ flat_map payload (drop i es) → rest ≡ []
all_read items payloads es rest i listed past is = is ∙ ap (flat_map payload) (drop_all i es (omega (arith, ap length listed.listed, length-map es element_form)))

-- a fault that is handed on
pub items_fail : {R S : Type 0} (now : R → List ℕ) (items : S → List Element) (fault : RecordFault) (r : Result S RecordFault) (e : Element) (more : List ℕ) (es : List Element)
    → YieldsFirst now (Err fault) e more → r ≡ Err fault → YieldsItems items r es
items_fail now items NotARecord r e more es never is = elim never [ ]
items_fail now items Memory r e more es free is = subst (λ s. YieldsItems items s es) (sym is) tt

pub listed_fails : {R : Type 0} (now : R → List ℕ) (fault : RecordFault) (r : Result (Element × R) RecordFault) (v : Value) (e : Element) (more : List ℕ)
    → Finds {X = Listed} (Err fault) (listed_in v) → IsName e.id → v ≡ element_form e → r ≡ Err fault → YieldsFirst now r e more
listed_fails now NotARecord r v e more none name same is =
    absurd (not_both (listed_in v) (record { id = e.id; type_name = e.type_name; attributes = e.attributes }) none (ap listed_in same ∙ listed_back e name))
  where
    not_both : (o : Option Listed) (x : Listed) → o ≡ None → o ≡ Some x → ⊥
    not_both o x p q = let never : None ≡ Some x = sym p ∙ q in absurd (cc)
listed_fails now Memory r v e more none name same is = subst (λ s. YieldsFirst now s e more) (sym is) tt

same_listed : (a b : Listed) → Some a ≡ Some b → a ≡ b
same_listed a b is = cc

-- an element that is made of what is listed and of the first bytes
pub first_element : (v : Value) (bytes first rest own : List ℕ) (listed : Listed) (e : Element) (more : List ℕ) → listed_in v ≡ Some listed → bytes ≡ in_eight (length first) ++ (first ++ rest) → length first < 2 ^ 64 → own ≡ first
    → IsName e.id → length e.bytes < 2 ^ 64 → v ≡ element_form e → bytes ≡ payload e ++ more
    → (record { id = listed.id; type_name = listed.type_name; attributes = listed.attributes; bytes = own } ≡ e) × (rest ≡ more)
first_element v bytes first rest own listed e more found cut small copied name size same is =
    let l = same_listed listed (record { id = e.id; type_name = e.type_name; attributes = e.attributes }) (sym found ∙ (ap listed_in same ∙ listed_back e name)) in
    let parts = same_payload first e.bytes rest more small size (sym cut ∙ (is ∙ append_assoc (in_eight (length e.bytes)) e.bytes more)) in
    ((λ j. record { id = (l j).id; type_name = (l j).type_name; attributes = (l j).attributes; bytes = (copied ∙ parts.0) j }), parts.1)
