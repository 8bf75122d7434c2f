-- Faults of a schema, one entry after another, and what its properties state.
use Rattle.std.proofs.Common.{◌≡◌, ℕ, zero, suc, ◌+◌, List, [], ◌∷◌, ◌++◌, length, get_or, Bool, true, false, if◌then◌else◌, ◌||◌, nat_eq, codes, map, take, drop, String, string_bytes, unwrap_or, option_map, Option, Some, None, refl, sym, ap, ap₂, ◌∙◌, subst}
use Rattle.std.specs.List.{slice_get, list_any, AllByRecursion}
use Rattle.std.specs.String.{string_eq}
use Rattle.std.specs.declared.alloc.Global.{Global}
use Rattle.std.specs.declared.cmp.Ordering.TheVariants.{Less}
use Rattle.std.specs.Map.{keys_of, values_of}
use Rattle.std.specs.Cmp.Lexicographic.{pointwise}
use Rattle.std.proofs.lemmas.List.{map-append}
use Rattle.doip_json.specs.Value.{Value, Entries, no_entries, entry, entries_from}
use Rattle.doip_json.specs.Sound.{IsAscending}
use Rattle.std.specs.List.Sorted.{IsStrictlySortedBy}
use Rattle.doip_json.specs.declared.value.Json.{Json}
use Rattle.doip_json.specs.declared.value.Json.TheVariants.{Null, Truth, Whole, Text, Items, Table}
use Rattle.doip_json.specs.Meaning.{value_of}
use Rattle.doip_json.specs.Look.{entry_of}
use Rattle.doip_json.proofs.Lists.{entry_read, take_next}
use Rattle.doip_json.proofs.Ascending.{compared}
use Rattle.doip_json.proofs.Found.{lower_differs}
use Rattle.indexmap.specs.IndexSet.{insert_key}
use Rattle.schema_core.specs.declared.fault.SchemaFault.{SchemaFault}
use Rattle.schema_core.specs.declared.fault.SchemaFault.TheVariants as fault
use Rattle.schema_core.specs.Reading.{or_else, fault_at, fault_of, first_fault, schemas_fault, IsFaultOf, rules_in, properties_at, schemas_in, each_schema, within_at}
use Rattle.schema_core.specs.Rules.{Rules, no_properties, property, anything, each}
use Rattle.schema_core.specs.Kept.{keyed}
use Rattle.schema_core.proofs.ShapeLemmas.{next_item}

abbrev Pairs : Type 0
Pairs = List (List ℕ × Value)

key_there : (es : Pairs) (i : ℕ) (v : Value) → slice_get (values_of es) i ≡ Some v → (k : List ℕ) × (slice_get (keys_of es) i ≡ Some k)
key_there [] i v one = absurd (cc)
key_there (e ∷ es) zero v one = (e.0, refl)
key_there (e ∷ es) (suc i) v one = key_there es i v one

pub next_entry : (es : Pairs) (i : ℕ) (k : List ℕ) (v : Value) → slice_get (keys_of es) i ≡ Some k → slice_get (values_of es) i ≡ Some v
    → drop i es ≡ (k, v) ∷ drop (i + 1) es
next_entry es i k v key one = next_item es i (k, v) (entry_read es i k v key one)

-- an entry at a place of an object, by its value
pub value_next : (es : Pairs) (i : ℕ) (v : Value) → slice_get (values_of es) i ≡ Some v → (k : List ℕ) × (drop i es ≡ (k, v) ∷ drop (i + 1) es)
value_next es i v one = let key = key_there es i v one in (key.0, next_entry es i key.0 v key.1 one)

-- the fault goes on as the rest's, if there is none at this key
pub goes_on : (found later : Option SchemaFault) → found ≡ None → or_else found later ≡ later
goes_on found later none = ap (λ o. or_else o later) none

-- a fault at this key is the first
pub stops : (found later : Option SchemaFault) (f : SchemaFault) → IsFaultOf found f → IsFaultOf (or_else found later) f
stops found later (fault.Word name) is = ap (λ o. or_else o later) is
stops found later (fault.Shape name) is = ap (λ o. or_else o later) is
stops found later fault.Memory is = is

module _ (es : Pairs) (i : ℕ) (k : List ℕ) (v : Value) (next : drop i es ≡ (k, v) ∷ drop (i + 1) es) where
  first_next : first_fault (entries_from (drop i es)) ≡ or_else (fault_at k v) (first_fault (entries_from (drop (i + 1) es)))
  first_next = ap (λ xs. first_fault (entries_from xs)) next

  -- no fault at this key
  pub first_goes_on : first_fault (entries_from es) ≡ first_fault (entries_from (drop i es)) → fault_at k v ≡ None
      → first_fault (entries_from es) ≡ first_fault (entries_from (drop (i + 1) es))
  first_goes_on so none = so ∙ (first_next ∙ goes_on (fault_at k v) _ none)

  -- the fault at this key
  pub first_stops : (f : SchemaFault) → first_fault (entries_from es) ≡ first_fault (entries_from (drop i es))
      → IsFaultOf (fault_at k v) f → IsFaultOf (first_fault (entries_from es)) f
  first_stops f so is = subst (λ o. IsFaultOf o f) (sym (so ∙ first_next)) (stops (fault_at k v) _ f is)

  schemas_next : schemas_fault (entries_from (drop i es)) ≡ or_else (fault_of v) (schemas_fault (entries_from (drop (i + 1) es)))
  schemas_next = ap (λ xs. schemas_fault (entries_from xs)) next

  -- no fault of this schema
  pub schemas_go_on : schemas_fault (entries_from es) ≡ schemas_fault (entries_from (drop i es)) → fault_of v ≡ None
      → schemas_fault (entries_from es) ≡ schemas_fault (entries_from (drop (i + 1) es))
  schemas_go_on so none = so ∙ (schemas_next ∙ goes_on (fault_of v) _ none)

  -- the fault of this schema
  pub schemas_stop : (f : SchemaFault) → schemas_fault (entries_from es) ≡ schemas_fault (entries_from (drop i es))
      → IsFaultOf (fault_of v) f → IsFaultOf (schemas_fault (entries_from es)) f
  schemas_stop f so is = subst (λ o. IsFaultOf o f) (sym (so ∙ schemas_next)) (stops (fault_of v) _ f is)

-- ---- what the properties state

heads : {A : Type 0} (a b : A) (xs ys : List A) → a ∷ xs ≡ b ∷ ys → a ≡ b
heads a b xs ys e = ap (λ l. get_or l 0 a) e

tails : {A : Type 0} (a b : A) (xs ys : List A) → a ∷ xs ≡ b ∷ ys → xs ≡ ys
tails a b xs ys e = ap (drop 1) e

-- keys and schemas are those of these entries
pub record AreOf (es : Pairs) (keys : List (String Global)) (rs : List Rules) : Type 0 where
  pub keys_are : map string_bytes keys ≡ keys_of es
  pub schemas_are : rs ≡ map (λ e. rules_in e.1) es

-- each key has its schema
pub evenly : (es : Pairs) (keys : List (String Global)) (rs : List Rules) → AreOf es keys rs → length keys ≡ length rs
evenly [] [] rs are = sym (ap length are.schemas_are)
evenly [] (key ∷ keys) rs are = absurd (let none : string_bytes key ∷ map string_bytes keys ≡ [] = are.keys_are in cc)
evenly (e ∷ es) [] rs are = absurd (let none : [] ≡ e.0 ∷ keys_of es = are.keys_are in cc)
evenly (e ∷ es) (key ∷ keys) rs are =
    ap suc (evenly es keys (map (λ e. rules_in e.1) es) (record { keys_are = tails _ _ _ _ are.keys_are; schemas_are = refl }))
    ∙ sym (ap length are.schemas_are)

pub keyed-are : (es : Pairs) (keys : List (String Global)) (rs : List Rules) → AreOf es keys rs
    → keyed keys rs ≡ each_schema (entries_from es)
keyed-are [] [] rs are = refl
keyed-are [] (key ∷ keys) rs are = absurd (let none : string_bytes key ∷ map string_bytes keys ≡ [] = are.keys_are in cc)
keyed-are (e ∷ es) [] rs are = absurd (let none : [] ≡ e.0 ∷ keys_of es = are.keys_are in cc)
keyed-are (e ∷ es) (key ∷ keys) rs are =
    ap (keyed (key ∷ keys)) are.schemas_are
    ∙ ap₂ (λ k ps. property k (rules_in e.1) ps) (heads _ _ _ _ are.keys_are)
    (keyed-are es keys (map (λ e. rules_in e.1) es) (record { keys_are = tails _ _ _ _ are.keys_are; schemas_are = refl }))

-- one more key and schema are those of one more entry
pub one_more : (es : Pairs) (i : ℕ) (v : Value) (keys : List (String Global)) (rs : List Rules) (key : String Global) (r : Rules)
    → slice_get (keys_of es) i ≡ Some (string_bytes key) → slice_get (values_of es) i ≡ Some v → r ≡ rules_in v
    → AreOf (take i es) keys rs → AreOf (take (i + 1) es) (keys ++ key ∷ []) (rs ++ r ∷ [])
one_more es i v keys rs key r has one so are =
    let next = take_next es i (string_bytes key, v) (entry_read es i (string_bytes key) v has one) in record {
      keys_are =
          map-append string_bytes keys (key ∷ [])
          ∙ (ap (λ ks. ks ++ string_bytes key ∷ []) are.keys_are
          ∙ (sym (map-append (λ e. e.0) (take i es) ((string_bytes key, v) ∷ [])) ∙ sym (ap keys_of next)));
      schemas_are =
          ap₂ (λ xs x. xs ++ x ∷ []) are.schemas_are so
          ∙ (sym (map-append (λ e. rules_in e.1) (take i es) ((string_bytes key, v) ∷ []))
          ∙ sym (ap (map (λ e. rules_in e.1)) next));
    }

-- ---- a key isn't among those before it

among_at : (P : List ℕ → Type 0) (es : Pairs) (i : ℕ) (k : List ℕ) → AllByRecursion P (keys_of es)
    → slice_get (keys_of es) i ≡ Some k → P k
among_at P [] i k all at = absurd (cc)
among_at P (e ∷ es) zero k all at = let same : e.0 ≡ k = cc in subst P same all.0
among_at P (e ∷ es) (suc i) k all at = among_at P es i k all.1 at

pub is_new : (es : Pairs) (i : ℕ) (keys : List (String Global)) (key : String Global) → IsAscending (keys_of es)
    → map string_bytes keys ≡ keys_of (take i es) → slice_get (keys_of es) i ≡ Some (string_bytes key)
    → list_any (string_eq key) keys ≡ false
unfolding IsStrictlySortedBy
is_new es i [] key sorted are at = refl
is_new [] i (x ∷ keys) key sorted are at = absurd (cc)
is_new (e ∷ es) zero (x ∷ keys) key sorted are at =
    absurd (let none : string_bytes x ∷ map string_bytes keys ≡ [] = are in cc)
is_new (e ∷ es) (suc i) (x ∷ keys) key sorted are at =
    let less : compared e.0 (string_bytes key) ≡ Less = among_at (λ y. compared e.0 y ≡ Less) es i (string_bytes key) sorted.0 at in
    let same : string_bytes x ≡ e.0 = heads _ _ _ _ are in
    let differs : string_eq key x ≡ false =
    lower_differs (string_bytes key) (string_bytes x) (ap (λ k. compared k (string_bytes key)) same ∙ less) in
    ap (λ b. b || list_any (string_eq key) keys) differs
    ∙ is_new es i keys key sorted.1 (tails _ _ _ _ are) at

-- a new key goes last
pub goes_last : (keys : List (String Global)) (key : String Global) → list_any (string_eq key) keys ≡ false
    → insert_key string_eq keys key ≡ keys ++ key ∷ []
goes_last keys key new = ap (λ b. if b then keys else keys ++ key ∷ []) new

if_found : {A : Type 0} (f : Value → A) (b : Bool) (v : Value) (rest : A) (o : Option Value) (none : A) → rest ≡ unwrap_or (option_map f o) none
    → (if b then f v else rest) ≡ unwrap_or (option_map f (if b then Some v else o)) none
if_found f true v rest o none so = refl
if_found f false v rest o none so = so

-- the schemas at `properties`, by a look at the key
pub properties_at-found : (es : Entries) → properties_at es ≡ unwrap_or (option_map schemas_in (entry_of (codes "properties") es)) no_properties
properties_at-found no_entries = refl
properties_at-found (entry k v es) = if_found schemas_in (pointwise nat_eq (codes "properties") k) v (properties_at es) (entry_of (codes "properties") es) no_properties (properties_at-found es)

-- the schema at `items`, by a look at the key
pub within_at-found : (es : Entries) → within_at es ≡ unwrap_or (option_map (λ v. each (rules_in v)) (entry_of (codes "items") es)) anything
within_at-found no_entries = refl
within_at-found (entry k v es) = if_found (λ u. each (rules_in u)) (pointwise nat_eq (codes "items") k) v (within_at es) (entry_of (codes "items") es) anything (within_at-found es)

-- what is no object has no schemas
pub schemas_plain : (j : Json) → ((m : List (List ℕ × Value)) → j ≡ Table m → ⊥) → no_properties ≡ schemas_in (value_of j)
schemas_plain Null other = refl
schemas_plain (Truth b) other = refl
schemas_plain (Whole z) other = refl
schemas_plain (Text s) other = refl
schemas_plain (Items vs) other = refl
schemas_plain (Table m) other = absurd (other m refl)
