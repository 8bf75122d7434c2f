-- The first failure that is computed is the first failure.
use Rattle.std.proofs.Common.{◌≡◌, ◌≢◌, ◌-◌, ℕ, suc, ◌+◌, ◌<◌, ◌↔◌, List, [], ◌∷◌, Bool, true, false, Option, Some, None, option_map, option_and_then, inl, inr, refl, sym, ap, ap₂, ◌∙◌, subst, arith, decimal, find}
use Rattle.std.specs.List.{slice_get}
use Rattle.std.specs.Option.{option_or}
use Rattle.std.proofs.lemmas.Bool.{cases_lt}
use Rattle.std.proofs.lemmas.Option.{slice_get_past, none-some}
use Rattle.doip_json.specs.Value.{Value, null, truth, whole, text, list, table, Values, no_values, value, values_in, Entries, no_entries, entry, entries_in}
use Rattle.doip_json.specs.Written.{pointer_of}
use Rattle.schema_core.specs.declared.word.SchemaWord.{SchemaWord}
use Rattle.schema_core.specs.Rules.{Rules, words_of, property_of, items_of}
use Rattle.schema_core.specs.Failing.{Fails, by_key, by_property, by_item, IsValid, Path, HasEntry, HasItem}
use Rattle.schema_core.specs.First.{IsFirst, IsFirstHere, IsFirstWord, IsFirstPointer, names_of}
use Rattle.schema_core.specs.FirstFailure.{Failure, fails_here, order, within_step, at_key, first_failure, first_item, first_entry}
use Rattle.schema_core.proofs.FirstLemmas.{NoneBefore, NoneAt, none_at_first, none_more, first_here, none_fails, plain_within, first_key, first_property, none_at_property, none_at_key, no_schema_within, first_item as item_first, none_at_item}
use Rattle.schema_core.proofs.HereLemmas.{found_here}
use Rattle.schema_core.proofs.OneFirst.{one_first}

abbrev pub Found : Rules → Value → Option Failure → Type 0
Found r v None = IsValid r v
Found r v (Some f) = IsFirst r v f.0 f.1

-- what was found at one place
abbrev FoundAt : Rules → Value → ℕ → List ℕ → Option Failure → Type 0
FoundAt r v i name None = NoneAt r v i
FoundAt r v i name (Some f) = IsFirst r v ((i, name) ∷ f.0) f.1

joined : (r : Rules) (v : Value) (i : ℕ) (name : List ℕ) (o rest : Option Failure) → NoneBefore r v i → FoundAt r v i name o
    → (NoneBefore r v (i + 1) → Found r v rest) → Found r v (option_or (within_step i name o) rest)
joined r v i name None rest earlier here later = later (none_more r v i earlier here)
joined r v i name (Some f) rest earlier here later = here

starts : (r : Rules) (v : Value) (rest : Option Failure) (o : Option SchemaWord) → IsFirstHere (words_of r) v o
    → (IsFirstHere (words_of r) v None → Found r v rest) → Found r v (option_or (option_map (λ w. ([], w)) o) rest)
starts r v rest None here later = later here
starts r v rest (Some w) here later = first_here r v w here

plainly : (r : Rules) (v : Value) (o : Option SchemaWord) → ((vs : Values) → v ≢ list vs) → ((es : Entries) → v ≢ table es)
    → IsFirstHere (words_of r) v o → Found r v (option_map (λ w. ([], w)) o)
plainly r v None no_list no_table here = none_fails r v 0 here (none_at_first r v) (plain_within r v no_list no_table)
plainly r v (Some w) no_list no_table here = first_here r v w here

-- ---- entries

-- the entries from place i on
EntriesFrom : Entries → ℕ → Entries → Type 0
EntriesFrom all i es = (j n : ℕ) → n ≡ i + j → slice_get (entries_in all) n ≡ slice_get (entries_in es) j

entry_read : (r : Rules) (all : Entries) (j : ℕ) (name : List ℕ) (path : Path) (w : SchemaWord) → Fails r (table all) ((j, name) ∷ path) w
    → (u : Value) × (slice_get (entries_in all) j ≡ Some (name, u))
entry_read r all j name path w (by_key _ _ _ _ u read none closed) = (u, read)
entry_read r all j name path w (by_property _ _ _ _ u inner _ _ read there fails) = (u, read)

entries_end : (r : Rules) (all : Entries) (i : ℕ) → EntriesFrom all i no_entries
    → (j : ℕ) → (name : List ℕ) → (path : Path) → (w : SchemaWord) → Fails r (table all) ((j, name) ∷ path) w → j < i
unfolding EntriesFrom
entries_end r all i from j name path w fails = elim (cases_lt j i) [
  | inl less ↦ less
  | inr after ↦ let read = entry_read r all j name path w fails in
      absurd (none-some (name, read.0) (sym (from (j - i) j (omega arith) ∙ slice_get_past [] (j - i) (omega arith)) ∙ read.1))
]

by_schema : (r : Rules) (all : Entries) (i : ℕ) (k : List ℕ) (v : Value) (inner : Rules) (f : Option Failure) → IsFirstHere (words_of r) (table all) None
    → NoneBefore r (table all) i → HasEntry all i k v → property_of k r ≡ Some inner → Found inner v f → FoundAt r (table all) i k f
by_schema r all i k v inner None here earlier has there valid = none_at_property r all i k v inner has there valid
by_schema r all i k v inner (Some f) here earlier has there first = first_property r all i k v inner f.0 f.1 here earlier has there first

found_key : (r : Rules) (all : Entries) (i : ℕ) (k : List ℕ) (v : Value) (judge : Rules → Option Failure) (o : Option Rules) (b : Bool)
    → IsFirstHere (words_of r) (table all) None → NoneBefore r (table all) i → HasEntry all i k v → property_of k r ≡ o
    → (words_of r).additional_properties ≡ b → ((inner : Rules) → Found inner v (judge inner)) → FoundAt r (table all) i k (at_key o b judge)
found_key r all i k v judge (Some inner) b here earlier has there allowed each = by_schema r all i k v inner (judge inner) here earlier has there (each inner)
found_key r all i k v judge None true here earlier has none allowed each = none_at_key r all i k v has none allowed
found_key r all i k v judge None false here earlier has none closed each = first_key r all i k v here earlier has none closed

-- ---- items

ItemsFrom : Values → ℕ → Values → Type 0
ItemsFrom all i vs = (j n : ℕ) → n ≡ i + j → slice_get (values_in all) n ≡ slice_get (values_in vs) j

item_read : (r : Rules) (all : Values) (j : ℕ) (name : List ℕ) (path : Path) (w : SchemaWord) → Fails r (list all) ((j, name) ∷ path) w
    → (u : Value) × (slice_get (values_in all) j ≡ Some u)
item_read r all j name path w (by_item _ _ _ u inner _ _ read there fails) = (u, read)

items_end : (r : Rules) (all : Values) (i : ℕ) → ItemsFrom all i no_values
    → (j : ℕ) → (name : List ℕ) → (path : Path) → (w : SchemaWord) → Fails r (list all) ((j, name) ∷ path) w → j < i
unfolding ItemsFrom
items_end r all i from j name path w fails = elim (cases_lt j i) [
  | inl less ↦ less
  | inr after ↦ let read = item_read r all j name path w fails in
      absurd (none-some read.0 (sym (from (j - i) j (omega arith) ∙ slice_get_past [] (j - i) (omega arith)) ∙ read.1))
]

by_items : (r : Rules) (all : Values) (i : ℕ) (v : Value) (inner : Rules) (f : Option Failure) → IsFirstHere (words_of r) (list all) None
    → NoneBefore r (list all) i → HasItem all i v → items_of r ≡ Some inner → Found inner v f → FoundAt r (list all) i (decimal i) f
by_items r all i v inner None here earlier has there valid = none_at_item r all i v inner has there valid
by_items r all i v inner (Some f) here earlier has there first = item_first r all i v inner f.0 f.1 here earlier has there first

found_item : (r : Rules) (all : Values) (i : ℕ) (v : Value) (judge : Rules → Option Failure) (o : Option Rules)
    → IsFirstHere (words_of r) (list all) None → NoneBefore r (list all) i → HasItem all i v → items_of r ≡ o
    → ((inner : Rules) → Found inner v (judge inner)) → FoundAt r (list all) i (decimal i) (option_and_then judge o)
found_item r all i v judge (Some inner) here earlier has there each = by_items r all i v inner (judge inner) here earlier has there (each inner)
found_item r all i v judge None here earlier has none each =
    λ name path w fails. let less : i < 0 = no_schema_within r all none i name path w fails in absurd (omega arith)

-- ---- values

mutual
  unfolding EntriesFrom ItemsFrom

  pub found : (r : Rules) (v : Value) → Found r v (first_failure r v)
  found r null = plainly r null (find (fails_here (words_of r) null) order) (λ vs same. cc) (λ es same. cc) (found_here (words_of r) null)
  found r (truth b) = plainly r (truth b) (find (fails_here (words_of r) (truth b)) order) (λ vs same. cc) (λ es same. cc) (found_here (words_of r) (truth b))
  found r (whole z) = plainly r (whole z) (find (fails_here (words_of r) (whole z)) order) (λ vs same. cc) (λ es same. cc) (found_here (words_of r) (whole z))
  found r (text s) = plainly r (text s) (find (fails_here (words_of r) (text s)) order) (λ vs same. cc) (λ es same. cc) (found_here (words_of r) (text s))
  found r (list vs) =
      starts r (list vs) (first_item (items_of r) 0 vs) (find (fails_here (words_of r) (list vs)) order) (found_here (words_of r) (list vs))
      (λ here. found_items r vs 0 vs here (none_at_first r (list vs)) (λ j n at. let same : n ≡ j = omega (arith, at) in ap (slice_get (values_in vs)) same))
  found r (table es) =
      starts r (table es) (first_entry r 0 es) (find (fails_here (words_of r) (table es)) order) (found_here (words_of r) (table es))
      (λ here. found_entries r es 0 es here (none_at_first r (table es)) (λ j n at. let same : n ≡ j = omega (arith, at) in ap (slice_get (entries_in es)) same))

  found_items : (r : Rules) (all : Values) (i : ℕ) (vs : Values) → IsFirstHere (words_of r) (list all) None → NoneBefore r (list all) i
      → ItemsFrom all i vs → Found r (list all) (first_item (items_of r) i vs)
  found_items r all i no_values here earlier from = none_fails r (list all) i here earlier (items_end r all i from)
  found_items r all i (value v vs) here earlier from =
      joined r (list all) i (decimal i) (option_and_then (λ inner. first_failure inner v) (items_of r)) (first_item (items_of r) (i + 1) vs) earlier
      (found_item r all i v (λ inner. first_failure inner v) (items_of r) here earlier (from 0 i (omega arith)) refl (λ inner. found inner v))
      (λ later. found_items r all (i + 1) vs here later (λ j n at. from (suc j) n (omega (arith, at))))

  found_entries : (r : Rules) (all : Entries) (i : ℕ) (es : Entries) → IsFirstHere (words_of r) (table all) None → NoneBefore r (table all) i
      → EntriesFrom all i es → Found r (table all) (first_entry r i es)
  found_entries r all i no_entries here earlier from = none_fails r (table all) i here earlier (entries_end r all i from)
  found_entries r all i (entry k v es) here earlier from =
      joined r (table all) i k (at_key (property_of k r) (words_of r).additional_properties (λ inner. first_failure inner v)) (first_entry r (i + 1) es) earlier
      (found_key r all i k v (λ inner. first_failure inner v) (property_of k r) (words_of r).additional_properties here earlier (from 0 i (omega arith)) refl refl (λ inner. found inner v))
      (λ later. found_entries r all (i + 1) es here later (λ j n at. from (suc j) n (omega (arith, at))))

-- ---- the law

pub first_is_found : (r : Rules) → (v : Value) → (path : Path) → (w : SchemaWord) → IsFirst r v path w ↔ (first_failure r v ≡ Some (path, w))
first_is_found r v path w = (to (first_failure r v) (found r v), λ is. subst (Found r v) is (found r v))
  where
    pair_same : (f : Failure) → f.0 ≡ path → f.1 ≡ w → ◌≡◌ {A = Option Failure} (Some f) (Some (path, w))
    pair_same f one two = ap₂ (λ p x. Some (p, x)) one two

    to : (o : Option Failure) → Found r v o → IsFirst r v path w → o ≡ Some (path, w)
    to None valid first = absurd (valid path w first.fails)
    to (Some f) one first = let same = one_first r v f.0 path f.1 w one first in pair_same f same.0 same.1

pub valid_is_found : (r : Rules) → (v : Value) → IsValid r v ↔ (first_failure r v ≡ None)
valid_is_found r v = (to (first_failure r v) (found r v), λ is. subst (Found r v) is (found r v))
  where
    to : (o : Option Failure) → Found r v o → IsValid r v → o ≡ None
    to None valid is = refl
    to (Some f) first is = absurd (is f.0 f.1 first.fails)

-- the word that `valid` returns
pub word_is_found : (r : Rules) → (v : Value) → (o : Option SchemaWord) → IsFirstWord r v o → option_map (λ f. f.1) (first_failure r v) ≡ o
word_is_found r v None valid = ap (option_map (λ f. f.1)) ((valid_is_found r v).0 valid)
word_is_found r v (Some w) there = ap (option_map (λ f. f.1)) ((first_is_found r v there.0 w).0 there.1)

-- the pointer that `failure_pointer` returns
pub pointer_is_found : (r : Rules) → (v : Value) → (o : Option (List ℕ)) → IsFirstPointer r v o
    → option_map (λ f. pointer_of (names_of f.0)) (first_failure r v) ≡ o
pointer_is_found r v None valid = ap (option_map (λ f. pointer_of (names_of f.0))) ((valid_is_found r v).0 valid)
pointer_is_found r v (Some pointer) there =
    ap (option_map (λ f. pointer_of (names_of f.0))) ((first_is_found r v there.0 there.1).0 there.2) ∙ ap Some (sym there.3)
