-- Lemmas for the crates above: tables that `put` builds, lists that `push` builds, and what lies in a value.
use Rattle.std.proofs.Common.{◌≡◌, ◌≢◌, ℕ, ◌<◌, ◌≤◌, max, List, [], ◌∷◌, ◌++◌, Bool, true, false, if◌then◌else◌, Option, Some, nat_eq, refl, sym, ap, ◌∙◌, arith}
use Rattle.std.specs.Ordering.{match_ordering, is_eq}
use Rattle.std.specs.declared.cmp.Ordering.{Ordering}
use Rattle.std.specs.declared.cmp.Ordering.TheVariants.{Less, Equal, Greater}
use Rattle.std.specs.BTreeMap.{insert_entry}
use Rattle.std.specs.Cmp.Lexicographic.{pointwise, texts_ties}
use Rattle.doip_json.specs.Value.{Value, null, truth, whole, text, list, table, Entries, no_entries, entry, values_from, entries_from, depth_of, deepest_value, deepest_entry}
use Rattle.doip_json.specs.Look.{entry_of, field_of}
use Rattle.doip_json.proofs.Ascending.{Pairs, compared, equal_same}
use Rattle.doip_json.proofs.Found.{differs, same_key}

-- ---- a key after a put

here : (k : List ℕ) (e : List ℕ × Value) (es rest : Pairs) (v : Value) → entry_of k (entries_from rest) ≡ Some v → (o : Ordering) → compared k e.0 ≡ o
    → entry_of k (entries_from (match_ordering o ((k, v) ∷ e ∷ es) ((e.0, v) ∷ es) (e ∷ rest))) ≡ Some v
here k e es rest v later Less is = rw (same_key k k refl) refl
here k e es rest v later Equal is = rw (same_key k e.0 (sym (equal_same k e.0 is))) refl
here k e es rest v later Greater is = rw (texts_ties k e.0 ∙ ap is_eq is) later

-- the key has the value
pub entry_of-insert : (es : Pairs) (k : List ℕ) (v : Value) → entry_of k (entries_from (insert_entry compared es k v)) ≡ Some v
entry_of-insert [] k v = rw (same_key k k refl) refl
entry_of-insert (e ∷ es) k v = here k e es (insert_entry compared es k v) v (entry_of-insert es k v) (compared k e.0) refl

if_same : (b : Bool) (v : Value) (o p : Option Value) → o ≡ p → (if b then Some v else o) ≡ (if b then Some v else p)
if_same true v o p e = refl
if_same false v o p e = e

other_here : (q k : List ℕ) (e : List ℕ × Value) (es rest : Pairs) (v : Value) → q ≢ k → entry_of q (entries_from rest) ≡ entry_of q (entries_from es) → (o : Ordering) → compared k e.0 ≡ o
    → entry_of q (entries_from (match_ordering o ((k, v) ∷ e ∷ es) ((e.0, v) ∷ es) (e ∷ rest))) ≡ entry_of q (entries_from (e ∷ es))
other_here q k e es rest v other later Less is = rw (differs q k other) refl
other_here q k e es rest v other later Equal is = let away : pointwise nat_eq q e.0 ≡ false = differs q e.0 (λ same. other (same ∙ sym (equal_same k e.0 is))) in rw away refl
other_here q k e es rest v other later Greater is = if_same (pointwise nat_eq q e.0) e.1 _ _ later

-- every other key has what it had
pub entry_of-insert_other : (es : Pairs) (q k : List ℕ) (v : Value) → q ≢ k → entry_of q (entries_from (insert_entry compared es k v)) ≡ entry_of q (entries_from es)
entry_of-insert_other [] q k v other = rw (differs q k other) refl
entry_of-insert_other (e ∷ es) q k v other = other_here q k e es (insert_entry compared es k v) v other (entry_of-insert_other es q k v other) (compared k e.0) refl

-- ---- depths

depth_here : (k : List ℕ) (e : List ℕ × Value) (es rest : Pairs) (v : Value) (n : ℕ) → deepest_entry (entries_from rest) ≤ n → depth_of e.1 ≤ n → deepest_entry (entries_from es) ≤ n → depth_of v ≤ n → (o : Ordering)
    → deepest_entry (entries_from (match_ordering o ((k, v) ∷ e ∷ es) ((e.0, v) ∷ es) (e ∷ rest))) ≤ n
depth_here k e es rest v n later one all new Less = omega arith
depth_here k e es rest v n later one all new Equal = omega arith
depth_here k e es rest v n later one all new Greater = omega arith

-- a put leaves no entry deeper than the deepest before and the new value
pub deepest_entry-insert : (es : Pairs) (k : List ℕ) (v : Value) (n : ℕ) → deepest_entry (entries_from es) ≤ n → depth_of v ≤ n → deepest_entry (entries_from (insert_entry compared es k v)) ≤ n
deepest_entry-insert [] k v n all new = omega arith
deepest_entry-insert (e ∷ es) k v n all new =
    let rest : deepest_entry (entries_from es) ≤ n = omega arith in
    let one : depth_of e.1 ≤ n = omega arith in
    depth_here k e es (insert_entry compared es k v) v n (deepest_entry-insert es k v n rest new) one rest new (compared k e.0)

pub deepest_value-append : (vs : List Value) (v : Value) → deepest_value (values_from (vs ++ v ∷ [])) ≡ max (deepest_value (values_from vs)) (depth_of v)
deepest_value-append [] v = omega arith
deepest_value-append (w ∷ vs) v = omega (arith, deepest_value-append vs v)

-- ---- what lies at a key

found_here : (b : Bool) (w : Value) (o : Option Value) (v : Value) (n : ℕ) → (if b then Some w else o) ≡ Some v → depth_of w ≤ n → (o ≡ Some v → depth_of v ≤ n) → depth_of v ≤ n
found_here true w o v n is one later = let same : w ≡ v = cc in rw (← same) one
found_here false w o v n is one later = later is

pub entry_of-depth : (es : Entries) (k : List ℕ) (v : Value) → entry_of k es ≡ Some v → depth_of v ≤ deepest_entry es
entry_of-depth no_entries k v is = absurd (cc)
entry_of-depth (entry l w es) k v is = found_here (pointwise nat_eq k l) w (entry_of k es) v (max (depth_of w) (deepest_entry es)) is (omega arith) (λ later. omega (arith, entry_of-depth es k v later))

-- what lies at a key is less deep than the table
pub field_of-depth : (t v : Value) (k : List ℕ) → field_of k t ≡ Some v → depth_of v < depth_of t
field_of-depth null v k is = absurd (cc)
field_of-depth (truth b) v k is = absurd (cc)
field_of-depth (whole z) v k is = absurd (cc)
field_of-depth (text s) v k is = absurd (cc)
field_of-depth (list vs) v k is = absurd (cc)
field_of-depth (table es) v k is = omega (arith, entry_of-depth es k v is)
