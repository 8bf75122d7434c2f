-- What the rule says of a view, and what of a view stays true as the others move.
use Rattle.std.proofs.Common.{◌≡◌, ◌≢◌, ◌⊎◌, ℕ, zero, suc, ◌+◌, ◌*◌, ◌%◌, ◌^◌, ◌<◌, ◌≤◌, Bool, true, false, List, [], ◌∷◌, length, get_or, set, refl, ap, sym, subst, ◌∙◌, arith, inl, inr, ⊎_elim}
use mathlib.Core.Logic.{dite}
use mathlib.Core.Option.{some, some-injective, some-ne-none}
use mathlib.Core.List.{IsPrefix}
use native.Mathlib.Decide.{ℕ_discrete, dec_le}
use lib.ListN.{get_elem?}
use Rattle.atomic_table.specs.Table.{State}
use Rattle.atomic_table.proofs.Lists.{at_set, set_here, set_else, one_turn}
use Rattle.history_lock.specs.declared.board.Entered.{Entered}
use Rattle.history_lock.specs.declared.board.Slot.{Slot}
use Rattle.history_lock.specs.declared.board.View.{View}
use Rattle.history_lock.specs.History.{entries_by, held}
use Rattle.history_lock.specs.Rule.{times, Fits, IsKeptValue, Kept}
use Rattle.history_lock.proofs.Lists.{total_one, total_two, total_le, prefix_trans, same_here, below_one, below_not, below_at_most}
use Rattle.history_lock.proofs.Histories.{own_moves, counted_moves, begun_grows}

pub either_way : (b : Bool) → (b ≡ true) ⊎ (b ≡ false)
either_way true = inl refl
either_way false = inr refl

-- what holds of the view that was put, and of the others, holds of all
pub each_set : {A : Type 0} (P : A → Type 0) (xs : List A) (id : ℕ) (w : A) → P w → ((j : ℕ) (u : A) → j ≢ id → get_elem? xs j ≡ some u → P u)
    → (j : ℕ) (u : A) → get_elem? (set xs id w) j ≡ some u → P u
each_set {A} P xs id w mine others j u e = ⊎_elim (λ (t : (j ≡ id) × (w ≡ u)). subst P t.1 mine) (λ (t : (j ≢ id) × (get_elem? xs j ≡ some u)). others j u t.0 t.1) (at_set xs id j w u e)

pub at_length : {A : Type 0} (xs : List A) (i : ℕ) (a : A) → get_elem? xs i ≡ some a → i < length xs
at_length [] i a e = absurd (some-ne-none a (sym e))
at_length (x ∷ xs) zero a e = omega arith
at_length (x ∷ xs) (suc i) a e = omega (arith, at_length xs i a e)

module _ {T E : Type 0} {first : T} {passes : ℕ} where
  -- the words of the numbers that a view holds are as before
  pub fits_words : (h : List (Entered E)) (words words' : List ℕ) (v : View T E) → Fits first passes h words v
      → ((k : ℕ) → 0 < held k v.shares → get_or words' ((k + 2) * 16) 0 ≡ get_or words ((k + 2) * 16) 0) → Fits first passes h words' v
  fits_words h words words' v f agree = record {
    first_is = f.first_is;
    seen = f.seen;
    noted = f.noted;
    come = f.come;
    announced = f.announced;
    own = f.own;
    own_seen = f.own_seen;
    counted = counted_moves passes words words' (length v.announced) v.shares agree f.counted;
    queued = f.queued;
  }

  -- a longer history, with no more entries under the numbers that a view holds
  pub fits_grows : (h h' : List (Entered E)) (words words' : List ℕ) (v : View T E) → IsPrefix h h' → v.come ≡ false → Fits first passes h words v
      → ((k : ℕ) → 0 < held k v.shares → (get_or words' ((k + 2) * 16) 0 ≡ get_or words ((k + 2) * 16) 0) × (entries_by k h' ≡ entries_by k h)) → Fits first passes h' words' v
  fits_grows h h' words words' v p waits f agree = record {
    first_is = f.first_is;
    seen = prefix_trans v.seen h h' f.seen p;
    noted = begun_grows v.noted h h' p f.noted;
    come = λ c. absurd (cc (c, waits));
    announced = f.announced;
    own = own_moves h h' v.shares (λ k l. (agree k l).1) f.own;
    own_seen = f.own_seen;
    counted = counted_moves passes words words' (length v.announced) v.shares (λ k l. (agree k l).0) f.counted;
    queued = f.queued;
  }

module _ {T E : Type 0} (leads : T → E → T → Type 0) (first : T) (passes : ℕ) where
  -- no more tickets are out than there are passes
  pub few_out : (s : State (Slot T E) (View T E)) (r : Kept leads first passes s) → r.drawn ≤ length r.history + passes
  few_out s r = let out = total_le (λ (v : View T E). length v.tickets) (λ (v : View T E). length v.shares) s.views (λ j v at. (r.each_view j v at).queued) in
      let q = r.queue in let w = r.whole in omega arith

  -- a ticket that is out is one from the served to below the drawn
  pub ticket_out : (s : State (Slot T E) (View T E)) (r : Kept leads first passes s) (id : ℕ) (v : View T E) (t : ℕ) → get_elem? s.views id ≡ some v → v.tickets ≡ t ∷ [] → (length r.history ≤ t) × (t < r.drawn)
  ticket_out s r id v t at is = let one = total_one (λ (u : View T E). times t u.tickets) s.views id v at in let mine : times t v.tickets ≡ 1 = ap (times t) is ∙ (let e = same_here t t refl in omega arith) in
      let all = r.tickets t in let top = below_at_most t r.drawn in (
        dite (dec_le (length r.history) t) (λ l. l) (λ n. let b = below_one t (length r.history) (omega arith) in absurd (omega arith)),
        dite (dec_le r.drawn t) (λ l. let b = below_not t r.drawn l in absurd (omega arith)) (λ n. omega arith),
      )

  -- no two views have one ticket
  pub tickets_apart : (s : State (Slot T E) (View T E)) (r : Kept leads first passes s) (i j : ℕ) (v u : View T E) (t : ℕ) → i ≢ j → get_elem? s.views i ≡ some v → get_elem? s.views j ≡ some u → v.tickets ≡ t ∷ [] → u.tickets ≡ t ∷ [] → ⊥
  tickets_apart s r i j v u t n at at' is is' = let two = total_two (λ (x : View T E). times t x.tickets) s.views i j v u n at at' in let e = same_here t t refl in
      let mine : times t v.tickets ≡ 1 = ap (times t) is ∙ omega arith in let other : times t u.tickets ≡ 1 = ap (times t) is' ∙ omega arith in
      let all = r.tickets t in let top = below_at_most t r.drawn in omega arith

  -- where a view has the ticket that is served, the turn of no other has come
  pub comes_alone : (s : State (Slot T E) (View T E)) (r : Kept leads first passes s) (id : ℕ) (v : View T E) → get_elem? s.views id ≡ some v → v.tickets ≡ length r.history ∷ [] → (j : ℕ) (u : View T E) → j ≢ id → get_elem? s.views j ≡ some u → u.come ≡ false
  comes_alone s r id v at is j u n at' = ⊎_elim (λ (c : u.come ≡ true). absurd (tickets_apart s r j id u v (length r.history) n at' at ((r.each_view j u at').come c).0 is)) (λ (c : u.come ≡ false). c) (either_way u.come)

  -- no two views hold one number
  pub numbers_apart : (s : State (Slot T E) (View T E)) (r : Kept leads first passes s) (i j : ℕ) (v u : View T E) (k : ℕ) → i ≢ j → get_elem? s.views i ≡ some v → get_elem? s.views j ≡ some u → 0 < held k v.shares → 0 < held k u.shares → ⊥
  numbers_apart s r i j v u k n at at' l l' = let two = total_two (λ (x : View T E). held k x.shares) s.views i j v u n at at' in let all = r.numbers k in let top = below_at_most k passes in omega arith

  pub held_once : (s : State (Slot T E) (View T E)) (r : Kept leads first passes s) (id : ℕ) (v : View T E) (k : ℕ) → get_elem? s.views id ≡ some v → held k v.shares ≤ 1
  held_once s r id v k at = let one = total_one (λ (x : View T E). held k x.shares) s.views id v at in let all = r.numbers k in let top = below_at_most k passes in omega arith

  -- the number that is served is the ticket's only where it is the ticket
  pub is_served : (s : State (Slot T E) (View T E)) (r : Kept leads first passes s) (id : ℕ) (v : View T E) (t : ℕ) → get_elem? s.views id ≡ some v → v.tickets ≡ t ∷ [] → length r.history % 2 ^ 64 ≡ t % 2 ^ 64 → length r.history ≡ t
  is_served s r id v t at is e = let out = ticket_out s r id v t at is in let low = out.0 in let high = out.1 in let f = few_out s r in let few = r.few in
      one_turn (length r.history) t 18446744073709551616 low (omega arith) e

  -- the value stays where it was, as one view moves
  pub value_stays : (s : State (Slot T E) (View T E)) (h : List (Entered E)) (id : ℕ) (v w : View T E) (words' : List ℕ) → get_elem? s.views id ≡ some v → w.come ≡ v.come → IsKeptValue leads first h s
      → IsKeptValue leads first h record { words = words'; homes = s.homes; views = set s.views id w }
  value_stays s h id v w words' at same_come (inl x) = inl x
  value_stays s h id v w words' at same_come (inr out) = dite (ℕ_discrete out.0 id)
      (λ e. let same : v ≡ out.1 = some-injective v out.1 (sym at ∙ (ap (λ j. get_elem? s.views j) (sym e) ∙ out.2)) in
      inr (id, w, set_here s.views id w (at_length s.views id v at), same_come ∙ (ap (λ x. x.come) same ∙ out.3)))
      (λ n. inr (out.0, out.1, set_else s.views id out.0 w n ∙ out.2, out.3))
