-- How a lock is opened, how a seat is split and two are joined, and how a lock is closed.
use Rattle.std.proofs.Common.{◌≡◌, ◌≢◌, ℕ, zero, suc, ◌+◌, ◌*◌, ◌<◌, ◌≤◌, Bool, true, false, ltb, if◌then◌else◌, List, [], ◌∷◌, ◌++◌, length, get_or, set, refl, ap, sym, subst, ◌∙◌, arith, inl, inr, ⊎_elim, length-append, eq-eqb}
use Rattle.std.proofs.lemmas.Bool.Decides.{nat_tests}
use Rattle.std.proofs.lemmas.List.{append-nil}
use mathlib.Core.Logic.{dite}
use mathlib.Core.Option.{some, some-injective, some-ne-none}
use mathlib.Core.List.{IsPrefix}
use native.Mathlib.Decide.{ℕ_discrete, dec_le}
use lib.ListN.{get_elem?}
use Rattle.atomic_table.specs.Table.{State, opening, Splits, Joins, Final, Seen}
use Rattle.atomic_table.proofs.Lists.{set_else, at_snoc, at_longer}
use Rattle.history_lock.specs.declared.board.Entered.{Entered}
use Rattle.history_lock.specs.declared.board.Share.{Share}
use Rattle.history_lock.specs.declared.board.Slot.{Slot}
use Rattle.history_lock.specs.declared.board.View.{View}
use Rattle.history_lock.specs.History.{entries, entries_by, held, HoldsAll, AreOwn, AreBelow, Runs, other_shares}
use Rattle.history_lock.specs.Rule.{below, times, fresh, AreCounted, Fits, Kept, opening_view}
use Rattle.history_lock.specs.Told.{IsResting, longer, first_share, note_of, one_of, rest_of, both_of, spent}
use Rattle.history_lock.proofs.Lists.{total_set, total_snoc, total_two, total_alone, prefix_self, prefix_shorter, same_here, same_else, below_next, below_one, below_not}
use Rattle.history_lock.proofs.Histories.{by-append, by_between, below_rest, own_moves, own-append, own_agree, counted-append, held-append, as_many}
use Rattle.history_lock.proofs.Views.{each_set, value_stays}

fresh_held : (E : Type 0) (k n : ℕ) → held {E = E} k (fresh n) ≡ below k n
fresh_held E k zero = sym (below_not k 0 (omega arith))
fresh_held E k (suc n) = let b = below_next k n in let e : below k (suc n) ≡ below k (n + 1) = ap (below k) (omega arith) in let q = fresh_held E k n in omega arith

fresh_length : (E : Type 0) (n : ℕ) → length {A = Share E} (fresh n) ≡ n
fresh_length E zero = refl
fresh_length E (suc n) = let q = fresh_length E n in omega arith

fresh_own : (E : Type 0) (n : ℕ) → AreOwn {E = E} [] (fresh n)
fresh_own E zero = tt
fresh_own E (suc n) = (refl, fresh_own E n)

fresh_counted : (E : Type 0) (passes : ℕ) (words : List ℕ) (n : ℕ) → n ≤ passes → ((i : ℕ) → i < (passes + 2) * 16 → get_or words i 0 ≡ 0) → AreCounted {E = E} passes words 0 (fresh n)
fresh_counted E passes words zero le blank = tt
fresh_counted E passes words (suc n) le blank = (omega arith, blank ((n + 2) * 16) (omega arith), fresh_counted E passes words n (omega arith) blank)

held_short : {E : Type 0} (k : ℕ) (ss : List (Share E)) → held k ss ≤ length ss
held_short k [] = omega arith
held_short k (s ∷ ss) = dite (ℕ_discrete k s.number) (λ e. let a = same_here k s.number e in omega (arith, held_short k ss)) (λ e. let a = same_else k s.number e in omega (arith, held_short k ss))

each_one : {A : Type 0} (P : A → Type 0) (v : A) → P v → (j : ℕ) (u : A) → get_elem? (v ∷ []) j ≡ some u → P u
each_one P v p zero u e = subst P (some-injective v u e) p
each_one P v p (suc j) u e = absurd (some-ne-none u (sym e))

module _ {T E : Type 0} (leads : T → E → T → Type 0) (first : T) (passes : ℕ) where
  pub starts : (words : List ℕ) (slot : Slot T E) → passes ≤ 64 → length words ≡ (passes + 2) * 16 → ((i : ℕ) → i < (passes + 2) * 16 → get_or words i 0 ≡ 0) → slot.value ≡ first
      → Kept leads first passes (opening words (slot ∷ []) (opening_view first passes))
  starts words slot few wide blank there = record {
    history = [];
    drawn = 0;
    few = few;
    wide = wide;
    deep = refl;
    ticket = blank 0 (omega arith);
    serving = blank 16 (omega arith);
    each_view = let v : View T E = opening_view first passes in each_one (Fits first passes [] words) v record {
      first_is = λ x e. cc (e);
      seen = ([], refl);
      noted = tt;
      come = λ c. absurd (cc c);
      announced = λ _. refl;
      own = fresh_own E passes;
      own_seen = fresh_own E passes;
      counted = fresh_counted E passes words passes (omega arith) blank;
      queued = omega arith;
    };
    tickets = λ n. omega arith;
    queue = omega arith;
    numbers = λ k. (let q = fresh_held E k passes in omega arith);
    whole = (let q = fresh_length E passes in omega arith);
    taken = tt;
    value = inl (slot, first, refl, there, refl);
  }

  -- a view is cut in two
  splits : (id : ℕ) (v left right : View T E) → left.come ≡ v.come
      → ((h : List (Entered E)) (words : List ℕ) → Fits first passes h words v → Fits first passes h words left × Fits first passes h words right)
      → ((n : ℕ) → times n left.tickets + times n right.tickets ≡ times n v.tickets) → length left.tickets + length right.tickets ≡ length v.tickets
      → ((k : ℕ) → held k left.shares + held k right.shares ≡ held k v.shares) → length left.shares + length right.shares ≡ length v.shares
      → Splits (Kept leads first passes) id v left right
  splits id v left right same_come parts fair count shared all s r at = let vs : List (View T E) = set s.views id left in let f = parts r.history s.words (r.each_view id v at) in record {
    history = r.history;
    drawn = r.drawn;
    few = r.few;
    wide = r.wide;
    deep = r.deep;
    ticket = r.ticket;
    serving = r.serving;
    each_view = λ j u e. ⊎_elim (each_set (Fits first passes r.history s.words) s.views id left f.0 (λ i x _ p. r.each_view i x p) j u) (λ (g : right ≡ u). subst (Fits first passes r.history s.words) g f.1) (at_snoc vs right u j e);
    tickets = λ n. let t = total_set (λ (u : View T E). times n u.tickets) s.views id v left at in let more = total_snoc (λ (u : View T E). times n u.tickets) vs right in let g = fair n in let q = r.tickets n in omega arith;
    queue = let t = total_set (λ (u : View T E). length u.tickets) s.views id v left at in let more = total_snoc (λ (u : View T E). length u.tickets) vs right in let q = r.queue in omega arith;
    numbers = λ k. let t = total_set (λ (u : View T E). held k u.shares) s.views id v left at in let more = total_snoc (λ (u : View T E). held k u.shares) vs right in let g = shared k in let q = r.numbers k in omega arith;
    whole = let t = total_set (λ (u : View T E). length u.shares) s.views id v left at in let more = total_snoc (λ (u : View T E). length u.shares) vs right in let q = r.whole in omega arith;
    taken = r.taken;
    value = ⊎_elim (λ (x : (slot : Slot T E) × (value : T) × (get_elem? s.homes 0 ≡ some (some slot)) × (slot.value ≡ value) × Runs leads first (entries r.history) value). inl x)
        (λ (x : (j : ℕ) × (u : View T E) × (get_elem? vs j ≡ some u) × (u.come ≡ true)). inr (x.0, x.1, at_longer vs (right ∷ []) x.0 x.1 x.2, x.3))
        (value_stays leads first passes s r.history id v left s.words at same_come r.value);
  }

  -- a note of what was seen
  pub splits_note : (id : ℕ) (v : View T E) → Splits (Kept leads first passes) id v v (note_of v)
  splits_note id v = splits id v v (note_of v) refl
      (λ h words f. (
        f,
        record {
          first_is = f.first_is;
          seen = f.seen;
          noted = tt;
          come = λ c. absurd (cc c);
          announced = λ _. refl;
          own = tt;
          own_seen = tt;
          counted = tt;
          queued = omega arith;
        },
      ))
      (λ n. omega arith) (omega arith) (λ k. omega arith) (omega arith)

  -- the first number goes to a seat of its own
  pub splits_one : (id : ℕ) (v : View T E) → IsResting v → Splits (Kept leads first passes) id v (rest_of v) (one_of v)
  splits_one id v rest = let empty : length v.tickets ≡ 0 = ap length rest.0 in let quiet : length v.announced ≡ 0 = ap length rest.2 in splits id v (rest_of v) (one_of v) refl
      (λ h words f. let counted : AreCounted passes words 0 v.shares = subst (λ (a : ℕ). AreCounted passes words a v.shares) quiet f.counted in (
        record {
          first_is = f.first_is;
          seen = f.seen;
          noted = f.noted;
          come = f.come;
          announced = f.announced;
          own = own_rest h v.shares f.own;
          own_seen = own_rest v.seen v.shares f.own_seen;
          counted = subst (λ (a : ℕ). AreCounted passes words a (other_shares v.shares)) (sym quiet) (counted_rest words v.shares counted);
          queued = omega arith;
        },
        record {
          first_is = f.first_is;
          seen = f.seen;
          noted = tt;
          come = λ c. absurd (cc c);
          announced = λ _. refl;
          own = own_first h v.shares f.own;
          own_seen = own_first v.seen v.shares f.own_seen;
          counted = counted_first words v.shares counted;
          queued = omega arith;
        },
      ))
      (λ n. omega arith) (omega arith) (λ k. held_parts k v.shares) (length_parts v.shares)
    where
      own_rest : (h : List (Entered E)) (ss : List (Share E)) → AreOwn h ss → AreOwn h (other_shares ss)
      own_rest h [] a = tt
      own_rest h (s ∷ ss) a = a.1

      own_first : (h : List (Entered E)) (ss : List (Share E)) → AreOwn h ss → AreOwn h (first_share ss)
      own_first h [] a = tt
      own_first h (s ∷ ss) a = (a.0, tt)

      counted_rest : (words : List ℕ) (ss : List (Share E)) → AreCounted passes words 0 ss → AreCounted passes words 0 (other_shares ss)
      counted_rest words [] a = tt
      counted_rest words (s ∷ ss) a = a.2

      counted_first : (words : List ℕ) (ss : List (Share E)) → AreCounted passes words 0 ss → AreCounted passes words 0 (first_share ss)
      counted_first words [] a = tt
      counted_first words (s ∷ ss) a = (a.0, a.1, tt)

      held_parts : (k : ℕ) (ss : List (Share E)) → held k (other_shares ss) + held k (first_share ss) ≡ held k ss
      held_parts k [] = refl
      held_parts k (s ∷ ss) = omega arith

      length_parts : (ss : List (Share E)) → length (other_shares ss) + length (first_share ss) ≡ length ss
      length_parts [] = refl
      length_parts (s ∷ ss) = omega arith

  -- one seat takes in another, which is spent
  pub joins : (id : ℕ) (v : View T E) (other : ℕ) (w : View T E) → IsResting v → IsResting w → Joins (Kept leads first passes) id v other w (both_of v w) spent
  joins id v other w rest rest' s r at apart there = let b : View T E = both_of v w in let o : View T E = spent in let vs : List (View T E) = set s.views id b in let us : List (View T E) = set vs other o in
      let h : List (Entered E) = r.history in let f = r.each_view id v at in
      let there' : get_elem? s.views other ≡ some w = sym (set_else s.views id other b apart) ∙ there in let g = r.each_view other w there' in
      let quiet : length v.announced ≡ 0 = ap length rest.2 in let quiet' : length w.announced ≡ 0 = ap length rest'.2 in let empty : length v.tickets ≡ 0 = ap length rest.0 in
      let seen : IsPrefix b.seen h × IsPrefix v.seen b.seen × IsPrefix w.seen b.seen = longer_of v.seen w.seen h f.seen g.seen in record {
        history = h;
        drawn = r.drawn;
        few = r.few;
        wide = r.wide;
        deep = r.deep;
        ticket = r.ticket;
        serving = r.serving;
        each_view = each_set (Fits first passes h s.words) vs other o record {
          first_is = λ x e. absurd (cc (e));
          seen = (h, refl);
          noted = tt;
          come = λ c. absurd (cc c);
          announced = λ _. refl;
          own = tt;
          own_seen = tt;
          counted = tt;
          queued = omega arith;
        }
            (λ j u _ p. each_set (Fits first passes h s.words) s.views id b record {
              first_is = f.first_is;
              seen = seen.0;
              noted = (f.seen, (g.seen, tt));
              come = λ c. absurd (cc (c, rest.1));
              announced = f.announced;
              own = own-append h v.shares w.shares f.own g.own;
              own_seen = own-append b.seen v.shares w.shares
                  (own_moves v.seen b.seen v.shares (λ k l. let a = own_agree v.seen h v.shares k l f.own_seen f.own in by_between k v.seen b.seen h seen.1 seen.0 a ∙ sym a) f.own_seen)
                  (own_moves w.seen b.seen w.shares (λ k l. let a = own_agree w.seen h w.shares k l g.own_seen g.own in by_between k w.seen b.seen h seen.2 seen.0 a ∙ sym a) g.own_seen);
              counted = subst (λ (a : ℕ). AreCounted passes s.words a (v.shares ++ w.shares)) (sym quiet)
                  (counted-append passes s.words v.shares w.shares (subst (λ (a : ℕ). AreCounted passes s.words a v.shares) quiet f.counted) (subst (λ (a : ℕ). AreCounted passes s.words a w.shares) quiet' g.counted));
              queued = omega arith;
            } (λ i x _ q. r.each_view i x q) j u p);
        tickets = λ n. let t = total_set (λ (u : View T E). times n u.tickets) s.views id v b at in let t' = total_set (λ (u : View T E). times n u.tickets) vs other w o there in
            let z : times n w.tickets ≡ 0 = ap (times n) rest'.0 in let q = r.tickets n in omega arith;
        queue = let t = total_set (λ (u : View T E). length u.tickets) s.views id v b at in let t' = total_set (λ (u : View T E). length u.tickets) vs other w o there in
            let z : length w.tickets ≡ 0 = ap length rest'.0 in let q = r.queue in omega arith;
        numbers = λ k. let t = total_set (λ (u : View T E). held k u.shares) s.views id v b at in let t' = total_set (λ (u : View T E). held k u.shares) vs other w o there in
            let z = held-append k v.shares w.shares in let q = r.numbers k in omega arith;
        whole = let t = total_set (λ (u : View T E). length u.shares) s.views id v b at in let t' = total_set (λ (u : View T E). length u.shares) vs other w o there in
            let z = length-append v.shares w.shares in let q = r.whole in omega arith;
        taken = r.taken;
        value = ⊎_elim (λ (x : (slot : Slot T E) × (value : T) × (get_elem? s.homes 0 ≡ some (some slot)) × (slot.value ≡ value) × Runs leads first (entries h) value). inl x)
            (λ (x : (j : ℕ) × (u : View T E) × (get_elem? s.views j ≡ some u) × (u.come ≡ true)).
            let off : x.0 ≢ id = λ e. let alike : v ≡ x.1 = some-injective v x.1 (sym at ∙ (ap (λ j. get_elem? s.views j) (sym e) ∙ x.2)) in let c : v.come ≡ true = ap (λ y. y.come) alike ∙ x.3 in cc (c, rest.1) in
            let off' : x.0 ≢ other = λ e. let alike : w ≡ x.1 = some-injective w x.1 (sym there' ∙ (ap (λ j. get_elem? s.views j) (sym e) ∙ x.2)) in let c : w.come ≡ true = ap (λ y. y.come) alike ∙ x.3 in cc (c, rest'.1) in
            inr (x.0, x.1, set_else vs other x.0 o off' ∙ (set_else s.views id x.0 b off ∙ x.2), x.3)) r.value;
      }
    where
      longer_of : (xs ys h : List (Entered E)) → IsPrefix xs h → IsPrefix ys h → IsPrefix (longer xs ys) h × IsPrefix xs (longer xs ys) × IsPrefix ys (longer xs ys)
      longer_of xs ys h p q = dite (dec_le (length ys) (length xs))
          (λ l. let e : ltb (length xs) (length ys) ≡ false = grind (arith, nat_tests) in subst (λ (z : Bool). IsPrefix (if z then ys else xs) h × IsPrefix xs (if z then ys else xs) × IsPrefix ys (if z then ys else xs)) (sym e) (p, prefix_self xs, prefix_shorter ys xs h q p l))
          (λ l. let less : length xs < length ys = omega arith in let e : ltb (length xs) (length ys) ≡ true = grind (arith, nat_tests) in
          subst (λ (z : Bool). IsPrefix (if z then ys else xs) h × IsPrefix xs (if z then ys else xs) × IsPrefix ys (if z then ys else xs)) (sym e) (q, prefix_shorter xs ys h p q (omega arith), prefix_self ys))

  -- at the end a view with all numbers has seen all, and has all of it under its numbers
  pub closes : (id : ℕ) (v : View T E) (words : List ℕ) (slots : List (Slot T E)) → IsResting v → HoldsAll passes v.shares → Final (Seen (Kept leads first passes) id v) words slots
      → (slot : Slot T E) × (value : T) × (get_elem? slots 0 ≡ some slot) × (slot.value ≡ value) × Runs leads first (entries v.seen) value
      × AreOwn v.seen v.shares × AreBelow passes v.seen × ((k : ℕ) → held k v.shares ≡ below k passes)
  closes id v words slots rest all final = let s : State (Slot T E) (View T E) = final.0 in let r : Kept leads first passes s = final.1.0 in let at = final.1.1 in let f = r.each_view id v at in
      let h : List (Entered E) = r.history in let many = as_many passes v.shares all in
      let others : (j : ℕ) (u : View T E) → j ≢ id → get_elem? s.views j ≡ some u → length u.shares ≡ 0 =
      λ j u n at'. let two = total_two (λ (x : View T E). length x.shares) s.views j id u v n at' at in let w = r.whole in omega arith in
      let held_all : (k : ℕ) → held k v.shares ≡ below k passes =
      λ k. sym (total_alone (λ (x : View T E). held k x.shares) s.views id v at (λ j u n at'. let z = others j u n at' in let y = held_short k u.shares in omega arith)) ∙ r.numbers k in
      let home : (slot : Slot T E) × (value : T) × (get_elem? s.homes 0 ≡ some (some slot)) × (slot.value ≡ value) × Runs leads first (entries h) value =
      ⊎_elim (λ (x : (slot : Slot T E) × (value : T) × (get_elem? s.homes 0 ≡ some (some slot)) × (slot.value ≡ value) × Runs leads first (entries h) value). x)
      (λ (out : (j : ℕ) × (u : View T E) × (get_elem? s.views j ≡ some u) × (u.come ≡ true)). dite (ℕ_discrete out.0 id)
      (λ e. let alike : v ≡ out.1 = some-injective v out.1 (sym at ∙ (ap (λ j. get_elem? s.views j) (sym e) ∙ out.2)) in let c : v.come ≡ true = ap (λ x. x.come) alike ∙ out.3 in absurd (cc (c, rest.1)))
      (λ n. let z = others out.0 out.1 n out.2 in let fu = r.each_view out.0 out.1 out.2 in let one : length out.1.tickets ≡ 1 = ap length (fu.come out.3).0 in let q = fu.queued in absurd (omega arith))) r.value in
      let whole : v.seen ≡ h = nothing_more v.seen f.seen.0 (below_rest passes v.seen f.seen.0 (subst (AreBelow passes) (sym f.seen.1) r.taken))
      (λ k l. let e = held_all k in let b = below_one k passes l in
      own_agree v.seen h v.shares k (omega arith) f.own_seen f.own ∙ ap (entries_by k) (sym f.seen.1)) ∙ f.seen.1 in
      (home.0, home.1, final.4 0 home.0 home.2, home.3, subst (λ (l : List (Entered E)). Runs leads first (entries l) home.1) (sym whole) home.4, f.own_seen, subst (AreBelow passes) (sym whole) r.taken, held_all)
    where
      nothing_more : (seen more : List (Entered E)) → AreBelow passes more → ((k : ℕ) → k < passes → entries_by k seen ≡ entries_by k (seen ++ more)) → seen ≡ seen ++ more
      nothing_more seen [] low agree = sym (append-nil seen)
      nothing_more seen (t ∷ ts) low agree = let e = ap length (agree t.by low.0 ∙ by-append t.by seen (t ∷ ts)) in let l = length-append (entries_by t.by seen) (entries_by t.by (t ∷ ts)) in
          let here : length (entries_by t.by (t ∷ ts)) ≡ length (t.entry ∷ entries_by t.by ts) = ap (λ z. length (if z then t.entry ∷ entries_by t.by ts else entries_by t.by ts)) (eq-eqb t.by t.by refl) in absurd (omega arith)
