-- Each step of a turn keeps the rule, and tells its seat what its play says.
use Rattle.std.proofs.Common.{◌≡◌, ◌≢◌, ℕ, ◌+◌, ◌*◌, ◌%◌, ◌^◌, ◌<◌, true, false, List, [], ◌∷◌, ◌++◌, length, get_or, set, refl, ap, sym, subst, ◌∙◌, arith, inl, inr, ⊎_elim, Some, length-set, length-append, get_or-set_other, get_or-set_same}
use mathlib.Core.Logic.{dite}
use mathlib.Core.Option.{none, some, some-injective}
use mathlib.Core.Option as maybe
use mathlib.Core.List.{IsPrefix}
use native.Mathlib.Decide.{ℕ_discrete}
use lib.ListN.{get_elem?}
use lib.Seq.{set-get_or}
use Rattle.atomic_table.specs.Table.{State, Me, step, keeps, takes, gives, stepped, Allows}
use Rattle.atomic_table.proofs.Lists.{set_here}
use Rattle.history_lock.specs.declared.board.Entered.{Entered}
use Rattle.history_lock.specs.declared.board.Share.{Share}
use Rattle.history_lock.specs.declared.board.Slot.{Slot}
use Rattle.history_lock.specs.declared.chosen.Chosen.{Chosen}
use Rattle.history_lock.specs.declared.board.View.{View}
use Rattle.history_lock.specs.History.{entered, entries, same, held, AreOwn, Runs, grown}
use Rattle.history_lock.specs.Rule.{below, times, AreBegun, AreCounted, Fits, IsKeptValue, Kept}
use Rattle.history_lock.specs.Told.{IsResting, waiting, arrived, announcing, publishing, settled, AreSeen, drew, looked, announced, published, settles}
use Rattle.history_lock.proofs.Lists.{total_set, prefix_self, prefix_shorter, same_here, below_next}
use Rattle.history_lock.proofs.Histories.{by_here, by_else, below_snoc, own_moves, counted_moves}
use Rattle.history_lock.proofs.Views.{each_set, at_length, fits_words, fits_grows, is_served, comes_alone, numbers_apart, held_once, value_stays}

seen_of : {A : Type 0} (xs : List (List A)) (seen history : List A) → IsPrefix seen history → AreBegun xs history → AreSeen xs seen
seen_of [] seen history p b = tt
seen_of (x ∷ xs) seen history p b = ((λ le. prefix_shorter x seen history b.0 p le), seen_of xs seen history p b.1)

module _ {T E : Type 0} (leads : T → E → T → Type 0) (first : T) (passes : ℕ) where
  -- one view moves, and the history stands
  reviews : (s : State (Slot T E) (View T E)) (r : Kept leads first passes s) (id : ℕ) (v w : View T E) (words' : List ℕ) (homes' : List (maybe.Option (Slot T E))) (drawn' : ℕ)
      → get_elem? s.views id ≡ some v → length words' ≡ length s.words → length homes' ≡ length s.homes → get_or words' 0 0 ≡ drawn' % 2 ^ 64 → get_or words' 16 0 ≡ get_or s.words 16 0
      → Fits first passes r.history words' w → ((j : ℕ) (u : View T E) → j ≢ id → get_elem? s.views j ≡ some u → Fits first passes r.history words' u)
      → ((n : ℕ) → times n w.tickets + below n r.drawn ≡ times n v.tickets + below n drawn') → length w.tickets + r.drawn ≡ length v.tickets + drawn' → w.shares ≡ v.shares
      → IsKeptValue leads first r.history (let t : State (Slot T E) (View T E) = record { words = words'; homes = homes'; views = set s.views id w } in t)
      → Kept leads first passes (let t : State (Slot T E) (View T E) = record { words = words'; homes = homes'; views = set s.views id w } in t)
  reviews s r id v w words' homes' drawn' at wide deep ticket serving mine others fair count same_shares value = record {
    history = r.history;
    drawn = drawn';
    few = r.few;
    wide = wide ∙ r.wide;
    deep = deep ∙ r.deep;
    ticket = ticket;
    serving = serving ∙ r.serving;
    each_view = each_set (Fits first passes r.history words') s.views id w mine others;
    tickets = λ n. let t = total_set (λ (u : View T E). times n u.tickets) s.views id v w at in let f = fair n in let q = r.tickets n in omega arith;
    queue = let t = total_set (λ (u : View T E). length u.tickets) s.views id v w at in let q = r.queue in omega arith;
    numbers = λ k. let t = total_set (λ (u : View T E). held k u.shares) s.views id v w at in let e : held k w.shares ≡ held k v.shares = ap (held k) same_shares in let q = r.numbers k in omega arith;
    whole = let t = total_set (λ (u : View T E). length u.shares) s.views id v w at in let e : length w.shares ≡ length v.shares = ap length same_shares in let q = r.whole in omega arith;
    taken = r.taken;
    value = value;
  }

  pub draws : (slots id : ℕ) (me : Me (Slot T E) (View T E)) → IsResting me.0 → 0 < length me.0.shares
      → Allows (Kept leads first passes) slots id me 0 (λ n. (n + 1) % 2 ^ 64) (drew (step slots 0 1 0 none) me)
  draws slots id me rest some_share s r deep at fits = let v : View T E = me.0 in let w : View T E = waiting v r.drawn in let x : ℕ = (get_or s.words 0 0 + 1) % 18446744073709551616 in
      let wide = r.wide in let ticket = r.ticket in let f = r.each_view id v at in let words' : List ℕ = set s.words 0 x in
      let apart : (k : ℕ) → get_or words' ((k + 2) * 16) 0 ≡ get_or s.words ((k + 2) * 16) 0 = λ k. get_or-set_other s.words 0 ((k + 2) * 16) x 0 (λ e. omega arith) in
      let one : length (r.drawn ∷ []) ≡ 1 = refl in let empty : length v.tickets ≡ 0 = ap length rest.0 in (
        w,
        keeps,
        tt,
        reviews s r id v w words' s.homes (r.drawn + 1) at (length-set s.words 0 x) refl (get_or-set_same s.words 0 x 0 (omega arith) ∙ (let e : x ≡ (r.drawn + 1) % 18446744073709551616 = omega arith in e))
            (get_or-set_other s.words 0 16 x 0 (λ e. omega arith))
            record {
              first_is = f.first_is;
              seen = f.seen;
              noted = f.noted;
              come = λ c. absurd (cc (c, rest.1));
              announced = f.announced;
              own = f.own;
              own_seen = f.own_seen;
              counted = counted_moves passes s.words words' (length v.announced) v.shares (λ k _. apart k) f.counted;
              queued = omega arith;
            }
            (λ j u n at'. fits_words r.history s.words words' u (r.each_view j u at') (λ k _. apart k))
            (λ n. let b = below_next n r.drawn in let e : times n v.tickets ≡ 0 = ap (times n) rest.0 in omega arith) (omega arith) refl (value_stays leads first passes s r.history id v w words' at refl r.value),
        (r.drawn, ticket, refl),
      )

  -- the slot is at home where the turn of the ticket that is served has not come
  at_home : (s : State (Slot T E) (View T E)) (r : Kept leads first passes s) (id : ℕ) (v : View T E) → get_elem? s.views id ≡ some v → v.come ≡ false → v.tickets ≡ length r.history ∷ []
      → (slot : Slot T E) × (value : T) × (get_elem? s.homes 0 ≡ some (some slot)) × (slot.value ≡ value) × Runs leads first (entries r.history) value
  at_home s r id v at waits is = ⊎_elim (λ (x : (slot : Slot T E) × (value : T) × (get_elem? s.homes 0 ≡ some (some slot)) × (slot.value ≡ value) × Runs leads first (entries r.history) value). x)
      (λ (out : (j : ℕ) × (u : View T E) × (get_elem? s.views j ≡ some u) × (u.come ≡ true)). dite (ℕ_discrete out.0 id)
      (λ e. let alike : v ≡ out.1 = some-injective v out.1 (sym at ∙ (ap (λ j. get_elem? s.views j) (sym e) ∙ out.2)) in let c : v.come ≡ true = ap (λ x. x.come) alike ∙ out.3 in absurd (cc (c, waits)))
      (λ n. let c = comes_alone leads first passes s r id v at is out.0 out.1 n out.2 in absurd (cc (c, out.3)))) r.value

  pub looks : (slots id : ℕ) (me : Me (Slot T E) (View T E)) (t : ℕ) → me.0.tickets ≡ t ∷ [] → me.0.first ≡ Some first → me.0.come ≡ false → me.1 ≡ []
      → Allows (Kept leads first passes) slots id me 16 (λ n. n) (looked leads (step slots 16 0 0 none) me)
  looks slots id me t is opened waits bare s r deep at fits = let v : View T E = me.0 in let n : ℕ = get_or s.words 16 0 in let words' : List ℕ = set s.words 16 n in let f = r.each_view id v at in
      let same_words : words' ≡ s.words = set-get_or s.words 16 0 in let as_before = λ (k : ℕ). ap (λ (ws : List ℕ). get_or ws k 0) same_words in let serving = r.serving in dite (ℕ_discrete (length r.history) t)
      (λ e. let mine : v.tickets ≡ length r.history ∷ [] = is ∙ ap (λ (k : ℕ). k ∷ []) (sym e) in let home = at_home s r id v at waits mine in let slot : Slot T E = home.0 in let w : View T E = arrived v r.history in (
        w,
        takes 0 slot,
        home.2,
        reviews s r id v w words' (set s.homes 0 none) r.drawn at (length-set s.words 16 n) (length-set s.homes 0 none) (as_before 0 ∙ r.ticket) (as_before 16)
            record {
              first_is = f.first_is;
              seen = prefix_self r.history;
              noted = f.noted;
              come = λ _. (mine, refl);
              announced = λ c. absurd (cc c);
              own = f.own;
              own_seen = f.own;
              counted = counted_moves passes s.words words' (length v.announced) v.shares (λ k _. as_before ((k + 2) * 16)) f.counted;
              queued = f.queued;
            }
            (λ j u apart at'. fits_words r.history s.words words' u (r.each_view j u at') (λ k _. as_before ((k + 2) * 16))) (λ _. refl) refl refl
            (inr (id, w, set_here s.views id w (at_length s.views id v at), refl)),
        λ t' first' is' opened'. let alike : t ≡ t' = cc (is, is') in let alike' : first ≡ first' = cc (opened, opened') in (
          (λ _. (r.history, slot, home.1, f.seen, ap (λ (c : List (ℕ × Slot T E)). (w, (0, slot) ∷ c)) bare, home.3, subst (λ (x : T). Runs leads x (entries r.history) home.1) alike' home.4)),
          λ miss. absurd (miss (serving ∙ ap (λ (k : ℕ). k % 18446744073709551616) (e ∙ alike))),
        ),
      ))
      (λ ne. (
        v,
        keeps,
        tt,
        reviews s r id v v words' s.homes r.drawn at (length-set s.words 16 n) refl (as_before 0 ∙ r.ticket) (as_before 16)
            (fits_words r.history s.words words' v f (λ k _. as_before ((k + 2) * 16))) (λ j u apart at'. fits_words r.history s.words words' u (r.each_view j u at') (λ k _. as_before ((k + 2) * 16))) (λ _. refl) refl refl
            (value_stays leads first passes s r.history id v v words' at refl r.value),
        λ t' first' is' opened'. let alike : t ≡ t' = cc (is, is') in (
          (λ hit. absurd (ne (is_served leads first passes s r id v t at is (sym serving ∙ (hit ∙ ap (λ (k : ℕ). k % 18446744073709551616) (sym alike)))))),
          λ _. refl,
        ),
      ))

  pub settles_noted : (slots id : ℕ) (me : Me (Slot T E) (View T E)) → me.0.come ≡ false → Allows (Kept leads first passes) slots id me 16 (λ n. n) (settles (step slots 16 0 0 none) me)
  settles_noted slots id me waits s r deep at fits = let v : View T E = me.0 in let n : ℕ = get_or s.words 16 0 in let words' : List ℕ = set s.words 16 n in let f = r.each_view id v at in let w : View T E = settled v in
      let same_words : words' ≡ s.words = set-get_or s.words 16 0 in let as_before = λ (k : ℕ). ap (λ (ws : List ℕ). get_or ws k 0) same_words in (
        w,
        keeps,
        tt,
        reviews s r id v w words' s.homes r.drawn at (length-set s.words 16 n) refl (as_before 0 ∙ r.ticket) (as_before 16)
            record {
              first_is = f.first_is;
              seen = f.seen;
              noted = tt;
              come = f.come;
              announced = f.announced;
              own = f.own;
              own_seen = f.own_seen;
              counted = counted_moves passes s.words words' (length v.announced) v.shares (λ k _. as_before ((k + 2) * 16)) f.counted;
              queued = f.queued;
            }
            (λ j u apart at'. fits_words r.history s.words words' u (r.each_view j u at') (λ k _. as_before ((k + 2) * 16))) (λ _. refl) refl refl (value_stays leads first passes s r.history id v w words' at refl r.value),
        (refl, seen_of v.noted v.seen r.history f.seen f.noted, f.own_seen),
      )

  pub announces : (slots id : ℕ) (me : Me (Slot T E) (View T E)) (k : ℕ) (own : List E) (ss : List (Share E)) (slot : Slot T E) (chosen : Chosen E)
      → me.0.come ≡ true → me.0.announced ≡ [] → me.0.shares ≡ (record { number = k; own = own }) ∷ ss → me.1 ≡ (0, slot) ∷ [] → slot.entry ≡ Some chosen
      → Allows (Kept leads first passes) slots id me ((k + 2) * 16) (λ n. (n + 1) % 2 ^ 64) (announced (step slots ((k + 2) * 16) 1 0 none) me)
  announces slots id me k own ss slot chosen here quiet shares carried noted s r deep at fits = let v : View T E = me.0 in let e : E = chosen.entry in
      let n : ℕ = get_or s.words ((k + 2) * 16) 0 in let x : ℕ = (n + 1) % 18446744073709551616 in let words' : List ℕ = set s.words ((k + 2) * 16) x in let w : View T E = announcing v e in
      let f = r.each_view id v at in let wide = r.wide in let share : Share E = record { number = k; own = own } in
      let counted : AreCounted passes s.words 0 (share ∷ ss) = subst (AreCounted passes s.words 0) shares (subst (λ (a : List E). AreCounted passes s.words (length a) v.shares) quiet f.counted) in
      let inside = counted.0 in let count : n ≡ (length own + 0) % 18446744073709551616 = counted.1 in
      let once = held_once leads first passes s r id v k at in let all : held k v.shares ≡ same k k + held k ss = ap (held k) shares in let mine = same_here k k refl in
      let apart : (j : ℕ) → j ≢ k → get_or words' ((j + 2) * 16) 0 ≡ get_or s.words ((j + 2) * 16) 0 = λ j other. get_or-set_other s.words ((k + 2) * 16) ((j + 2) * 16) x 0 (λ i. other (omega arith)) in (
        w,
        keeps,
        tt,
        reviews s r id v w words' s.homes r.drawn at (length-set s.words ((k + 2) * 16) x) refl (get_or-set_other s.words ((k + 2) * 16) 0 x 0 (λ i. omega arith) ∙ r.ticket) (get_or-set_other s.words ((k + 2) * 16) 16 x 0 (λ i. omega arith))
            record {
              first_is = f.first_is;
              seen = f.seen;
              noted = f.noted;
              come = f.come;
              announced = λ c. absurd (cc (c, here));
              own = f.own;
              own_seen = f.own_seen;
              counted = subst (AreCounted passes words' 1) (sym shares) (
                inside,
                get_or-set_same s.words ((k + 2) * 16) x 0 (omega arith) ∙ (let g : x ≡ (length own + 1) % 18446744073709551616 = omega arith in g),
                counted_moves passes s.words words' 0 ss (λ j l. apart j (λ i. let z : held k ss ≡ held j ss = ap (λ (q : ℕ). held q ss) (sym i) in omega arith)) counted.2,
              );
              queued = f.queued;
            }
            (λ j u other at'. fits_words r.history s.words words' u (r.each_view j u at')
            (λ q l. apart q (λ i. numbers_apart leads first passes s r j id u v k other at' at (let z : held q u.shares ≡ held k u.shares = ap (λ (y : ℕ). held y u.shares) i in omega arith) (omega arith))))
            (λ _. refl) refl refl (value_stays leads first passes s r.history id v w words' at refl r.value),
        λ slot' chosen' carried' noted'.
            let pair : ℕ × Slot T E = (0, slot) in let pair' : ℕ × Slot T E = (0, slot') in let lists : pair ∷ [] ≡ pair' ∷ [] = sym carried ∙ carried' in let pairs : pair ≡ pair' = cc (lists) in
            let alike : chosen ≡ chosen' = cc (ap (λ (y : ℕ × Slot T E). y.1.entry) pairs, noted, noted') in (λ i. (announcing v (alike i).entry, me.1)),
      )

  pub publishes : (slots id : ℕ) (me : Me (Slot T E) (View T E)) (k : ℕ) (own : List E) (ss : List (Share E)) (e : E) (slot : Slot T E) (value : T)
      → me.0.come ≡ true → me.0.announced ≡ e ∷ [] → me.0.shares ≡ (record { number = k; own = own }) ∷ ss → me.1 ≡ (0, slot) ∷ [] → slot.value ≡ value
      → Runs leads first (entries (me.0.seen ++ entered k e ∷ [])) value
      → Allows (Kept leads first passes) slots id me 16 (λ n. (n + 1) % 2 ^ 64) (published (step slots 16 1 0 none) me)
  publishes slots id me k own ss e slot value here loud shares carried there runs s r deep at fits = let v : View T E = me.0 in let h : List (Entered E) = r.history in let h' : List (Entered E) = h ++ entered k e ∷ [] in
      let n : ℕ = get_or s.words 16 0 in let x : ℕ = (n + 1) % 18446744073709551616 in let words' : List ℕ = set s.words 16 x in let homes' : List (maybe.Option (Slot T E)) = set s.homes 0 (some slot) in
      let f = r.each_view id v at in let wide = r.wide in let deep' = r.deep in let share : Share E = record { number = k; own = own } in let come = f.come here in
      let w : View T E = publishing v e in
      let long : length h' ≡ length h + 1 = length-append h (entered k e ∷ []) in
      let seen : w.seen ≡ h' = λ i. come.1 i ++ entered (ap (Rattle.history_lock.specs.History.number_of) shares i) e ∷ [] in
      let grew : w.shares ≡ (record { number = k; own = own ++ e ∷ [] }) ∷ ss = ap (grown e) shares in
      let counted : AreCounted passes s.words 1 (share ∷ ss) = subst (AreCounted passes s.words 1) shares (subst (λ (a : List E). AreCounted passes s.words (length a) v.shares) loud f.counted) in
      let owns : AreOwn h (share ∷ ss) = subst (AreOwn h) shares f.own in
      let once = held_once leads first passes s r id v k at in let all : held k v.shares ≡ same k k + held k ss = ap (held k) shares in let mine = same_here k k refl in
      let apart : (j : ℕ) → get_or words' ((j + 2) * 16) 0 ≡ get_or s.words ((j + 2) * 16) 0 = λ j. get_or-set_other s.words 16 ((j + 2) * 16) x 0 (λ i. omega arith) in
      let owns' : AreOwn h' ((record { number = k; own = own ++ e ∷ [] }) ∷ ss) =
      (ap (λ (l : List E). l ++ e ∷ []) owns.0 ∙ sym (by_here k h e), own_moves h h' ss (λ j l. by_else j k h e (λ i. let z : held k ss ≡ held j ss = ap (λ (q : ℕ). held q ss) i in omega arith)) owns.1) in
      let serving = r.serving in let longer_own : length (own ++ e ∷ []) ≡ length own + 1 = length-append own (e ∷ []) in
      let s' : State (Slot T E) (View T E) = record { words = words'; homes = homes'; views = set s.views id w } in
      let own_seen : AreOwn w.seen w.shares = subst (λ (y : List (Entered E) × List (Share E)). AreOwn y.0 y.1) (λ i. (sym seen i, sym grew i)) owns' in
      let kept : Kept leads first passes s' = record {
        history = h';
        drawn = r.drawn;
        few = r.few;
        wide = length-set s.words 16 x ∙ r.wide;
        deep = length-set s.homes 0 (some slot) ∙ r.deep;
        ticket = get_or-set_other s.words 16 0 x 0 (λ i. omega arith) ∙ r.ticket;
        serving = get_or-set_same s.words 16 x 0 (omega arith) ∙ (let g : x ≡ length h' % 18446744073709551616 = omega arith in g);
        each_view = each_set (Fits first passes h' words') s.views id w
            record {
              first_is = f.first_is;
              seen = subst (λ (l : List (Entered E)). IsPrefix l h') (sym seen) (prefix_self h');
              noted = Rattle.history_lock.proofs.Histories.begun_grows v.noted h h' (entered k e ∷ [], refl) f.noted;
              come = λ c. absurd (cc c);
              announced = λ _. refl;
              own = subst (AreOwn h') (sym grew) owns';
              own_seen = own_seen;
              counted = subst (AreCounted passes words' 0) (sym grew)
                  (counted.0, apart k ∙ (counted.1 ∙ ap (λ (q : ℕ). q % 18446744073709551616) (omega arith)), counted_moves passes s.words words' 0 ss (λ j _. apart j) counted.2);
              queued = omega arith;
            }
            (λ j u other at'. fits_grows h h' s.words words' u (entered k e ∷ [], refl) (comes_alone leads first passes s r id v at come.0 j u other at') (r.each_view j u at')
            (λ q l. (apart q, by_else q k h e (λ i. numbers_apart leads first passes s r j id u v k other at' at (let z : held q u.shares ≡ held k u.shares = ap (λ (y : ℕ). held y u.shares) (sym i) in omega arith) (omega arith)))));
        tickets = λ q. let t = total_set (λ (u : View T E). times q u.tickets) s.views id v w at in let old : times q v.tickets ≡ same q (length h) + 0 = ap (times q) come.0 in
            let b = below_next q (length h) in let b' : below q (length h') ≡ below q (length h + 1) = ap (below q) long in let a = r.tickets q in omega arith;
        queue = let t = total_set (λ (u : View T E). length u.tickets) s.views id v w at in let old : length v.tickets ≡ 1 = ap length come.0 in let a = r.queue in omega arith;
        numbers = λ q. let t = total_set (λ (u : View T E). held q u.shares) s.views id v w at in let old : held q v.shares ≡ same q k + held q ss = ap (held q) shares in
            let new : held q w.shares ≡ same q k + held q ss = ap (held q) grew in let a = r.numbers q in omega arith;
        whole = let t = total_set (λ (u : View T E). length u.shares) s.views id v w at in let old : length v.shares ≡ length (share ∷ ss) = ap length shares in let new : length w.shares ≡ length (share ∷ ss) = ap length grew in let a = r.whole in omega arith;
        taken = below_snoc passes h (entered k e) r.taken counted.0;
        value = inl (slot, value, set_here s.homes 0 (some slot) (omega arith), there, subst (λ (l : List (Entered E)). Runs leads first (entries (l ++ entered k e ∷ [])) value) come.1 runs);
      } in (
        w,
        gives,
        tt,
        subst (λ (cs : List (ℕ × Slot T E)). Kept leads first passes (stepped s 16 x id cs w gives)) (sym carried) kept,
        λ e' loud'. let alike : e ≡ e' = cc (loud, loud') in ((λ i. (publishing v (alike i), Rattle.atomic_table.specs.Table.rest (carried i))), own_seen),
      )
