-- What comes after what a pass has seen has none of its turns. Runs go on and have parts.
use Rattle.std.proofs.Common.{◌≡◌, ℕ, List, [], ◌∷◌, ◌++◌, length, refl, ap, sym, subst, ◌∙◌, arith, length-append}
use mathlib.Core.Logic.{dite}
use native.Mathlib.Decide.{ℕ_discrete}
use Rattle.history_lock.specs.declared.board.Entered.{Entered}
use Rattle.history_lock.specs.declared.board.Share.{Share}
use Rattle.history_lock.specs.History.{entered, entries_by, grown, AreOwn, Runs}
use Rattle.history_lock.specs.Laws.{NoneHeld, NoneBetween, NoneNew, GoesOn, Parts}
use Rattle.history_lock.proofs.Lists.{same_else}
use Rattle.history_lock.proofs.Histories.{by-append, by_here, by_else, held_own, own_agree}

nothing : {A : Type 0} (xs : List A) → length xs ≡ 0 → xs ≡ []
nothing [] h = refl
nothing (x ∷ xs) h = absurd (omega arith)

module _ {E : Type 0} where
  -- a longer history that has the same entries under a number adds none
  none_more : (k : ℕ) (h more : List (Entered E)) → entries_by k h ≡ entries_by k (h ++ more) → entries_by k more ≡ []
  none_more k h more e = let l = ap length (e ∙ by-append k h more) in nothing (entries_by k more) (omega (arith, l, length-append (entries_by k h) (entries_by k more)))

  pub none_between : (h between : List (Entered E)) (ss : List (Share E)) (e : E) → NoneBetween h between ss e
  none_between h between [] e own own' k some = absurd (omega arith)
  none_between h between (s ∷ ss) e own own' k some =
      let n : ℕ = s.number in let h' : List (Entered E) = (h ++ between) ++ entered n e ∷ [] in
      let before : AreOwn h (s ∷ ss) = held_own h (s ∷ ss) own in let after : AreOwn h' (grown e (s ∷ ss)) = held_own h' (grown e (s ∷ ss)) own' in
      dite (ℕ_discrete k n)
      (λ is. let whole : s.own ++ e ∷ [] ≡ (entries_by n h ++ entries_by n between) ++ e ∷ [] = after.0 ∙ (by_here n (h ++ between) e ∙ ap (λ (w : List E). w ++ e ∷ []) (by-append n h between)) in
      let mine = ap length before.0 in let all = ap length whole in
      ap (λ (j : ℕ). entries_by j between) is ∙ nothing (entries_by n between)
      (omega (arith, mine, all, length-append s.own (e ∷ []), length-append (entries_by n h ++ entries_by n between) (e ∷ []), length-append (entries_by n h) (entries_by n between))))
      (λ other. let z = same_else k n other in
      none_more k h between (own_agree h h' ss k (omega arith) before.1 after.1 ∙ by_else k n (h ++ between) e (λ i. other (sym i))))

  own_left : (h : List (Entered E)) (ss ts : List (Share E)) → AreOwn h (ss ++ ts) → AreOwn h ss
  own_left h [] ts a = tt
  own_left h (s ∷ ss) ts a = (a.0, own_left h ss ts a.1)

  own_right : (h : List (Entered E)) (ss ts : List (Share E)) → AreOwn h (ss ++ ts) → AreOwn h ts
  own_right h [] ts a = a
  own_right h (s ∷ ss) ts a = own_right h ss ts a.1

  none_new : (h more : List (Entered E)) (ss : List (Share E)) → AreOwn h ss → AreOwn (h ++ more) ss → NoneHeld ss more
  none_new h more ss a b k some = none_more k h more (own_agree h (h ++ more) ss k some a b)

  pub none_met : (h more : List (Entered E)) (ss : List (Share E)) → NoneNew h more ss ss
  none_met h more ss a b = none_new h more ss (held_own h ss a) (held_own (h ++ more) ss b)

  pub none_joining : (h more : List (Entered E)) (ss ts : List (Share E)) → NoneNew h more ss (ss ++ ts)
  none_joining h more ss ts a b = none_new h more ss (held_own h ss a) (own_left (h ++ more) ss ts (held_own (h ++ more) (ss ++ ts) b))

  pub none_joined : (h more : List (Entered E)) (ss ts : List (Share E)) → NoneNew h more ss (ts ++ ss)
  none_joined h more ss ts a b = none_new h more ss (held_own h ss a) (own_right (h ++ more) ts ss (held_own (h ++ more) (ts ++ ss) b))

module _ {T E : Type 0} (leads : T → E → T → Type 0) where
  pub runs-append : (first : T) (es : List E) (mid : T) (fs : List E) (last : T) → GoesOn leads first es mid fs last
  runs-append first [] mid fs last r q = subst (λ x. Runs leads x fs last) (sym r) q
  runs-append first (e ∷ es) mid fs last r q = (r.0, r.1, runs-append r.0 es mid fs last r.2 q)

  pub runs_parts : (first : T) (es fs : List E) (last : T) → Parts leads first es fs last
  runs_parts first [] fs last r = (first, refl, r)
  runs_parts first (e ∷ es) fs last r = let q = runs_parts r.0 es fs last r.2 in (q.0, (r.0, r.1, q.1), q.2)
