-- Histories that grow, and the shares of those who made them.
use Rattle.std.proofs.Common.{◌≡◌, ◌≢◌, ℕ, zero, suc, ◌+◌, ◌*◌, ◌<◌, ◌≤◌, if◌then◌else◌, List, [], ◌∷◌, ◌++◌, length, get_or, refl, ap, sym, subst, ◌∙◌, arith, length-append, eq-eqb, ne_eqb}
use Rattle.std.proofs.lemmas.List.{append-nil}
use mathlib.Core.Logic.{dite}
use mathlib.Core.List.{IsPrefix}
use native.Mathlib.Decide.{ℕ_discrete}
use Rattle.history_lock.specs.declared.board.Entered.{Entered}
use Rattle.history_lock.specs.declared.board.Share.{Share}
use Rattle.history_lock.specs.History.{entered, entries_by, held, HoldsAll, AreOwn, HoldsOwn, AreBelow, Runs, grown}
use Rattle.history_lock.specs.Rule.{below, AreBegun, AreCounted}
use Rattle.history_lock.proofs.Lists.{same_here, same_else, same_turned, below_next, below_not, below_at_most, prefix_trans, prefix_whole}

module _ {E : Type 0} where
  pub by-append : (k : ℕ) (xs ys : List (Entered E)) → entries_by k (xs ++ ys) ≡ entries_by k xs ++ entries_by k ys
  by-append k [] ys = refl
  by-append k (x ∷ xs) ys = dite (ℕ_discrete x.by k) (λ e. let b = eq-eqb x.by k e in rw (b, by-append k xs ys)) (λ e. let b = ne_eqb x.by k e in rw (b, by-append k xs ys))

  pub by_here : (k : ℕ) (xs : List (Entered E)) (e : E) → entries_by k (xs ++ entered k e ∷ []) ≡ entries_by k xs ++ e ∷ []
  by_here k xs e = by-append k xs (entered k e ∷ []) ∙ ap (λ b. entries_by k xs ++ (if b then e ∷ [] else [])) (eq-eqb k k refl)

  pub by_else : (j k : ℕ) (xs : List (Entered E)) (e : E) → k ≢ j → entries_by j (xs ++ entered k e ∷ []) ≡ entries_by j xs
  by_else j k xs e n = by-append j xs (entered k e ∷ []) ∙ (ap (λ b. entries_by j xs ++ (if b then e ∷ [] else [])) (ne_eqb k j n) ∙ append-nil (entries_by j xs))

  pub by_prefix : (k : ℕ) (xs ys : List (Entered E)) → IsPrefix xs ys → IsPrefix (entries_by k xs) (entries_by k ys)
  by_prefix k xs ys p = (entries_by k p.0, sym (by-append k xs p.0) ∙ ap (entries_by k) p.1)

  -- a history between two others that agree under a number agrees with them
  pub by_between : (k : ℕ) (xs ys zs : List (Entered E)) → IsPrefix xs ys → IsPrefix ys zs → entries_by k xs ≡ entries_by k zs → entries_by k ys ≡ entries_by k zs
  by_between k xs ys zs p q e = let a = by_prefix k xs ys p in let b = by_prefix k ys zs q in
      let la : length (entries_by k xs) + length a.0 ≡ length (entries_by k ys) = sym (length-append (entries_by k xs) a.0) ∙ ap length a.1 in
      let le : length (entries_by k xs) ≡ length (entries_by k zs) = ap length e in
      prefix_whole (entries_by k ys) (entries_by k zs) b (omega arith)

  pub below_snoc : (n : ℕ) (xs : List (Entered E)) (t : Entered E) → AreBelow n xs → t.by < n → AreBelow n (xs ++ t ∷ [])
  below_snoc n [] t a l = (l, tt)
  below_snoc n (x ∷ xs) t a l = (a.0, below_snoc n xs t a.1 l)

  pub below_rest : (n : ℕ) (xs ys : List (Entered E)) → AreBelow n (xs ++ ys) → AreBelow n ys
  below_rest n [] ys a = a
  below_rest n (x ∷ xs) ys a = below_rest n xs ys a.1

  pub own_moves : (h h' : List (Entered E)) (ss : List (Share E)) → ((k : ℕ) → 0 < held k ss → entries_by k h' ≡ entries_by k h) → AreOwn h ss → AreOwn h' ss
  own_moves h h' [] agree own = tt
  own_moves h h' (s ∷ ss) agree own = let here = same_here s.number s.number refl in
      (own.0 ∙ sym (agree s.number (omega arith)), own_moves h h' ss (λ k l. agree k (omega arith)) own.1)

  -- the shares' own lists as one equation, and back
  pub own_held : (h : List (Entered E)) (ss : List (Share E)) → AreOwn h ss → HoldsOwn h ss
  own_held h [] a = refl
  own_held h (s ∷ ss) a = let e = a.0 in let r = own_held h ss a.1 in cc

  pub held_own : (h : List (Entered E)) (ss : List (Share E)) → HoldsOwn h ss → AreOwn h ss
  held_own h [] a = tt
  held_own h (s ∷ ss) a = (cc a, held_own h ss (cc a))

  pub own-append : (h : List (Entered E)) (ss ts : List (Share E)) → AreOwn h ss → AreOwn h ts → AreOwn h (ss ++ ts)
  own-append h [] ts a b = b
  own-append h (s ∷ ss) ts a b = (a.0, own-append h ss ts a.1 b)

  -- under a number that is held, two histories with these shares agree
  pub own_agree : (h h' : List (Entered E)) (ss : List (Share E)) (k : ℕ) → 0 < held k ss → AreOwn h ss → AreOwn h' ss → entries_by k h ≡ entries_by k h'
  own_agree h h' [] k l a b = absurd (omega arith)
  own_agree h h' (s ∷ ss) k l a b = dite (ℕ_discrete k s.number) (λ e. ap (λ j. entries_by j h) e ∙ (sym a.0 ∙ (b.0 ∙ ap (λ j. entries_by j h') (sym e))))
      (λ e. let z = same_else k s.number e in own_agree h h' ss k (omega arith) a.1 b.1)

  pub counted_moves : (n : ℕ) (words words' : List ℕ) (a : ℕ) (ss : List (Share E)) → ((k : ℕ) → 0 < held k ss → get_or words' ((k + 2) * 16) 0 ≡ get_or words ((k + 2) * 16) 0) → AreCounted n words a ss → AreCounted n words' a ss
  counted_moves n words words' a [] agree c = tt
  counted_moves n words words' a (s ∷ ss) agree c = let here = same_here s.number s.number refl in
      (c.0, agree s.number (omega arith) ∙ c.1, counted_moves n words words' 0 ss (λ k l. agree k (omega arith)) c.2)

  pub counted-append : (n : ℕ) (words : List ℕ) (ss ts : List (Share E)) → AreCounted n words 0 ss → AreCounted n words 0 ts → AreCounted n words 0 (ss ++ ts)
  counted-append n words [] ts a b = b
  counted-append n words (s ∷ ss) ts a b = (a.0, a.1, counted-append n words ss ts a.2 b)

  pub held-append : (k : ℕ) (ss ts : List (Share E)) → held k (ss ++ ts) ≡ held k ss + held k ts
  held-append k [] ts = omega arith
  held-append k (s ∷ ss) ts = omega (arith, held-append k ss ts)

-- how often the numbers below n stand among shares
abbrev held_below : {E : Type 0} → ℕ → List (Share E) → ℕ
held_below zero ss = 0
held_below (suc n) ss = held n ss + held_below n ss

held_below-none : (E : Type 0) (n : ℕ) → held_below {E = E} n [] ≡ 0
held_below-none E zero = refl
held_below-none E (suc n) = omega (arith, held_below-none E n)

module _ {E : Type 0} where
  held_below-one : (n : ℕ) (s : Share E) (ss : List (Share E)) → held_below n (s ∷ ss) ≡ below s.number n + held_below n ss
  held_below-one zero s ss = let b = below_not s.number 0 (omega arith) in omega arith
  held_below-one (suc n) s ss = let e = held_below-one n s ss in let b = below_next s.number n in let t = same_turned n s.number in
      let next : below s.number (suc n) ≡ below s.number (n + 1) = ap (below s.number) (omega arith) in omega arith

  held_below-few : (n : ℕ) (ss : List (Share E)) → held_below n ss ≤ length ss
  held_below-few n [] = let e = held_below-none E n in omega arith
  held_below-few n (s ∷ ss) = let e = held_below-one n s ss in let b = below_at_most s.number n in let r = held_below-few n ss in omega arith

  -- who holds all numbers has as many
  pub as_many : (n : ℕ) (ss : List (Share E)) → HoldsAll n ss → n ≤ length ss
  as_many n ss all = let few = held_below-few n ss in let much = each n all in omega arith
    where
      each : (m : ℕ) → ((k : ℕ) → k < m → 0 < held k ss) → m ≤ held_below m ss
      each zero all' = omega arith
      each (suc m) all' = let here = all' m (omega arith) in let r = each m (λ k l. all' k (omega arith)) in omega arith

  pub held-grown : (k : ℕ) (e : E) (ss : List (Share E)) → held k (grown e ss) ≡ held k ss
  held-grown k e [] = refl
  held-grown k e (s ∷ ss) = refl

pub grown-length : {E : Type 0} (e : E) (ss : List (Share E)) → length (grown e ss) ≡ length ss
grown-length e [] = refl
grown-length e (s ∷ ss) = omega arith

pub begun_grows : {A : Type 0} (xs : List (List A)) (h h' : List A) → IsPrefix h h' → AreBegun xs h → AreBegun xs h'
begun_grows [] h h' p b = tt
begun_grows (x ∷ xs) h h' p b = (prefix_trans x h h' b.0 p, begun_grows xs h h' p b.1)

pub runs_snoc : {T E : Type 0} (leads : T → E → T → Type 0) (first : T) (es : List E) (mid : T) (e : E) (last : T) → Runs leads first es mid → leads mid e last → Runs leads first (es ++ e ∷ []) last
runs_snoc leads first [] mid e last r l = (last, subst (λ x. leads x e last) (sym r) l, refl)
runs_snoc leads first (x ∷ xs) mid e last r l = (r.0, r.1, runs_snoc leads r.0 xs mid e last r.2 l)
