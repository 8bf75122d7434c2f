-- What a history and the shares of those who made it add up to.
use Rattle.std.proofs.Common.{◌≡◌, ℕ, suc, ◌+◌, ◌*◌, ◌%◌, ◌^◌, ◌<◌, if◌then◌else◌, List, [], ◌∷◌, ◌++◌, length, refl, ap, sym, ◌∙◌, arith, eq-eqb, ne_eqb}
use Rattle.std.proofs.Math.Nat.{suc-mul}
use mathlib.Core.Logic.{dite}
use native.Mathlib.Decide.{ℕ_discrete}
use Rattle.history_lock.specs.declared.board.Entered.{Entered}
use Rattle.history_lock.specs.declared.board.Share.{Share}
use Rattle.history_lock.specs.declared.counter.Counter.{Counter}
use Rattle.history_lock.specs.Counter.{turns_of, added_of}
use Rattle.history_lock.specs.History.{entries, entries_by, same, held, AreOwn, AreBelow, Runs, grown}
use Rattle.history_lock.specs.Rule.{total}
use Rattle.history_lock.proofs.Lists.{same_here, same_else, below_next, below_one, below_not, total_snoc}

module _ {A : Type 0} where
  total-append : (f : A → ℕ) (xs ys : List A) → total f (xs ++ ys) ≡ total f xs + total f ys
  total-append f [] ys = omega arith
  total-append f (x ∷ xs) ys = omega (arith, total-append f xs ys)

  total-same : (f h : A → ℕ) (xs : List A) → ((x : A) → f x ≡ h x) → total f xs ≡ total h xs
  total-same f h [] alike = refl
  total-same f h (x ∷ xs) alike = omega (arith, alike x, total-same f h xs alike)

  total-ones : (xs : List A) → total (λ _. 1) xs ≡ length xs
  total-ones [] = refl
  total-ones (x ∷ xs) = omega (arith, total-ones xs)

module _ {E : Type 0} (f : E → ℕ) where
  -- a turn more weighs with each share of its number
  one_more : (t : Entered E) (ts : List (Entered E)) (ss : List (Share E))
      → total (λ s. total f (entries_by s.number (t ∷ ts))) ss ≡ held t.by ss * f t.entry + total (λ s. total f (entries_by s.number ts)) ss
  one_more t ts [] = omega arith
  one_more t ts (s ∷ ss) = let r = one_more t ts ss in dite (ℕ_discrete t.by s.number)
      (λ e. let here : total f (entries_by s.number (t ∷ ts)) ≡ f t.entry + total f (entries_by s.number ts) = ap (λ b. total f (if b then t.entry ∷ entries_by s.number ts else entries_by s.number ts)) (eq-eqb t.by s.number e) in
      let one = same_here t.by s.number e in let more : held t.by (s ∷ ss) ≡ suc (held t.by ss) = omega arith in
      let all : held t.by (s ∷ ss) * f t.entry ≡ held t.by ss * f t.entry + f t.entry = ap (λ n. n * f t.entry) more ∙ suc-mul (held t.by ss) (f t.entry) in omega arith)
      (λ n. let here : total f (entries_by s.number (t ∷ ts)) ≡ total f (entries_by s.number ts) = ap (λ b. total f (if b then t.entry ∷ entries_by s.number ts else entries_by s.number ts)) (ne_eqb t.by s.number n) in
      let none = same_else t.by s.number n in let as_before : held t.by (s ∷ ss) ≡ held t.by ss = omega arith in
      let all : held t.by (s ∷ ss) * f t.entry ≡ held t.by ss * f t.entry = ap (λ n. n * f t.entry) as_before in omega arith)

  -- where each number is held once, the entries of a history are those under the numbers
  by_numbers : (n : ℕ) (ts : List (Entered E)) (ss : List (Share E)) → AreBelow n ts → ((k : ℕ) → k < n → held k ss ≡ 1) → total (λ s. total f (entries_by s.number ts)) ss ≡ total f (entries ts)
  by_numbers n [] ss low once = none ss
    where
      none : (ss : List (Share E)) → total (λ (s : Share E). 0) ss ≡ 0
      none [] = refl
      none (s ∷ ss) = omega (arith, none ss)
  by_numbers n (t ∷ ts) ss low once = let more = one_more t ts ss in let rest = by_numbers n ts ss low.1 once in
      let one : held t.by ss * f t.entry ≡ 1 * f t.entry = ap (λ k. k * f t.entry) (once t.by low.0) in let unit : 1 * f t.entry ≡ f t.entry = omega arith in omega arith

  own_numbers : (ts : List (Entered E)) (ss : List (Share E)) → AreOwn ts ss → total (λ s. total f s.own) ss ≡ total (λ s. total f (entries_by s.number ts)) ss
  own_numbers ts [] own = refl
  own_numbers ts (s ∷ ss) own = let here : total f s.own ≡ total f (entries_by s.number ts) = ap (total f) own.0 in let rest = own_numbers ts ss own.1 in omega arith

  whole : (n : ℕ) (ts : List (Entered E)) (ss : List (Share E)) → AreBelow n ts → ((k : ℕ) → k < n → held k ss ≡ 1) → AreOwn ts ss → total f (entries ts) ≡ total (λ s. total f s.own) ss
  whole n ts ss low once own = sym (own_numbers ts ss own ∙ by_numbers n ts ss low once)

entries-length : {E : Type 0} (ts : List (Entered E)) → length (entries ts) ≡ length ts
entries-length [] = refl
entries-length (t ∷ ts) = omega (arith, entries-length ts)

-- a history is as long as the lists under its numbers together
pub whole_turns : {E : Type 0} (n : ℕ) (ts : List (Entered E)) (ss : List (Share E)) → AreBelow n ts → ((k : ℕ) → k < n → held k ss ≡ 1) → AreOwn ts ss → length ts ≡ turns_of ss
whole_turns {E} n ts ss low once own =
    sym (total-ones (entries ts) ∙ entries-length ts) ∙ (whole (λ (e : E). 1) n ts ss low once own ∙ total-same (λ (s : Share E). total (λ _. 1) s.own) (λ s. length s.own) ss (λ s. total-ones s.own))

-- and its entries add up to theirs
pub whole_added : (n : ℕ) (ts : List (Entered ℕ)) (ss : List (Share ℕ)) → AreBelow n ts → ((k : ℕ) → k < n → held k ss ≡ 1) → AreOwn ts ss → total (λ e. e) (entries ts) ≡ added_of ss
whole_added = whole (λ e. e)

-- where each step adds its entry, the history adds its entries
pub runs_add : (leads : Counter → ℕ → Counter → Type 0) → ((old : Counter) (e : ℕ) (new : Counter) → leads old e new → new.sum ≡ (old.sum + e) % 2 ^ 64)
    → (first : Counter) (es : List ℕ) (last : Counter) → first.sum < 2 ^ 64 → Runs leads first es last → last.sum ≡ (first.sum + total (λ e. e) es) % 2 ^ 64
runs_add leads adds first [] last small run = let e = ap (λ (c : Counter). c.sum) run in omega arith
runs_add leads adds first (x ∷ xs) last small run = let one = adds first x run.0 run.1 in let r = runs_add leads adds run.0 xs last (omega arith) run.2 in omega arith

pub turns-grown : {E : Type 0} (e : E) (ss : List (Share E)) → 0 < length ss → turns_of (grown e ss) ≡ turns_of ss + 1
turns-grown e [] some = absurd (omega arith)
turns-grown {E} e (s ∷ ss) some = let l : length (s.own ++ e ∷ []) ≡ length s.own + 1 = sym (total-ones (s.own ++ e ∷ [])) ∙ (total_snoc (λ _. 1) s.own e ∙ ap (λ n. n + 1) (total-ones s.own)) in omega arith

pub added-grown : (e : ℕ) (ss : List (Share ℕ)) → 0 < length ss → added_of (grown e ss) ≡ added_of ss + e
added-grown e [] some = absurd (omega arith)
added-grown e (s ∷ ss) some = let l = total_snoc (λ (x : ℕ). x) s.own e in omega arith

pub turns-append : {E : Type 0} (ss ts : List (Share E)) → turns_of (ss ++ ts) ≡ turns_of ss + turns_of ts
turns-append = total-append (λ s. length s.own)

pub added-append : (ss ts : List (Share ℕ)) → added_of (ss ++ ts) ≡ added_of ss + added_of ts
added-append = total-append (λ s. total (λ e. e) s.own)

pub one_of_two : (k : ℕ) → k < 2 → 0 < same k 0 + same k 1
one_of_two k l = let zero = below_next k 0 in let one = below_next k 1 in let none = below_not k 0 (omega arith) in let all = below_one k 2 l in omega arith

pub one_of_three : (k : ℕ) → k < 3 → 0 < same k 0 + same k 1 + same k 2
one_of_three k l = let zero = below_next k 0 in let one = below_next k 1 in let two = below_next k 2 in let none = below_not k 0 (omega arith) in let all = below_one k 3 l in omega arith
