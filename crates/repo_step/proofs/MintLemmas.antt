-- The first number whose identifier is free, a step at a time.
use Prim.Native.Nat.{zero}
use Rattle.std.proofs.Common.{◌≡◌, ℕ, suc, ◌+◌, ◌-◌, ◌^◌, ◌<◌, ◌≤◌, List, ◌∷◌, length, Bool, true, false, cond, Option, Some, None, Ok, Err, decimal, ap, sym, ◌∙◌, arith, length-append}
use Rattle.std.proofs.lemmas.Fmt.{length-decimal-le}
use Rattle.repo_state.specs.Contents.{Contents}
use Rattle.repo_step.specs.declared.refusal.Refusal.TheVariants.{InUse, CounterSpent}
use Rattle.repo_step.specs.Chain.{unless, found}
use Rattle.repo_step.specs.Setting.{Setting}
use Rattle.repo_step.specs.operations.Mint.{named_as, first_from, is_free, minted, named, numbered}

module _ (p : ℕ → Bool) (end n : ℕ) where
  -- the number passes
  pub first_here : n < end → p n ≡ true → first_from p (end - n) n ≡ Some n
  first_here within is = by (end - n) (omega arith)
    where
      by : (k : ℕ) → 0 < k → first_from p k n ≡ Some n
      by zero h = absurd (omega arith)
      by (suc k) h = ap (λ b. cond b (Some n) (first_from p k (n + 1))) is

  -- it doesn't, and the rest is looked at
  pub first_later : n < end → p n ≡ false → first_from p (end - (n + 1)) (n + 1) ≡ first_from p (end - n) n
  first_later within is = by (end - n) (end - (n + 1)) (omega arith)
    where
      by : (k j : ℕ) → k ≡ j + 1 → first_from p j (n + 1) ≡ first_from p k n
      by zero j h = absurd (omega arith)
      by (suc k) j h =
          let e : j ≡ k = omega arith in
          ap (λ i. first_from p i (n + 1)) e ∙ sym (ap (λ b. cond b (Some n) (first_from p k (n + 1))) is)

  -- no number is left
  pub first_none : end ≤ n → first_from p (end - n) n ≡ None
  first_none h = let e : end - n ≡ 0 = omega arith in ap (λ k. first_from p k n) e

-- what is minted where there is a number, and where there is none
module _ (setting : Setting) (c : Contents) where
  pub named_minted : (n : ℕ) (id : List ℕ) → minted setting c ≡ Some n → id ≡ numbered setting.prefix n
      → named setting c None ≡ Ok (named_as id (Some (n + 1)))
  unfolding found
  named_minted n id e is =
      ap (λ o. found o CounterSpent (λ n. Ok (named_as (numbered setting.prefix n) (Some (n + 1))))) e
      ∙ ap (λ x. Ok (named_as x (Some (n + 1)))) (sym is)

  pub named_spent : minted setting c ≡ None → named setting c None ≡ Err CounterSpent
  unfolding found
  named_spent e = ap (λ o. found o CounterSpent (λ n. Ok (named_as (numbered setting.prefix n) (Some (n + 1))))) e

  -- what is named where an identifier was asked for
  pub named_asked : (asked : Option (List ℕ)) (id got : List ℕ) → asked ≡ Some id → got ≡ id → true ≡ is_free setting c got
      → named setting c asked ≡ Ok (named_as id None)
  unfolding unless
  named_asked asked id got is same free =
      ap (named setting c) is ∙ ap (λ b. unless b InUse (Ok (named_as id None))) (ap (is_free setting c) (sym same) ∙ sym free)

  pub named_used : (asked : Option (List ℕ)) (id got : List ℕ) → asked ≡ Some id → got ≡ id → false ≡ is_free setting c got
      → named setting c asked ≡ Err InUse
  unfolding unless
  named_used asked id got is same free =
      ap (named setting c) is ∙ ap (λ b. unless b InUse (Ok (named_as id None))) (ap (is_free setting c) (sym same) ∙ sym free)

-- an identifier with a number has 1 to 255 bytes
pub numbered_fits : (prefix : List ℕ) (n : ℕ) → length prefix ≤ 200 → n < 2 ^ 64 → (1 ≤ length (numbered prefix n)) × (length (numbered prefix n) ≤ 255)
numbered_fits prefix n short small =
    let digits : length (decimal n) ≤ 20 = length-decimal-le 20 n (omega arith) (omega arith) small in
    let whole : length (numbered prefix n) ≡ length prefix + suc (length (decimal n)) = length-append prefix (47 ∷ decimal n) in
    (omega arith, omega arith)
