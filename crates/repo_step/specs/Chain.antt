-- The words of a chain of refusals, one row each: a row refuses, or the rows after it may use what it found.
use Rattle.std.specs.Prelude.{◌≡◌, Bool, true, false, Option, Some, None, Result, Ok, Err}
use Rattle.repo_step.specs.declared.refusal.Refusal.{Refusal}
use Rattle.repo_step.specs.declared.refusal.Stop.{Stop}
use Rattle.repo_step.specs.declared.refusal.Stop.TheVariants.{Refused, Memory}

module _ {X : Type 0} where
  -- refuses unless it holds
  unfoldable pub unless : Bool → Refusal → Result X Refusal → Result X Refusal
  unless true refusal rest = rest
  unless false refusal rest = Err refusal

  -- refuses where it is there
  unfoldable pub clear : {A : Type 0} → Option A → (A → Refusal) → Result X Refusal → Result X Refusal
  clear None refusal rest = rest
  clear (Some a) refusal rest = Err (refusal a)

  -- refuses where it is absent, and the rest may use it
  unfoldable pub found : {A : Type 0} → Option A → Refusal → (A → Result X Refusal) → Result X Refusal
  found None refusal rest = Err refusal
  found (Some a) refusal rest = rest a

  -- refuses as the first does, and the rest may use what it read
  unfoldable pub read : {A : Type 0} → Result A Refusal → (A → Result X Refusal) → Result X Refusal
  read (Err refusal) rest = Err refusal
  read (Ok a) rest = rest a

-- What a function of the step returns, seen by view, is what the chain gives, unless it ran out of memory.
abbrev pub Gives : {A B : Type 0} → (A → B) → Result A Stop → Result B Refusal → Type 0
Gives view (Ok a) chain = chain ≡ Ok (view a)
Gives view (Err (Refused refusal)) chain = chain ≡ Err refusal
Gives view (Err Memory) chain = Unit {0}
