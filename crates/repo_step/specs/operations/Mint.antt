-- The identifier of a new object. This project's own.
use Prim.Native.Nat.{zero}
use Rattle.std.specs.Prelude.{ℕ, suc, ◌+◌, ◌-◌, List, ◌∷◌, ◌++◌, Bool, not, ◌&&◌, cond, Option, Some, None, Result, Ok, decimal}
use Rattle.std.specs.FinMap as map
use Rattle.repo_state.specs.Contents.{Contents}
use Rattle.repo_state.specs.Groups.{is_text}
use Rattle.repo_state.specs.Sound.{last_counter}
use Rattle.repo_step.specs.declared.refusal.Refusal.{Refusal}
use Rattle.repo_step.specs.declared.refusal.Refusal.TheVariants.{InUse, CounterSpent}
use Rattle.repo_step.specs.Setting.{Setting}
use Rattle.repo_step.specs.Chain.{unless, found}

-- an identifier that is neither the service's nor an object's
abbrev pub is_free : Setting → Contents → List ℕ → Bool
is_free setting c id = not (is_text id setting.service) && not (map.contains_key c.objects id)

-- the identifier with a number
abbrev pub numbered : List ℕ → ℕ → List ℕ
numbered prefix n = prefix ++ 47 ∷ decimal n

-- the least of so many numbers from one on that passes
abbrev pub first_from : (ℕ → Bool) → ℕ → ℕ → Option ℕ
first_from passes zero n = None
first_from passes (suc count) n = cond (passes n) (Some n) (first_from passes count (n + 1))

-- the least number from the counter on whose identifier is free
abbrev pub minted : Setting → Contents → Option ℕ
minted setting c = first_from (λ n. is_free setting c (numbered setting.prefix n)) (last_counter - c.counter) c.counter

-- an identifier, and the counter afterwards, if it was minted
pub record NewId : Type 0 where
  pub id : List ℕ
  pub counter : Option ℕ

-- this identifier, and this counter afterwards
abbrev pub named_as : List ℕ → Option ℕ → NewId
named_as id counter = record { id = id; counter = counter }

-- the identifier that was asked for, unless it is in use, or one that is minted
abbrev pub named : Setting → Contents → Option (List ℕ) → Result NewId Refusal
named setting c (Some id) = unless (is_free setting c id) InUse (Ok (named_as id None))
named setting c None =
    found (minted setting c) CounterSpent (λ n.
    Ok (named_as (numbered setting.prefix n) (Some (n + 1))))
