-- What private functions of the step read.
use Rattle.std.specs.Prelude.{◌≡◌, ℕ, List, Option, Result, Ok, Err}
use Rattle.doip_json.specs.Value.{Value, Entries}
use Rattle.doip_message.specs.declared.request.Why.{Why}
use Rattle.doip_message.specs.declared.request.Why.TheVariants.{Memory}
use Rattle.doip_message.specs.Asked.{Content, Properties}
use Rattle.acl_core.specs.declared.caller.Caller.{Caller}
use Rattle.acl_core.specs.Caller.{caller_in}
use Rattle.repo_step.specs.declared.refusal.Refusal.{Refusal}
use Rattle.repo_step.specs.declared.refusal.Refusal.TheVariants.{Invalid, AuthenticationRefused}
use Rattle.repo_step.specs.declared.refusal.Stop.{Stop}
use Rattle.repo_step.specs.declared.refusal.Stop.TheVariants.{Refused}
use Rattle.repo_step.specs.declared.refusal.Stop.TheVariants as stops
use Rattle.repo_step.specs.Setting.{Setting}
use Rattle.repo_step.specs.Chain.{found}

-- the properties of a request
abbrev pub properties : List ℕ → List ℕ → Entries → Option Value → Content → Properties
properties target operation attributes authentication input = record {
  target_id = target;
  operation_id = operation;
  attributes = attributes;
  authentication = authentication;
  input = input;
}

-- the caller whom credentials name
abbrev pub asked_caller : Setting → Option Value → Result Caller Refusal
asked_caller setting authentication =
    found (caller_in setting.accounts authentication) AuthenticationRefused (λ caller. Ok caller)

-- a message is refused for this fault, unless it is out of memory
abbrev pub IsInvalid : {X : Type 0} → Why → Result X Stop → Type 0
IsInvalid Memory made = made ≡ Err stops.Memory
IsInvalid why made = made ≡ Err (Refused (Invalid why))
