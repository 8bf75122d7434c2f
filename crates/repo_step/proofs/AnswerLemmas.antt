-- From the plan of a request, or of its fault, to the plan of the message.
use Rattle.std.proofs.Common.{Bor, ◌≡◌, ℕ, List, Option, Some, None, is_some, option_map, option_copied, Result, Ok, Err, refl, ap, sym, ◌∙◌, subst, true≢false}
use Rattle.std.specs.Prelude.{IfOk}
use Rattle.doip_json.specs.declared.value.Json.{Json}
use Rattle.doip_json.specs.Meaning.{value_of}
use Rattle.doip_message.specs.declared.request.RequestFault.{RequestFault}
use Rattle.doip_message.specs.declared.request.Why.{Why}
use Rattle.doip_message.specs.declared.request.Why.TheVariants as whys
use Rattle.doip_message.specs.Asked.{Asked, no_content}
use Rattle.doip_message.specs.Reading.{Fails, fault_with}
use Rattle.record_core.specs.declared.change.Change.TheVariants.{Counter}
use Rattle.repo_step.specs.declared.brought.Brought.{Brought}
use Rattle.repo_step.specs.declared.planned.Planned.{Planned}
use Rattle.repo_step.specs.declared.refusal.Refusal.TheVariants.{Invalid, OperationUnknown}
use Rattle.repo_step.specs.declared.refusal.Stop.{Stop}
use Rattle.repo_step.specs.declared.refusal.Stop.TheVariants.{Refused}
use Rattle.repo_step.specs.declared.refusal.Stop.TheVariants as stops
use Rattle.repo_step.specs.declared.shown.Made.{Made}
use Rattle.repo_step.specs.Setting.{Setting, State}
use Rattle.repo_step.specs.Chain.{Gives, read}
use Rattle.repo_step.specs.Effect.{Attempt}
use Rattle.repo_step.specs.Shown.{effect_of, planned_of}
use Rattle.repo_step.specs.Asking.{IsInvalid}
use Rattle.repo_step.specs.Step.{Plan, plan_with, plan_of}

-- what is lent of credentials means what they mean
pub lent_means : (lent : Option (Bor Json)) (kept : Option Json) → option_copied lent ≡ kept
    → option_map (λ v. value_of v.now) lent ≡ option_map value_of kept
lent_means None kept same = ap (option_map value_of) same
lent_means (Some v) kept same = ap (option_map value_of) same

-- `planned` says this of every chain that its argument gives
abbrev pub PlansWhatIsGiven : {E : Type 0} → Option (List ℕ) → Result Made Stop → Result Planned E → Type 0
PlansWhatIsGiven request_id made r = IfOk r (λ p. (chain : Attempt) → Gives effect_of made chain → planned_of p ≡ plan_with request_id chain)

-- the plan of a chain that means the same
pub plan_meant : {E : Type 0} (request_id : Option (List ℕ)) (made : Result Made Stop) (r : Result Planned E) (chain meant : Attempt)
    → Gives effect_of made chain → chain ≡ meant → PlansWhatIsGiven request_id made r
    → IfOk r (λ p. planned_of p ≡ plan_with request_id meant)
plan_meant request_id made (Ok p) chain meant gives same plans = plans chain gives ∙ ap (plan_with request_id) same
plan_meant request_id made (Err e) chain meant gives same plans = tt

module _ {E : Type 0} (setting : Setting) (brought : Brought) (s : State) where
  -- a message that is refused for its first fault
  plan_of_refused : (request_id : Option (List ℕ)) (why : Why) (made : Result Made Stop) (r : Result Planned E)
      (meant : Result Asked RequestFault) → meant ≡ Err (fault_with request_id why) → made ≡ Err (Refused (Invalid why))
      → PlansWhatIsGiven request_id made r → IfOk r (λ p. planned_of p ≡ plan_of setting brought s meant)
  unfolding read
  plan_of_refused request_id why made (Ok p) meant is refuses plans =
      plans (Err (Invalid why)) (subst (λ m. Gives effect_of m (Err (Invalid why))) (sym refuses) refl)
      ∙ ap (plan_of setting brought s) (sym is)
  plan_of_refused request_id why made (Err e) meant is refuses plans = tt

  -- out of memory there is no plan: every chain would be given, and two of them have different changes
  no_plan : (request_id : Option (List ℕ)) (made : Result Made Stop) (r : Result Planned E) (meant : Result Asked RequestFault)
      → made ≡ Err stops.Memory → PlansWhatIsGiven request_id made r → IfOk r (λ p. planned_of p ≡ plan_of setting brought s meant)
  no_plan request_id made (Err e) meant fails plans = tt
  no_plan request_id made (Ok p) meant fails plans =
      absurd (true≢false (ap (λ (plan : Plan). is_some plan.change)
      (sym (by (Ok (record { output = no_content; change = Some (Counter 0) }))) ∙ by (Err OperationUnknown))))
    where
      by : (chain : Attempt) → planned_of p ≡ plan_with request_id chain
      by chain = plans chain (subst (λ m. Gives effect_of m chain) (sym fails) tt)

  -- a message that is no request
  pub plan_of_fault : (request_id : Option (List ℕ)) (why : Why) (made : Result Made Stop) (r : Result Planned E)
      (meant : Result Asked RequestFault) → Fails why (fault_with request_id why) meant → IsInvalid why made
      → PlansWhatIsGiven request_id made r → IfOk r (λ p. planned_of p ≡ plan_of setting brought s meant)
  plan_of_fault request_id whys.Memory made r meant is refuses plans = no_plan request_id made r meant refuses plans
  plan_of_fault request_id whys.NoSegment made r meant is refuses plans = plan_of_refused request_id _ made r meant is refuses plans
  plan_of_fault request_id whys.FirstIsBytes made r meant is refuses plans = plan_of_refused request_id _ made r meant is refuses plans
  plan_of_fault request_id (whys.Json fault) made r meant is refuses plans = plan_of_refused request_id _ made r meant is refuses plans
  plan_of_fault request_id whys.NotTable made r meant is refuses plans = plan_of_refused request_id _ made r meant is refuses plans
  plan_of_fault request_id (whys.Field name) made r meant is refuses plans = plan_of_refused request_id _ made r meant is refuses plans
  plan_of_fault request_id whys.TwoInputs made r meant is refuses plans = plan_of_refused request_id _ made r meant is refuses plans
