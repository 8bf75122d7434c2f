-- Row after row of the table of refusals.
use Rattle.std.proofs.Common.{◌≡◌, ℕ, List, codes, Bool, true, false, Option, Some, None, option_map, is_some, if◌then◌else◌, Result, Ok, Err, refl, ap, sym, ◌∙◌, subst, true≢false}
use Rattle.std.specs.FinMap as map
use Rattle.doip_message.specs.Asked.{Properties}
use Rattle.dobj_model.specs.declared.object.ObjectValue.{ObjectValue}
use Rattle.acl_core.specs.declared.caller.Caller.{Caller}
use Rattle.acl_core.specs.Caller.{caller_in}
use Rattle.ext_ops.specs.declared.code.ExtCode.{ExtCode}
use Rattle.ext_ops.specs.Offered.{code_at}
use Rattle.repo_state.specs.Groups.{is_text}
use Rattle.repo_step.specs.declared.brought.Brought.{Brought}
use Rattle.repo_step.specs.declared.operation.Operation.{Operation}
use Rattle.repo_step.specs.declared.operation.Operation.TheVariants as operations
use Rattle.repo_step.specs.declared.refusal.Refusal.{Refusal}
use Rattle.repo_step.specs.declared.refusal.Refusal.TheVariants.{AuthenticationRefused, OperationUnknown, TargetUnknown}
use Rattle.repo_step.specs.declared.refusal.Stop.{Stop}
use Rattle.repo_step.specs.declared.refusal.Stop.TheVariants.{Refused, Memory}
use Rattle.repo_step.specs.declared.shown.Made.{Made}
use Rattle.repo_step.specs.Setting.{Setting, State}
use Rattle.repo_step.specs.Chain.{found, Gives}
use Rattle.repo_step.specs.Effect.{Attempt}
use Rattle.repo_step.specs.Shown.{effect_of}
use Rattle.repo_step.specs.Asking.{asked_caller}
use Rattle.repo_step.specs.operations.Names.{operation_in, basic_operation, extended_operation, or_else, is_reserved}
use Rattle.repo_step.specs.Step.{Target, at_service, at_object, target_in, offer_on, offered, accepted}

abbrev is_ok : {A : Type 0} → Result A Refusal → Bool
is_ok (Ok a) = true
is_ok (Err r) = false

abbrev refusal_in : {A : Type 0} → Result A Refusal → Refusal
refusal_in (Ok a) = AuthenticationRefused
refusal_in (Err r) = r

abbrev value_in : {A : Type 0} → A → Result A Refusal → A
value_in other (Ok a) = a
value_in other (Err r) = other

module _ (setting : Setting) (brought : Brought) (s : State) (asked : Properties) where
  -- after the caller is known, and after the operation is
  abbrev known : Caller → Option Operation → Attempt
  known caller operation =
      found operation OperationUnknown (λ operation.
      found (target_in setting s asked.target_id) TargetUnknown (λ target.
      offered setting brought s caller asked (offer_on operation target)))

  -- where there is no caller, the request is refused as the credentials are
  pub stop_caller : (stop : Stop) → Gives {A = Caller} (λ caller. caller) (Err stop) (asked_caller setting asked.authentication)
      → Gives effect_of (Err stop) (accepted setting brought s asked)
  unfolding found
  stop_caller Memory g = tt
  stop_caller (Refused r) g = by (caller_in setting.accounts asked.authentication) g
    where
      by : (c : Option Caller) → found c AuthenticationRefused (λ caller. Ok caller) ≡ Err r
          → found c AuthenticationRefused (λ caller. known caller (operation_in setting asked.operation_id)) ≡ Err r
      by None e = ap (λ x. Err (refusal_in x)) e
      by (Some c) e = absurd (true≢false (ap is_ok e))

  module _ (caller : Caller) (is : asked_caller setting asked.authentication ≡ Ok caller) where
    -- the rows after the caller
    with_caller : accepted setting brought s asked ≡ known caller (operation_in setting asked.operation_id)
    unfolding found
    with_caller = by (caller_in setting.accounts asked.authentication) is
      where
        by : (c : Option Caller) → found c AuthenticationRefused (λ caller. Ok caller) ≡ Ok caller
            → found c AuthenticationRefused (λ caller. known caller (operation_in setting asked.operation_id))
            ≡ known caller (operation_in setting asked.operation_id)
        by None e = absurd (true≢false (ap is_ok (sym e)))
        by (Some c) e = ap (λ c. known c (operation_in setting asked.operation_id)) (ap (value_in caller) e)

    pub no_operation : operation_in setting asked.operation_id ≡ None → accepted setting brought s asked ≡ Err OperationUnknown
    unfolding found
    no_operation none = with_caller ∙ ap (known caller) none

    module _ (operation : Operation) (names : operation_in setting asked.operation_id ≡ Some operation) where
      with_operation : accepted setting brought s asked ≡ found (target_in setting s asked.target_id) TargetUnknown (λ target.
          offered setting brought s caller asked (offer_on operation target))
      unfolding found
      with_operation = with_caller ∙ ap (known caller) names

      with_target : (t : Option Target) → target_in setting s asked.target_id ≡ t → accepted setting brought s asked
          ≡ found t TargetUnknown (λ target. offered setting brought s caller asked (offer_on operation target))
      with_target t e = with_operation ∙ ap (λ t. found t TargetUnknown (λ target. offered setting brought s caller asked (offer_on operation target))) e

      pub for_service : (result : Result Made Stop) → true ≡ is_text asked.target_id setting.service
          → Gives effect_of result (offered setting brought s caller asked (offer_on operation at_service))
          → Gives effect_of result (accepted setting brought s asked)
      unfolding found
      for_service result own gives =
          subst (Gives effect_of result)
          (sym (with_target (Some at_service) (ap (λ b. if b then Some at_service else option_map at_object (map.get s.contents.objects asked.target_id)) (sym own))))
          gives

      found_in : (o : Option ObjectValue) → false ≡ is_text asked.target_id setting.service
          → map.get s.contents.objects asked.target_id ≡ o → target_in setting s asked.target_id ≡ option_map at_object o
      found_in o other there =
          ap (λ b. if b then Some at_service else option_map at_object (map.get s.contents.objects asked.target_id)) (sym other)
          ∙ ap (option_map at_object) there

      pub no_target : false ≡ is_text asked.target_id setting.service → map.get s.contents.objects asked.target_id ≡ None
          → accepted setting brought s asked ≡ Err TargetUnknown
      unfolding found
      no_target other none = with_target None (found_in None other none)

      pub for_object : (result : Result Made Stop) (o : ObjectValue) → false ≡ is_text asked.target_id setting.service
          → map.get s.contents.objects asked.target_id ≡ Some o
          → Gives effect_of result (offered setting brought s caller asked (offer_on operation (at_object o)))
          → Gives effect_of result (accepted setting brought s asked)
      unfolding found
      for_object result o other there gives =
          subst (Gives effect_of result) (sym (with_target (Some (at_object o)) (found_in (Some o) other there))) gives

abbrev is_extended : Option Operation → Bool
is_extended (Some (operations.Extended code)) = true
is_extended o = false

none_extended : (a b c d e f : Bool) → is_extended (if a then Some operations.Hello else (if b then Some operations.ListOperations else (if c then Some operations.Create else (if d then Some operations.Retrieve else (if e then Some operations.Update else (if f then Some operations.Delete else None)))))) ≡ false
none_extended true b c d e f = refl
none_extended false true c d e f = refl
none_extended false false true d e f = refl
none_extended false false false true e f = refl
none_extended false false false false true f = refl
none_extended false false false false false true = refl
none_extended false false false false false false = refl

basic_is_not : (name : List ℕ) → is_extended (basic_operation name) ≡ false
basic_is_not name =
    none_extended (is_text name (codes "0.DOIP/Op.Hello"))
    (is_text name (codes "0.DOIP/Op.ListOperations"))
    (is_text name (codes "0.DOIP/Op.Create"))
    (is_text name (codes "0.DOIP/Op.Retrieve"))
    (is_text name (codes "0.DOIP/Op.Update"))
    (is_text name (codes "0.DOIP/Op.Delete"))

abbrev code_in : ExtCode → Option Operation → ExtCode
code_in other (Some (operations.Extended code)) = code
code_in other o = other

-- an extended operation is an extension's
pub extension_code : (setting : Setting) (name : List ℕ) (operation : Operation) (code : ExtCode)
    → operation_in setting name ≡ Some operation → operation ≡ operations.Extended code
    → code_at name setting.extensions.operations ≡ Some code
extension_code setting name operation code is same = by (basic_operation name) (basic_is_not name) (is ∙ ap Some same)
  where
    taken : (c : Option ExtCode) → option_map operations.Extended c ≡ Some (operations.Extended code) → c ≡ Some code
    taken None e = absurd (true≢false (ap is_some (sym e)))
    taken (Some c) e = ap Some (ap (code_in code) e)

    free : (b : Bool) → (if b then None else option_map operations.Extended (code_at name setting.extensions.operations)) ≡ Some (operations.Extended code)
        → code_at name setting.extensions.operations ≡ Some code
    free true e = absurd (true≢false (ap is_some (sym e)))
    free false e = taken (code_at name setting.extensions.operations) e

    by : (o : Option Operation) → is_extended o ≡ false → or_else o (extended_operation setting name) ≡ Some (operations.Extended code)
        → code_at name setting.extensions.operations ≡ Some code
    by None p e = free (is_reserved name) e
    by (Some o) p e = absurd (true≢false (sym (ap is_extended e) ∙ p))
