-- What an extension answers is what the operation comes to.
use Rattle.std.proofs.Common.{◌≡◌, ℕ, List, Bool, true, Option, Some, option_map, unwrap_or, Result, ap, sym, ◌∙◌, subst}
use Rattle.doip_json.specs.Value.{Value}
use Rattle.repo_step.specs.declared.refusal.Refusal.{Refusal}
use Rattle.repo_step.specs.declared.refusal.Stop.{Stop}
use Rattle.repo_step.specs.declared.shown.Made.{Made}
use Rattle.repo_step.specs.Chain.{unless, Gives}
use Rattle.repo_step.specs.Shown.{effect_of}
use Rattle.repo_step.specs.operations.Extended.{answered}

some_same : {A : Type 0} (a b : A) → Some a ≡ Some b → a ≡ b
some_same a b e = ap (λ o. unwrap_or o a) e

-- the answer that a call returned, where its code is known
pub answer_given : {A C : Type 0} (view : A → Result Value (List ℕ)) (call : C → Result Value (List ℕ)) (result : Option A) (answer : A)
    (at : Option C) (code : C) → result ≡ Some answer → option_map view result ≡ option_map call at → at ≡ Some code
    → view answer ≡ call code
answer_given view call result answer at code is returned known =
    some_same (view answer) (call code) (ap (option_map view) (sym is) ∙ returned ∙ ap (option_map call) known)

-- the operation comes to it for a caller who may read
pub answer_shown : (result : Result Made Stop) (allowed : Bool) (why : Refusal) (given answer : Result Value (List ℕ)) → true ≡ allowed
    → given ≡ answer → Gives effect_of result (answered given) → Gives effect_of result (unless allowed why (answered answer))
unfolding unless
answer_shown result allowed why given answer may same gives =
    subst (λ b. Gives effect_of result (unless b why (answered answer))) may
    (subst (λ a. Gives effect_of result (answered a)) same gives)
