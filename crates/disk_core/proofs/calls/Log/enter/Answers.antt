use Rattle.std.proofs.Common.{◌≡◌, ◌↔◌, Bool, true, false, not, refl, ap}
use Rattle.std.specs.Prelude.{IsTrue}
use Rattle.disk_core.proofs.calls.Log.enter.Goals as goal

was_not : (b : Bool) → not b ≡ false → b ≡ true
was_not true is = refl
was_not false is = absurd (cc)

-- a call is not done exactly when it is listed
not_done : (listed : Bool) (P : Type 0) → IsTrue listed ↔ P → (not listed ≡ false) ↔ P
not_done listed P is = ((λ e. is.0 (was_not listed e)), (λ p. ap not (is.1 p)))

pub returns-then-not-done-clause-listed : goal.returns-then-not-done-clause-listed
returns-then-not-done-clause-listed c = not_done c.is_listed-done.result _ c.is_listed-done.ensures

pub returns-else-not-done-clause-listed : goal.returns-else-not-done-clause-listed
returns-else-not-done-clause-listed c = not_done c.is_listed-done.result _ c.is_listed-done.ensures
