-- Delete (DOIP 2.0, 0.DOIP/Op.Delete): the object goes.
use Rattle.dobj_model.specs.declared.object.ObjectValue.{ObjectValue}
use Rattle.acl_core.specs.declared.caller.Caller.{Caller}
use Rattle.acl_core.specs.declared.rights.Right.TheVariants.{Write}
use Rattle.record_core.specs.declared.change.Change.TheVariants.{Remove}
use Rattle.repo_step.specs.Setting.{State}
use Rattle.repo_step.specs.Chain.{unless}
use Rattle.repo_step.specs.Effect.{Attempt, removes}
use Rattle.repo_step.specs.Rights.{may, no_right}
use Rattle.repo_step.specs.operations.Limits.{within_limits}

-- The right to write, and the limits.
abbrev pub delete : State → Caller → ObjectValue → Attempt
delete s caller o =
    unless (may s.contents.objects caller Write o) (no_right caller) (
    within_limits s (Remove o.id) (
    removes o.id))
