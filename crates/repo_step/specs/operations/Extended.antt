-- Extended operations (DOIP 2.0 lets a service have its own): what their extensions answer on an object.
use Rattle.std.specs.Prelude.{ℕ, List, Result, Ok, Err}
use Rattle.doip_json.specs.Value.{Value, Entries, entries_in}
use Rattle.dobj_model.specs.declared.object.ObjectValue.{ObjectValue}
use Rattle.acl_core.specs.declared.caller.Caller.{Caller}
use Rattle.acl_core.specs.declared.rights.Right.TheVariants.{Read}
use Rattle.ext_ops.specs.declared.code.ExtCode.{ExtCode}
use Rattle.ext_ops.specs.Extended.{ext}
use Rattle.repo_step.specs.declared.refusal.Refusal.TheVariants.{ByExtension}
use Rattle.repo_step.specs.Setting.{State}
use Rattle.repo_step.specs.Chain.{unless}
use Rattle.repo_step.specs.Effect.{Attempt, shows}
use Rattle.repo_step.specs.Rights.{may, no_right}

-- an answer is shown, and a refusal refused
abbrev pub answered : Result Value (List ℕ) → Attempt
answered (Ok v) = shows v
answered (Err reason) = Err (ByExtension reason)

-- The right to read, and then the extension's answer.
abbrev pub extended : ExtCode → State → Caller → Entries → ObjectValue → Attempt
extended code s caller arguments o =
    unless (may s.contents.objects caller Read o) (no_right caller) (
    answered (ext code o (entries_in arguments)))
