-- ListOperations (DOIP 2.0, 0.DOIP/Op.ListOperations): what is offered on a target, ascending.
use Rattle.std.specs.Prelude.{ℕ, List, [], ◌∷◌, map, filter, codes, not, if◌then◌else◌}
use Rattle.std.specs.Map.{keys_of}
use Rattle.std.specs.Ordering.{is_lt}
use Rattle.doip_json.specs.Value.{Value, text, list, values_from}
use Rattle.dobj_model.specs.declared.object.ObjectValue.{ObjectValue}
use Rattle.acl_core.specs.declared.caller.Caller.{Caller}
use Rattle.acl_core.specs.declared.rights.Right.TheVariants.{Read}
use Rattle.ext_ops.specs.declared.code.ExtCode.{ExtCode}
use Rattle.repo_state.specs.Least.{id_cmp}
use Rattle.repo_step.specs.Setting.{Setting, State}
use Rattle.repo_step.specs.Chain.{unless}
use Rattle.repo_step.specs.Effect.{Attempt, shows}
use Rattle.repo_step.specs.Rights.{may, no_right}
use Rattle.repo_step.specs.operations.Names.{is_reserved}

-- a name at its place among ascending ones
abbrev pub with_name : List ℕ → List (List ℕ) → List (List ℕ)
with_name name [] = name ∷ []
with_name name (n ∷ ns) = if is_lt (id_cmp name n) then name ∷ n ∷ ns else n ∷ with_name name ns

-- each of some names at its place among ascending ones
abbrev pub with_names : List (List ℕ) → List (List ℕ) → List (List ℕ)
with_names [] others = others
with_names (n ∷ ns) others = with_name n (with_names ns others)

-- names as an array of strings
abbrev pub names_value : List (List ℕ) → Value
names_value names = list (values_from (map text names))

-- what the service offers
abbrev pub service_operations : List (List ℕ)
service_operations =
    codes "0.DOIP/Op.Create" ∷ codes "0.DOIP/Op.Hello" ∷ codes "0.DOIP/Op.ListOperations" ∷ []

-- what every object offers beside the extended operations, ascending
abbrev pub object_operations : List (List ℕ)
object_operations =
    codes "0.DOIP/Op.Delete" ∷ codes "0.DOIP/Op.ListOperations" ∷ codes "0.DOIP/Op.Retrieve"
    ∷ codes "0.DOIP/Op.Update" ∷ []

-- the extended operations that can be reached, of those that extensions offer
abbrev pub extended_names : List (List ℕ × ExtCode) → List (List ℕ)
extended_names operations = filter (λ name. not (is_reserved name)) (keys_of operations)

-- what the service offers is listed for everybody
abbrev pub list_service : Attempt
list_service = shows (names_value service_operations)

-- what an object offers is listed for whoever may read it
abbrev pub list_object : Setting → State → Caller → ObjectValue → Attempt
list_object setting s caller o =
    unless (may s.contents.objects caller Read o) (no_right caller) (
    shows (names_value (with_names (extended_names setting.extensions.operations) object_operations)))
