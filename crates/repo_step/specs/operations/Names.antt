-- The operations and their identifiers (those of DOIP 2.0, and the extended ones, which are this project's own).
use Rattle.std.specs.Prelude.{ℕ, List, [], ◌∷◌, codes, Bool, if◌then◌else◌, Option, Some, None, option_map}
use Rattle.std.specs.List.{list_any}
use Rattle.ext_ops.specs.Offered.{code_at}
use Rattle.repo_state.specs.Groups.{is_text}
use Rattle.repo_step.specs.declared.operation.Operation.{Operation}
use Rattle.repo_step.specs.declared.operation.Operation.TheVariants.{Hello, ListOperations, Create, Retrieve, Update, Delete, Extended}
use Rattle.repo_step.specs.Setting.{Setting}

-- the identifiers under which no extension is reached: those of DOIP 2.0, and that of the list of changes
abbrev pub reserved_names : List (List ℕ)
reserved_names =
    codes "0.DOIP/Op.Hello" ∷ codes "0.DOIP/Op.ListOperations" ∷ codes "0.DOIP/Op.Create" ∷ codes "0.DOIP/Op.Retrieve"
    ∷ codes "0.DOIP/Op.Update" ∷ codes "0.DOIP/Op.Delete" ∷ codes "0.DOIP/Op.Search" ∷ codes "ext/Op.Changes" ∷ []

-- an identifier under which no extension is reached
abbrev pub is_reserved : List ℕ → Bool
is_reserved name = list_any (is_text name) reserved_names

-- the basic operation of an identifier
abbrev pub basic_operation : List ℕ → Option Operation
basic_operation name =
    if is_text name (codes "0.DOIP/Op.Hello") then Some Hello
    else (if is_text name (codes "0.DOIP/Op.ListOperations") then Some ListOperations
    else (if is_text name (codes "0.DOIP/Op.Create") then Some Create
    else (if is_text name (codes "0.DOIP/Op.Retrieve") then Some Retrieve
    else (if is_text name (codes "0.DOIP/Op.Update") then Some Update
    else (if is_text name (codes "0.DOIP/Op.Delete") then Some Delete else None)))))

-- the extended operation of an identifier
abbrev pub extended_operation : Setting → List ℕ → Option Operation
extended_operation setting name =
    if is_reserved name then None else option_map Extended (code_at name setting.extensions.operations)

-- the first of two that is there
abbrev pub or_else : {A : Type 0} → Option A → Option A → Option A
or_else (Some a) other = Some a
or_else None other = other

-- the operation of an identifier
abbrev pub operation_in : Setting → List ℕ → Option Operation
operation_in setting name = or_else (basic_operation name) (extended_operation setting name)
