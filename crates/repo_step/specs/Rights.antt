-- Who may do what, by the lists of objects and of their types (after Cordra): this project's own rule.
use Rattle.std.specs.Prelude.{ℕ, List, Bool, codes}
use Rattle.dobj_model.specs.declared.object.ObjectValue.{ObjectValue}
use Rattle.acl_core.specs.declared.caller.Caller.{Caller}
use Rattle.acl_core.specs.declared.caller.Caller.TheVariants.{Anonymous, Known}
use Rattle.acl_core.specs.declared.rights.Right.{Right}
use Rattle.acl_core.specs.Rights.{may_do, may_make}
use Rattle.repo_state.specs.Contents.{Objects}
use Rattle.repo_state.specs.Groups.{is_in_group}
use Rattle.repo_state.specs.Types.{lists_of}
use Rattle.acl_core.specs.declared.rights.TypeLists.{TypeLists}
use Rattle.repo_step.specs.declared.refusal.Refusal.{Refusal}
use Rattle.repo_step.specs.declared.refusal.Refusal.TheVariants.{AuthenticationNeeded, NotPermitted}

-- the caller has the right on the object, by its lists or those of its type
abbrev pub may : Objects → Caller → Right → ObjectValue → Bool
may objects caller right o = may_do (is_in_group objects) caller right o (lists_of objects o.type_name)

-- the caller may create objects of a type with these lists
abbrev pub may_create : Objects → Caller → TypeLists → Bool
may_create objects caller lists = may_make (is_in_group objects) caller lists

-- the refusal of a caller who has no right
abbrev pub no_right : Caller → Refusal
no_right Anonymous = AuthenticationNeeded
no_right (Known id admin) = NotPermitted

-- how a caller is written in `metadata`
abbrev pub caller_name : Caller → List ℕ
caller_name Anonymous = codes "anonymous"
caller_name (Known id admin) = id
