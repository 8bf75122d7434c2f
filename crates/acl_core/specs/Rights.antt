-- The rights of `Granting`, computed: a law says that they are the same.
use Rattle.std.specs.Prelude.{ℕ, List, codes, nat_eq, Bool, true, false, ◌||◌, if◌then◌else◌, Option, Some, None}
use Rattle.std.specs.List.{list_any}
use Rattle.std.specs.Cmp.Lexicographic.{pointwise}
use Rattle.doip_json.specs.Value.{Value}
use Rattle.dobj_model.specs.declared.object.ObjectValue.{ObjectValue}
use Rattle.dobj_model.specs.Object.{access_list}
use Rattle.acl_core.specs.declared.caller.Caller.{Caller}
use Rattle.acl_core.specs.declared.caller.Caller.TheVariants.{Anonymous, Known as Named}
use Rattle.acl_core.specs.declared.rights.Right.{Right}
use Rattle.acl_core.specs.declared.rights.Right.TheVariants.{Read, Write}
use Rattle.acl_core.specs.declared.rights.TypeLists.{TypeLists}
use Rattle.acl_core.specs.Granting.{words_of, is_the_admin}

-- whether this is the identifier, if there is one
abbrev pub is_named : Option (List ℕ) → List ℕ → Bool
is_named None id = false
is_named (Some name) id = pointwise nat_eq name id

-- whether a word grants to the known caller of an identifier, in a list about an object of this creator and this
-- identifier
abbrev pub grants_known : (List ℕ → List ℕ → Bool) → Option (List ℕ) → Option (List ℕ) → List ℕ → List ℕ → Bool
grants_known is_in creator own id word =
    if pointwise nat_eq word (codes "public") then true else
    (if pointwise nat_eq word (codes "authenticated") then true else
    (if pointwise nat_eq word (codes "creator") then is_named creator id else
    (if pointwise nat_eq word (codes "self") then is_named own id else
    (pointwise nat_eq word id || is_in word id))))

-- whether a word grants to a caller
abbrev pub grants : (List ℕ → List ℕ → Bool) → Option (List ℕ) → Option (List ℕ) → Caller → List ℕ → Bool
grants is_in creator own Anonymous word = pointwise nat_eq word (codes "public")
grants is_in creator own (Named id admin) word = grants_known is_in creator own id word

-- whether a word of an object's list grants
abbrev pub any_grants : (List ℕ → List ℕ → Bool) → Caller → ObjectValue → Option Value → List (List ℕ) → Bool
any_grants is_in caller o own_list otherwise =
    list_any (grants is_in (Some o.metadata.created_by) (Some o.id) caller) (words_of own_list otherwise)

-- whether a caller has a right on an object
abbrev pub may_do : (List ℕ → List ℕ → Bool) → Caller → Right → ObjectValue → TypeLists → Bool
may_do is_in caller Write o lists =
    is_the_admin caller || any_grants is_in caller o (access_list (codes "writers") o) lists.write
may_do is_in caller Read o lists =
    (is_the_admin caller || any_grants is_in caller o (access_list (codes "writers") o) lists.write)
    || any_grants is_in caller o (access_list (codes "readers") o) lists.read

-- whether a caller may create an object of a type
abbrev pub may_make : (List ℕ → List ℕ → Bool) → Caller → TypeLists → Bool
may_make is_in caller lists = is_the_admin caller || list_any (grants is_in None None caller) lists.create
