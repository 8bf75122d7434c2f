-- What the type objects among others state, and what a change makes of it. This project's own.
use Rattle.std.specs.Prelude.{ℕ, List, Bool, false, not, ◌&&◌, if◌then◌else◌, Option, Some, None, is_some, option_map, option_and_then}
use Rattle.std.specs.Option.{option_map_or}
use Rattle.std.specs.FinMap as finite
use Rattle.dobj_model.specs.declared.object.ObjectValue.{ObjectValue}
use Rattle.schema_core.specs.Rules.{Rules, plain}
use Rattle.acl_core.specs.declared.rights.TypeLists.{TypeLists}
use Rattle.type_core.specs.declared.content.TypeContent.{TypeContent}
use Rattle.type_core.specs.Names.{is_text, plain_type, schema_type, is_built_in, name_given, checked_content}
use Rattle.type_core.specs.Content.{type_in, default_lists, schema_lists}
use Rattle.type_core.specs.Sound.{Objects, makes, type_object, unless_fault}

-- what a type object states, if it states a type
abbrev pub content_given : ObjectValue → Option TypeContent
content_given o = unless_fault (type_in (checked_content o))

-- what the type object of a name states
abbrev pub type_at : Objects → List ℕ → Option TypeContent
type_at objects name = option_and_then content_given (type_object objects name)

-- the schema of a type, by what its type object states
abbrev pub schema_at : Objects → List ℕ → Option Rules
schema_at objects name = if is_built_in name then Some plain else option_map (λ t. t.schema) (type_at objects name)

-- the lists of a type, if it is known
abbrev pub lists_at : Objects → List ℕ → Option TypeLists
lists_at objects name =
    if is_text name plain_type then Some default_lists
    else (if is_text name schema_type then Some schema_lists else option_map (λ t. t.lists) (type_at objects name))

-- The hook of a type, by what its type object states, if it does. A type that is built in has none.
abbrev pub hook_of : List ℕ → Option TypeContent → Option (List ℕ)
hook_of name stated = if is_built_in name then None else option_and_then (λ t. t.hook) stated

-- the hook of a type, if it has one
abbrev pub hook_at : Objects → List ℕ → Option (List ℕ)
hook_at objects name = hook_of name (type_at objects name)

-- the object at an identifier makes the type of this name
abbrev pub is_made_at : Objects → List ℕ → List ℕ → Bool
is_made_at objects id name = option_map_or (makes name) (finite.get objects id) false

-- the name that an object gives is that of a type which is stated, and not by the object at its own identifier
abbrev pub is_stated_elsewhere : Objects → ObjectValue → Bool
is_stated_elsewhere objects o =
    option_map_or (λ name. is_some (type_at objects name) && not (is_made_at objects o.id name)) (name_given o) false

-- what is stated of a type once an object is removed
abbrev pub type_after_removal : Objects → List ℕ → List ℕ → Option TypeContent
type_after_removal objects id name = if is_made_at objects id name then None else type_at objects name

-- what is stated of a type once an object is put
abbrev pub type_after_put : Objects → ObjectValue → List ℕ → Option TypeContent
type_after_put objects o name =
    if makes name o then content_given o else type_after_removal objects o.id name
