-- When an object is sound among others, by its type, its schema and its references. This project's own.
use Rattle.std.specs.Prelude.{◌≡◌, ℕ, List, Bool, true, false, not, ◌&&◌, ◌||◌, if◌then◌else◌, is_none, is_some, Option, Some, None, option_and_then, Result, Ok, Err}
use Rattle.std.specs.Option.{option_map_or}
use Rattle.std.specs.List.{list_any}
use Rattle.std.specs.Result.{is_ok}
use Rattle.std.specs.FinMap as finite
use Rattle.dobj_model.specs.declared.object.ObjectValue.{ObjectValue}
use Rattle.schema_core.specs.Rules.{Rules, plain}
use Rattle.schema_core.specs.References.{references_in}
use Rattle.type_core.specs.declared.content.TypeFault.{TypeFault}
use Rattle.type_core.specs.Least.{id_cmp, least}
use Rattle.type_core.specs.Names.{is_text, is_built_in, is_type_object, name_given, checked_content}
use Rattle.type_core.specs.Content.{type_in, schema_in}
use Rattle.type_core.specs.Checked.{first_failing, unmet_among, first_unmet}

-- objects by their identifiers
abbrev pub Objects : Type 0
Objects = finite.FinMap id_cmp ObjectValue

-- ---- types

-- the object makes the type of this name
abbrev pub makes : List ℕ → ObjectValue → Bool
makes name o = option_map_or (λ given. is_text given name) (name_given o) false

-- the identifier of the object that makes a type; of several, the least
abbrev pub maker : Objects → List ℕ → Option (List ℕ)
maker objects name = least (λ id o. makes name o) objects

-- the object that makes a type
abbrev pub type_object : Objects → List ℕ → Option ObjectValue
type_object objects name = option_and_then (finite.get objects) (maker objects name)

-- the value, if there is no fault
abbrev pub unless_fault : {A : Type 0} → Result A TypeFault → Option A
unless_fault (Ok a) = Some a
unless_fault (Err fault) = None

-- the schema of a type object, if it is one
abbrev pub rules_given : ObjectValue → Option Rules
rules_given o = unless_fault (schema_in (checked_content o))

-- The schema to which content of a type is valid: one that asks nothing for a type that is built in, and none for a
-- type that isn't known, or whose schema has a fault.
abbrev pub rules_at : Objects → List ℕ → Option Rules
rules_at objects name = if is_built_in name then Some plain else option_and_then rules_given (type_object objects name)

-- ---- one object among others

-- an object with the identifier is there, and has the type
abbrev pub is_of : Objects → List ℕ → List ℕ → Bool
is_of objects id type_name = option_map_or (λ o. is_text o.type_name type_name) (finite.get objects id) false

-- the content is valid to the schema, and its references are met by those of which the test holds
abbrev pub fits : (List ℕ → List ℕ → Bool) → ObjectValue → Rules → Bool
fits is_of o schema =
    is_none (first_failing schema o) && is_none (unmet_among is_of (references_in schema (checked_content o)))

-- the same, by the objects
abbrev pub fits_among : Objects → ObjectValue → Rules → Bool
fits_among objects = fits (is_of objects)

-- the other object makes a type of the same name
abbrev pub makes_same : ObjectValue → ObjectValue → Bool
makes_same o other = option_map_or (λ name. makes name other) (name_given o) false

-- another object makes a type of the same name
abbrev pub is_name_in_use : Objects → ObjectValue → Bool
is_name_in_use objects o = is_some (least (λ id other. not (is_text id o.id) && makes_same o other) objects)

-- as a type object: its content states a type, of a name that no other has
abbrev pub is_sound_type : Objects → ObjectValue → Bool
is_sound_type objects o = is_ok (type_in (checked_content o)) && not (is_name_in_use objects o)

-- an object is sound among these: its type is known, its content fits, and so does what it says as a type object
abbrev pub is_sound_in : Objects → ObjectValue → Bool
is_sound_in objects o =
    option_map_or (fits_among objects o) (rules_at objects o.type_name) false
    && (not (is_type_object o) || is_sound_type objects o)

-- the least identifier of an object that isn't sound
abbrev pub least_unsound : Objects → Option (List ℕ)
least_unsound objects = least (λ id o. not (is_sound_in objects o)) objects

-- each object stands under its own identifier
abbrev pub AreNamed : Objects → Type 0
AreNamed objects = (id : List ℕ) (o : ObjectValue) → finite.get objects id ≡ Some o → o.id ≡ id

-- each object is sound among all
abbrev pub IsSound : Objects → Type 0
IsSound objects = (id : List ℕ) (o : ObjectValue) → finite.get objects id ≡ Some o → is_sound_in objects o ≡ true

-- ---- an object that is put

-- The object is new, or has the type of the one whose place it takes, which makes no type.
abbrev pub KeepsType : Objects → ObjectValue → Type 0
KeepsType objects o =
    (old : ObjectValue) → finite.get objects o.id ≡ Some old
    → (old.type_name ≡ o.type_name) × (is_type_object old ≡ false)

-- What is asked of an object that is put among others: what it says as a type object, its type, its content by the
-- type's schema, and its references, which the object itself may meet.
pub record MayBePut (objects : Objects) (o : ObjectValue) : Type 0 where
  pub as_type : is_type_object o ≡ true → is_sound_type objects o ≡ true
  pub schema : Rules
  pub known : rules_at objects o.type_name ≡ Some schema
  pub valid : first_failing schema o ≡ None
  pub met : first_unmet schema o (is_of objects) ≡ None

-- ---- an object that is taken away

-- The object, which fits this schema, isn't sound without another one: that makes its type, or a reference names it.
abbrev pub leans_on : ObjectValue → Rules → ObjectValue → Bool
leans_on other schema o =
    makes o.type_name other || list_any (λ r. is_text r.id other.id) (references_in schema (checked_content o))

-- another object, that isn't sound without this one
abbrev pub would_miss : Objects → ObjectValue → List ℕ → ObjectValue → Bool
would_miss objects gone id o =
    not (is_text id gone.id) && option_map_or (λ schema. leans_on gone schema o) (rules_at objects o.type_name) false

-- ---- a type object that another takes the place of

-- The object isn't sound once a type object takes the place of another one that makes its type: the new one makes
-- another type, or has a schema that the object doesn't fit.
abbrev pub is_left_by : Objects → ObjectValue → ObjectValue → ObjectValue → Bool
is_left_by objects old new o =
    makes o.type_name old
    && not (makes o.type_name new && option_map_or (fits_among objects o) (rules_given new) false)

-- another object, that isn't sound once the new one takes the old one's place
abbrev pub would_lose : Objects → ObjectValue → ObjectValue → List ℕ → ObjectValue → Bool
would_lose objects old new id o = not (is_text id new.id) && is_left_by objects old new o

-- A type object may take the place of another if it states a type, of a name that no other object has.
pub record MayReplace (objects : Objects) (old new : ObjectValue) : Type 0 where
  pub place : finite.get objects new.id ≡ Some old
  pub was_type : is_type_object old ≡ true
  pub is_type : is_type_object new ≡ true
  pub sound : is_sound_type objects new ≡ true
