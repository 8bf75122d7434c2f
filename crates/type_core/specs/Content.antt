-- What a type object states, or the first fault of its content (after Cordra; the names, the default lists and the
-- order of the faults are this project's own).
use Rattle.std.specs.Prelude.{◌≡◌, ℕ, List, [], ◌∷◌, codes, if◌then◌else◌, Option, Some, None, option_and_then, unwrap_or, Result, Ok, Err}
use Rattle.doip_json.specs.Value.{Value, null, truth, whole, text, list, table, Entries}
use Rattle.doip_json.specs.Look.{entry_of, field_of}
use Rattle.schema_core.specs.declared.fault.SchemaFault.{SchemaFault}
use Rattle.schema_core.specs.declared.fault.SchemaFault.TheVariants as schemas
use Rattle.schema_core.specs.Rules.{Rules}
use Rattle.schema_core.specs.Shapes.{names_in}
use Rattle.schema_core.specs.Reading.{rules_in, fault_of}
use Rattle.acl_core.specs.declared.rights.TypeLists.{TypeLists}
use Rattle.type_core.specs.declared.content.TypeContent.{TypeContent}
use Rattle.type_core.specs.declared.content.TypeFault.{TypeFault}
use Rattle.type_core.specs.declared.content.TypeFault.TheVariants as faults
use Rattle.type_core.specs.Names.{may_name, string_at}

infixl 10 ◌>>=◌
-- the first fault, or what comes of the value
abbrev pub ◌>>=◌ : {A B : Type 0} → Result A TypeFault → (A → Result B TypeFault) → Result B TypeFault
(Ok x) >>= f = f x
(Err fault) >>= f = Err fault

-- this fault where there is none
abbrev pub or_fault : {A : Type 0} → Option A → TypeFault → Result A TypeFault
or_fault (Some a) fault = Ok a
or_fault None fault = Err fault

-- ---- the name

-- the name, unless a type object may not give it
abbrev pub given_name : List ℕ → Option (List ℕ)
given_name name = if may_name name then Some name else None

-- `name`: a string that a type object may give
abbrev pub name_in : Value → Result (List ℕ) TypeFault
name_in content = or_fault (option_and_then given_name (string_at (codes "name") content)) faults.Name

-- ---- the schema

-- a schema's fault as that of a type object
abbrev pub schema_fault : SchemaFault → TypeFault
schema_fault (schemas.Word name) = faults.Word name
schema_fault (schemas.Shape name) = faults.Shape name
schema_fault schemas.Memory = faults.Memory

-- what a value states as a schema, unless it has this fault
abbrev pub rules_unless : Option SchemaFault → Rules → Result Rules TypeFault
rules_unless None stated = Ok stated
rules_unless (Some fault) stated = Err (schema_fault fault)

-- a value as a schema
abbrev pub rules_of : Value → Result Rules TypeFault
rules_of v = rules_unless (fault_of v) (rules_in v)

-- `schema`: a schema, and one that is missing has the fault of `null`
abbrev pub schema_in : Value → Result Rules TypeFault
schema_in content = rules_of (unwrap_or (field_of (codes "schema") content) null)

-- ---- the lists

-- the lists of a type that are these
abbrev pub lists : List (List ℕ) → List (List ℕ) → List (List ℕ) → TypeLists
lists read write create = record { read = read; write = write; create = create }

-- who may read, write and create objects of a type that doesn't say so: everybody, their creator, every known caller
abbrev pub default_lists : TypeLists
default_lists = lists (codes "public" ∷ []) (codes "creator" ∷ []) (codes "authenticated" ∷ [])

-- who may do so with type objects: everybody, their creator, and nobody but the admin
abbrev pub schema_lists : TypeLists
schema_lists = lists (codes "public" ∷ []) (codes "creator" ∷ []) []

-- a list of strings, or else the list of this word
abbrev pub words_or : List ℕ → Option Value → Result (List (List ℕ)) TypeFault
words_or word None = Ok (word ∷ [])
words_or word (Some v) = or_fault (names_in v) faults.AuthConfig

-- the list at a key of `authConfig`
abbrev pub words_at : List ℕ → List ℕ → Entries → Result (List (List ℕ)) TypeFault
words_at key word es = words_or word (entry_of key es)

-- the lists in an `authConfig`
unfoldable pub lists_in : Entries → Result TypeLists TypeFault
lists_in es = do
  read ← words_at (codes "defaultAclRead") (codes "public") es
  write ← words_at (codes "defaultAclWrite") (codes "creator") es
  create ← words_at (codes "aclCreate") (codes "authenticated") es
  Ok (lists read write create)

-- `authConfig`: absent, or an object of lists
abbrev pub lists_of : Option Value → Result TypeLists TypeFault
lists_of None = Ok default_lists
lists_of (Some null) = Err faults.AuthConfig
lists_of (Some (truth b)) = Err faults.AuthConfig
lists_of (Some (whole z)) = Err faults.AuthConfig
lists_of (Some (text s)) = Err faults.AuthConfig
lists_of (Some (list vs)) = Err faults.AuthConfig
lists_of (Some (table es)) = lists_in es

-- ---- the whole

-- What the content of a type object states, or its first fault. A `hook` that is no string is ignored.
unfoldable pub type_in : Value → Result TypeContent TypeFault
type_in content = do
  name ← name_in content
  schema ← schema_in content
  lists ← lists_of (field_of (codes "authConfig") content)
  Ok (record { name = name; schema = schema; lists = lists; hook = string_at (codes "hook") content })

-- ---- what is read

-- the fault is the one that is meant, unless it is out of memory
abbrev pub Fails : {Y : Type 0} → TypeFault → Result Y TypeFault → Type 0
Fails faults.Memory meant = Unit {0}
Fails fault meant = meant ≡ Err fault

-- What was read is what is meant, or its fault is, unless memory ran out.
abbrev pub Reads : {X : Type 0} → Result X TypeFault → Result X TypeFault → Type 0
Reads (Ok x) meant = meant ≡ Ok x
Reads (Err fault) meant = Fails fault meant
