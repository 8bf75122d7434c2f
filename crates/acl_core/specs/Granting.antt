-- What access lists grant (after Cordra): this project's own rule.
use Rattle.std.specs.Prelude.{◌≡◌, ◌≢◌, ℕ, List, [], codes, Bool, false, IsTrue, Any, Option, Some, None}
use Rattle.std.specs.List.{cons_option}
use Rattle.doip_json.specs.Value.{Value, list, Values, no_values, value}
use Rattle.dobj_model.specs.declared.object.ObjectValue.{ObjectValue}
use Rattle.dobj_model.specs.Object.{access_list}
use Rattle.acl_core.specs.declared.caller.Caller.{Caller}
use Rattle.acl_core.specs.declared.caller.Caller.TheVariants.{Anonymous, Known as Named}
use Rattle.acl_core.specs.declared.rights.Right.{Right}
use Rattle.acl_core.specs.declared.rights.Right.TheVariants.{Read}
use Rattle.acl_core.specs.declared.rights.TypeLists.{TypeLists}
use Rattle.acl_core.specs.File.{string_in}

-- any other word is the identifier of an account or of a group
abbrev pub IsOther : List ℕ → Type 0
IsOther word =
    (word ≢ codes "public") × (word ≢ codes "authenticated") × (word ≢ codes "creator") × (word ≢ codes "self")

-- What a word grants to whom, a row for each word. `is_in group user` says who is in which group. A list about an
-- object has the object's creator and its own identifier; in a list of who may create both are absent.
pub data Grants (is_in : List ℕ → List ℕ → Bool) (creator own : Option (List ℕ)) : Caller → List ℕ → Type 0 where
  -- `public`: to everybody
  to_everybody : (caller : Caller) (word : List ℕ) → word ≡ codes "public" → Grants is_in creator own caller word
  -- `authenticated`: to each known caller
  to_known : (id : List ℕ) (admin : Bool) (word : List ℕ) → word ≡ codes "authenticated"
      → Grants is_in creator own (Named id admin) word
  -- `creator`: to the one who created the object
  to_creator : (id : List ℕ) (admin : Bool) (word : List ℕ) → word ≡ codes "creator" → creator ≡ Some id
      → Grants is_in creator own (Named id admin) word
  -- `self`: to the one whose identifier is the object's
  to_self : (id : List ℕ) (admin : Bool) (word : List ℕ) → word ≡ codes "self" → own ≡ Some id
      → Grants is_in creator own (Named id admin) word
  -- an account's identifier: to its caller
  to_account : (id : List ℕ) (admin : Bool) (word : List ℕ) → IsOther word → word ≡ id
      → Grants is_in creator own (Named id admin) word
  -- a group's identifier: to each who is in the group
  to_member : (id : List ℕ) (admin : Bool) (word : List ℕ) → IsOther word → IsTrue (is_in word id)
      → Grants is_in creator own (Named id admin) word

-- the strings of an array
abbrev pub texts_in : Values → List (List ℕ)
texts_in no_values = []
texts_in (value v vs) = cons_option (string_in v) (texts_in vs)

-- the words of a list that an object has, or of its type's list where it has none
abbrev pub words_of : Option Value → List (List ℕ) → List (List ℕ)
words_of None otherwise = otherwise
words_of (Some (list vs)) otherwise = texts_in vs
words_of (Some other) otherwise = []

-- whether the caller is the admin
abbrev pub is_the_admin : Caller → Bool
is_the_admin Anonymous = false
is_the_admin (Named id admin) = admin

-- a word of a list about an object grants to the caller
abbrev pub HasGrant : (List ℕ → List ℕ → Bool) → Caller → ObjectValue → List (List ℕ) → Type 0
HasGrant is_in caller o words = Any (Grants is_in (Some o.metadata.created_by) (Some o.id) caller) words

-- what a caller may do with an object
pub data HasRight (is_in : List ℕ → List ℕ → Bool) (caller : Caller) (o : ObjectValue) (lists : TypeLists)
    : Right → Type 0 where
  -- the admin has each right
  as_admin : (right : Right) → IsTrue (is_the_admin caller) → HasRight is_in caller o lists right
  -- a word of the writers grants both rights
  as_writer : (right : Right) → HasGrant is_in caller o (words_of (access_list (codes "writers") o) lists.write)
      → HasRight is_in caller o lists right
  -- a word of the readers grants to read
  as_reader : HasGrant is_in caller o (words_of (access_list (codes "readers") o) lists.read)
      → HasRight is_in caller o lists Read

-- who may create an object of a type
pub data MayCreate (is_in : List ℕ → List ℕ → Bool) (caller : Caller) (lists : TypeLists) : Type 0 where
  -- the admin
  creates_as_admin : IsTrue (is_the_admin caller) → MayCreate is_in caller lists
  -- to whom a word of the list grants it
  creates_by_word : Any (Grants is_in None None caller) lists.create → MayCreate is_in caller lists
