-- Types, and who may do what with their objects. This project's own.
use Rattle.std.specs.Prelude.{ℕ, List, [], ◌∷◌, codes, Option, Some, None, unwrap_or, if◌then◌else◌}
use Rattle.acl_core.specs.declared.rights.TypeLists.{TypeLists}
use Rattle.repo_state.specs.Contents.{Objects}
use Rattle.repo_state.specs.Groups.{is_text}
use Rattle.repo_state.specs.Sound.{plain_type}

-- who may read, write and create plain objects: everybody, their creator, and every known caller
abbrev pub plain_lists : TypeLists
plain_lists = record {
  read = codes "public" ∷ [];
  write = codes "creator" ∷ [];
  create = codes "authenticated" ∷ [];
}

-- no list grants anything
abbrev pub no_lists : TypeLists
no_lists = record { read = []; write = []; create = [] }

-- the lists of a type, if it is known
abbrev pub known_lists : Objects → List ℕ → Option TypeLists
known_lists objects name = if is_text name plain_type then Some plain_lists else None

-- the lists of a type; one that isn't known grants nothing
abbrev pub lists_of : Objects → List ℕ → TypeLists
lists_of objects name = unwrap_or (known_lists objects name) no_lists
