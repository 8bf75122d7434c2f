-- When objects are sound. This project's own.
use Rattle.std.specs.Prelude.{◌≡◌, ◌≤◌, ◌^◌, ℕ, List, codes, not, Bool, true, Option, Some}
use Rattle.std.specs.FinMap as map
use Rattle.dobj_model.specs.declared.object.ObjectValue.{ObjectValue}
use Rattle.repo_state.specs.Least.{least}
use Rattle.repo_state.specs.Contents.{Objects, Contents}
use Rattle.repo_state.specs.Groups.{is_text}

-- the type of a plain digital object, which is built in
abbrev pub plain_type : List ℕ
plain_type = codes "0.TYPE/DO"

-- a type that objects may have
abbrev pub is_known : Objects → List ℕ → Bool
is_known objects name = is_text name plain_type

-- an object is sound among these objects if its type is known
abbrev pub is_sound_in : Objects → ObjectValue → Bool
is_sound_in objects o = is_known objects o.type_name

-- the least identifier of an object that isn't sound
abbrev pub least_unsound : Objects → Option (List ℕ)
least_unsound objects = least (λ id o. not (is_sound_in objects o)) objects

-- each object stands under its own identifier
abbrev pub AreNamed : Objects → Type 0
AreNamed objects = (id : List ℕ) (o : ObjectValue) → map.get objects id ≡ Some o → o.id ≡ id

-- each object is sound among all
abbrev pub IsSound : Objects → Type 0
IsSound objects = (id : List ℕ) (o : ObjectValue) → map.get objects id ≡ Some o → is_sound_in objects o ≡ true

-- the counter's first and last value
abbrev pub last_counter : ℕ
last_counter = 2 ^ 62

-- What a repository keeps at all times: objects under their own identifiers, each of them sound, and a counter in range.
pub record IsConsistent (c : Contents) : Type 0 where
  pub named : AreNamed c.objects
  pub sound : IsSound c.objects
  pub first : 1 ≤ c.counter
  pub last : c.counter ≤ last_counter
