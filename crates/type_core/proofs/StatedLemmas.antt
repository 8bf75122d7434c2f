-- What type objects state where all objects are sound, and the parts of it.
use Rattle.std.proofs.Common.{codes, ◌≡◌, ℕ, List, Bool, true, false, not, ◌||◌, if◌then◌else◌, Option, Some, None, option_and_then, is_some, ◌&&◌, Result, Ok, Err, refl, ap, ap₂, sym, ◌∙◌, true≢false}
use Rattle.std.specs.Option.{option_map_or}
use Rattle.std.specs.Result.{is_ok}
use Rattle.std.specs.FinMap as finite
use Rattle.doip_json.specs.Value.{Value}
use Rattle.doip_json.specs.Look.{field_of}
use Rattle.acl_core.specs.declared.rights.TypeLists.{TypeLists}
use Rattle.dobj_model.specs.declared.object.ObjectValue.{ObjectValue}
use Rattle.schema_core.specs.Rules.{Rules}
use Rattle.type_core.specs.declared.content.TypeContent.{TypeContent}
use Rattle.type_core.specs.declared.content.TypeFault.{TypeFault}
use Rattle.type_core.specs.declared.content.TypeFault.TheVariants as faults
use Rattle.type_core.specs.Names.{is_text, is_type_object, name_given, may_name, checked_content, string_at}
use Rattle.type_core.specs.Content.{◌>>=◌, or_fault, given_name, type_in, name_in, schema_in, lists_of}
use Rattle.type_core.specs.Least.{least}
use Rattle.type_core.specs.Sound.{Objects, makes, maker, makes_same, is_name_in_use, unless_fault, is_sound_type, is_sound_in, AreNamed, IsSound}
use Rattle.type_core.specs.Kept.{content_given, type_at, is_made_at, is_stated_elsewhere}
use Rattle.type_core.proofs.LeastLemmas.{least_none, least_passes, some_same}
use Rattle.type_core.proofs.SoundLemmas.{both_true, not_true, holds_some, alike, same, only_types, both_make, not_in_use, free_of, stated_part, states, alone}
use Rattle.type_core.proofs.PlaceLemmas.{kept, put_there}
use Rattle.type_core.proofs.RemoveLemmas.{as_type}
use Rattle.type_core.proofs.KeptLemmas.{the_content}

-- ---- the type that an object makes

pub stated_made : (m : Objects) → AreNamed m → IsSound m → (id : List ℕ) (o : ObjectValue) → finite.get m id ≡ Some o
    → (name : List ℕ) → makes name o ≡ true → type_at m name ≡ content_given o
stated_made m named sound id o is name mk = by (maker m name) refl
  where
    over : (j : List ℕ) (w : ObjectValue) → finite.get m j ≡ Some w → makes name w ≡ true → (b : Bool)
        → is_text j o.id ≡ b → option_and_then content_given (finite.get m j) ≡ content_given o
    over j w at also true t =
        ap (λ k. option_and_then content_given (finite.get m k)) (same j o.id t ∙ named id o is)
        ∙ ap (option_and_then content_given) is
    over j w at also false t =
        absurd (not_in_use m o (as_type m name o mk (sound id o is)).1 j w at t (both_make name o w mk also))

    by : (x : Option (List ℕ)) → maker m name ≡ x → type_at m name ≡ content_given o
    by None e = absurd (true≢false (sym mk ∙ least_none (λ id v. makes name v) m e id o is))
    by (Some j) e =
        let w = least_passes (λ id v. makes name v) m j e in
        ap (λ x. option_and_then content_given (option_and_then (finite.get m) x)) e
        ∙ over j w.0 w.1 w.2 (is_text j o.id) refl

pub stated_unmade : (m : Objects) (name : List ℕ)
    → ((id : List ℕ) (o : ObjectValue) → finite.get m id ≡ Some o → makes name o ≡ false) → type_at m name ≡ None
stated_unmade m name none = by (maker m name) refl
  where
    by : (x : Option (List ℕ)) → maker m name ≡ x → type_at m name ≡ None
    by None e = ap (λ x. option_and_then content_given (option_and_then (finite.get m) x)) e
    by (Some j) e =
        let w = least_passes (λ id v. makes name v) m j e in
        absurd (true≢false (sym w.2 ∙ none j w.0 w.1))

-- ---- the parts of what content states

module _ {A : Type 0} where
  abbrev good : A → Result A TypeFault
  good a = Ok a

  abbrev bad : TypeFault → Result A TypeFault
  bad fault = Err fault

  ok_same : (a b : A) → good a ≡ good b → a ≡ b
  ok_same a b e = some_same a b (ap unless_fault e)

  no_fault : {P : Type 0} (fault : TypeFault) (b : A) → bad fault ≡ good b → P
  no_fault fault b e = absurd (true≢false (sym (ap is_ok e)))

record PartsOf (x : Result (List ℕ) TypeFault) (y : Result Rules TypeFault) (hook : Option (List ℕ))
    (t : TypeContent) : Type 0 where
  name : x ≡ Ok t.name
  schema : y ≡ Ok t.schema
  hooked : hook ≡ t.hook

parts : (x : Result (List ℕ) TypeFault) (y : Result Rules TypeFault) (z : Result TypeLists TypeFault)
    (hook : Option (List ℕ)) (t : TypeContent)
    → (x >>= (λ name. y >>= (λ schema. z >>= (λ lists. Ok (the_content name schema lists hook))))) ≡ Ok t
    → PartsOf x y hook t
parts (Ok a) (Ok s) (Ok l) hook t e =
    let is : the_content a s l hook ≡ t = ok_same _ _ e in
    record { name = ap (λ t. Ok t.name) is; schema = ap (λ t. Ok t.schema) is; hooked = ap (λ t. t.hook) is }
parts (Ok a) (Ok s) (Err f) hook t e = no_fault f t e
parts (Ok a) (Err f) z hook t e = no_fault f t e
parts (Err f) y z hook t e = no_fault f t e

name_found : (x : Option (List ℕ)) (n : List ℕ) → or_fault (option_and_then given_name x) faults.Name ≡ Ok n
    → x ≡ Some n
name_found None n e = no_fault faults.Name n e
name_found (Some k) n e = by (may_name k) e
  where
    by : (b : Bool) → or_fault (if b then Some k else None) faults.Name ≡ Ok n → Some k ≡ Some n
    by true e = ap unless_fault e
    by false e = no_fault faults.Name n e

pub parts_in : (content : Value) (t : TypeContent) → type_in content ≡ Ok t
    → (string_at (codes "name") content ≡ Some t.name) × (schema_in content ≡ Ok t.schema)
    × (string_at (codes "hook") content ≡ t.hook)
unfolding type_in
parts_in content t e =
    let p = parts (name_in content) (schema_in content) (lists_of (field_of (codes "authConfig") content))
    (string_at (codes "hook") content) t e in
    (name_found (string_at (codes "name") content) t.name p.name, p.schema, p.hooked)

-- what a sound object is as a type object
as_sound_type : (m : Objects) (o : ObjectValue) → is_type_object o ≡ true → is_sound_in m o ≡ true
    → is_sound_type m o ≡ true
as_sound_type m o typed sound = by (is_type_object o) typed (stated_part m o sound)
  where
    by : (b : Bool) → b ≡ true → (not b || is_sound_type m o) ≡ true → is_sound_type m o ≡ true
    by true e h = h
    by false e h = absurd (true≢false (sym e))

-- a sound type object states a type, of the name that it gives
pub states_a_type : (m : Objects) → IsSound m → (id : List ℕ) (o : ObjectValue) → finite.get m id ≡ Some o
    → is_type_object o ≡ true → (t : TypeContent) × (content_given o ≡ Some t) × (name_given o ≡ Some t.name)
states_a_type m sound id o is typed =
    by (type_in (checked_content o)) refl (states m o (as_sound_type m o typed (sound id o is)))
  where
    by : (r : Result TypeContent TypeFault) → type_in (checked_content o) ≡ r → is_ok (type_in (checked_content o)) ≡ true
        → (t : TypeContent) × (content_given o ≡ Some t) × (name_given o ≡ Some t.name)
    by (Ok t) e ok = (
      t,
      ap unless_fault e,
      ap (λ b. if b then string_at (codes "name") (checked_content o) else None) typed ∙ (parts_in (checked_content o) t e).0,
    )
    by (Err f) e ok = absurd (true≢false (sym ok ∙ ap is_ok e))

-- ---- a name in use, by what is stated

no_other : (b : Bool) → false ≡ (b && false)
no_other true = refl
no_other false = refl

least_there : (o : Option (List ℕ)) → is_some o ≡ true → (k : List ℕ) × (o ≡ Some k)
least_there None h = absurd (true≢false (sym h))
least_there (Some k) h = (k, refl)

module _ (m : Objects) (named : AreNamed m) (sound : IsSound m) (o : ObjectValue) (n : List ℕ)
    (given : name_given o ≡ Some n) where
  -- the other object makes the type of the same name if it makes that of this one
  same_made : (v : ObjectValue) → makes_same o v ≡ makes n v
  same_made v = ap (λ x. option_map_or (λ name. makes name v) x false) given

  -- another one that makes the type is the only one
  not_here : (k : List ℕ) (v : ObjectValue) → finite.get m k ≡ Some v → is_text k o.id ≡ false → makes n v ≡ true
      → is_made_at m o.id n ≡ false
  not_here k v is other mk = by (is_made_at m o.id n) refl
    where
      by : (b : Bool) → is_made_at m o.id n ≡ b → b ≡ false
      by false h = refl
      by true h =
          let old = holds_some (makes n) (finite.get m o.id) h in
          absurd (not_in_use m old.0 (as_type m n old.0 old.2 (sound o.id old.0 old.1)).1 k v is
          (ap (is_text k) (named o.id old.0 old.1) ∙ other) (both_make n old.0 v old.2 mk))

  used : is_name_in_use m o ≡ true → true ≡ (is_some (type_at m n) && not (is_made_at m o.id n))
  used h =
      let k = least_there (least (λ id v. not (is_text id o.id) && makes_same o v) m) h in
      let r = least_passes (λ id v. not (is_text id o.id) && makes_same o v) m k.0 k.1 in
      let b = both_true (not (is_text k.0 o.id)) (makes_same o r.0) r.2 in
      let mk : makes n r.0 ≡ true = sym (same_made r.0) ∙ b.1 in
      let t = states_a_type m sound k.0 r.0 r.1 (only_types n r.0 mk) in
      sym (ap₂ (λ x y. x && not y)
      (ap is_some (stated_made m named sound k.0 r.0 r.1 n mk ∙ t.1))
      (not_here k.0 r.0 r.1 (not_true _ b.0) mk))

  unused : is_name_in_use m o ≡ false → false ≡ (is_some (type_at m n) && not (is_made_at m o.id n))
  unused h = by (maker m n) refl
    where
      over : (j : List ℕ) (w : ObjectValue) → finite.get m j ≡ Some w → makes n w ≡ true → (b : Bool)
          → is_text j o.id ≡ b → false ≡ (is_some (type_at m n) && not (is_made_at m o.id n))
      over j w is mk true t =
          no_other (is_some (type_at m n))
          ∙ sym (ap (λ x. is_some (type_at m n) && not x)
          (ap (λ x. option_map_or (makes n) x false) (sym (ap (finite.get m) (same j o.id t)) ∙ is) ∙ mk))
      over j w is mk false t = absurd (not_in_use m o h j w is t (same_made w ∙ mk))

      by : (x : Option (List ℕ)) → maker m n ≡ x → false ≡ (is_some (type_at m n) && not (is_made_at m o.id n))
      by None e =
          sym (ap (λ x. is_some x && not (is_made_at m o.id n))
          (ap (λ x. option_and_then content_given (option_and_then (finite.get m) x)) e))
      by (Some j) e =
          let w = least_passes (λ id v. makes n v) m j e in
          over j w.0 w.1 w.2 (is_text j o.id) refl

pub in_use_is : (m : Objects) → AreNamed m → IsSound m → (o : ObjectValue)
    → is_name_in_use m o ≡ is_stated_elsewhere m o
in_use_is m named sound o = by (name_given o) refl
  where
    by : (g : Option (List ℕ)) → name_given o ≡ g → is_name_in_use m o
        ≡ option_map_or (λ n. is_some (type_at m n) && not (is_made_at m o.id n)) g false
    by None e =
        free_of m o (λ q v is other mk.
        true≢false (sym mk ∙ ap (λ x. option_map_or (λ name. makes name v) x false) e))
    by (Some n) e = over (is_name_in_use m o) refl
      where
        over : (b : Bool) → is_name_in_use m o ≡ b → b ≡ (is_some (type_at m n) && not (is_made_at m o.id n))
        over true h = used m named sound o n e h
        over false h = unused m named sound o n e h

-- a type object that is sound after it was put gives a name that no other has before
pub free_before : (m : Objects) (o : ObjectValue) → IsSound (finite.insert m o.id o) → is_type_object o ≡ true
    → is_name_in_use m o ≡ false
free_before m o sound typed =
    let after = finite.insert m o.id o in
    let stated = as_sound_type after o typed (sound o.id o (put_there m o o.id (alike o.id))) in
    free_of m o (λ q v is other mk. not_in_use after o (alone after o stated) q v (kept m o q v is other) other mk)
