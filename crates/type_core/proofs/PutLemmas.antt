-- What keeps objects sound when one is put among them.
use Rattle.std.proofs.Common.{◌≡◌, ℕ, List, Bool, true, false, cond, not, ◌&&◌, ◌||◌, if◌then◌else◌, Some, is_none, refl, ap, sym, ◌∙◌, true≢false}
use Rattle.std.specs.Option.{option_map_or}
use Rattle.std.specs.FinMap as finite
use Rattle.dobj_model.specs.declared.object.ObjectValue.{ObjectValue}
use Rattle.schema_core.specs.Rules.{Rules}
use Rattle.schema_core.specs.References.{references_in}
use Rattle.type_core.specs.Names.{is_text, is_type_object, checked_content}
use Rattle.type_core.specs.Checked.{unmet_among, is_of_with}
use Rattle.type_core.specs.Sound.{Objects, makes, maker, rules_at, is_of, fits_among, makes_same, is_name_in_use, is_sound_type, is_sound_in, IsSound, KeepsType, MayBePut}
use Rattle.type_core.proofs.LeastLemmas.{same_id_turned, least_same, Passes}
use Rattle.type_core.proofs.PlaceLemmas.{found_after, by_place, kept, put_there}
use Rattle.type_core.proofs.SoundLemmas.{holds_some, alike, same, only_types, both_make, one_made, turned, not_in_use, free_of, none_more, rules_carried, typed_part, stated_part, states, alone, valid_part, met_part, stated_still}

-- ---- an object that is put

module _ (m : Objects) (o : ObjectValue) (keeps : KeepsType m o) (free : is_type_object o ≡ true
    → is_name_in_use m o ≡ false) where
  abbrev after : Objects
  after = finite.insert m o.id o

  -- what stood in the object's place makes no type
  place_makes_none : (q : List ℕ) (v : ObjectValue) (n : List ℕ) → finite.get m q ≡ Some v → makes n v ≡ true
      → is_text q o.id ≡ false
  place_makes_none q v n is mk = by (is_text q o.id) refl
    where
      by : (b : Bool) → is_text q o.id ≡ b → b ≡ false
      by false e = refl
      by true e =
          absurd (true≢false (sym (only_types n v mk) ∙ (keeps v (ap (finite.get m) (sym (same q o.id e)) ∙ is)).1))

  -- a type that is made stays as it is
  module _ (n k : List ℕ) (v : ObjectValue) (is : finite.get m k ≡ Some v) (made : makes n v ≡ true) where
    there : Passes (λ id w. makes n w) m (λ id w. makes n w) after
    there q w at mk = (kept m o q w at (place_makes_none q w n at mk), mk)

    back : Passes (λ id w. makes n w) after (λ id w. makes n w) m
    back q w at mk = by_place m o q w at (λ _ e. absurd (taken (ap (makes n) e ∙ mk))) (λ _ old. (old, mk))
      where
        taken : makes n o ≡ true → ⊥
        taken mo =
            not_in_use m o (free (only_types n o mo)) k v is (place_makes_none k v n is made)
            (both_make n o v mo made)

    same_maker : maker after n ≡ maker m n
    same_maker = sym (least_same (λ id w. makes n w) (λ id w. makes n w) m after there back)

  rules_stay : (n : List ℕ) (r : Rules) → rules_at m n ≡ Some r → rules_at after n ≡ Some r
  rules_stay n r h =
      rules_carried m after n (λ k v at mk. kept m o k v at (place_makes_none k v n at mk))
      (λ k v at mk. same_maker n k v at mk) r h

  still_of : (id t : List ℕ) → is_of m id t ≡ true → is_of after id t ≡ true
  still_of id t h =
      let r = holds_some (λ v. is_text v.type_name t) (finite.get m id) h in
      by r.0 r.1 r.2 (is_text id o.id) refl
    where
      by : (v : ObjectValue) → finite.get m id ≡ Some v → is_text v.type_name t ≡ true → (b : Bool)
          → is_text id o.id ≡ b
          → is_of after id t ≡ true
      by v is ty true e =
          ap (λ x. option_map_or (λ w. is_text w.type_name t) x false) (put_there m o id e)
          ∙ ap (λ x. is_text x t) (sym (keeps v (ap (finite.get m) (sym (same id o.id e)) ∙ is)).0) ∙ ty
      by v is ty false e = ap (λ x. option_map_or (λ w. is_text w.type_name t) x false) (kept m o id v is e) ∙ ty

  fits_after : (p : ObjectValue) (r : Rules) → fits_among m p r ≡ true → fits_among after p r ≡ true
  fits_after p r h =
      ap (λ x. x && is_none (unmet_among (is_of after) (references_in r (checked_content p)))) (valid_part m p r h)
      ∙ ap is_none (none_more (is_of m) (is_of after) still_of (references_in r (checked_content p))
      (met_part m p r h))

  -- another object stays sound
  other_sound : (q : List ℕ) (p : ObjectValue) → finite.get m q ≡ Some p → is_text q o.id ≡ false
      → is_sound_in m p ≡ true
      → is_sound_in after p ≡ true
  other_sound q p is other sound =
      ap (λ x. x && (not (is_type_object p) || is_sound_type after p)) typed
      ∙ stated_still m after p free_still (stated_part m p sound)
    where
      typed : option_map_or (fits_among after p) (rules_at after p.type_name) false ≡ true
      typed =
          let r = holds_some (fits_among m p) (rules_at m p.type_name) (typed_part m p sound) in
          ap (λ x. option_map_or (fits_among after p) x false) (rules_stay p.type_name r.0 r.1) ∙ fits_after p r.0 r.2

      free_still : is_name_in_use m p ≡ false → is_name_in_use after p ≡ false
      free_still none =
          free_of after p (λ q' v at apart mk.
          by_place m o q' v at
          (λ _ e.
          let so = turned p o (ap (makes_same p) e ∙ mk) in
          not_in_use m o (free (only_types (one_made o p so).0 o (one_made o p so).1)) q p is other so)
          (λ _ old. not_in_use m p none q' v old apart mk))

  -- the object is sound
  put_sound : MayBePut m o → is_sound_in after o ≡ true
  put_sound may = ap (λ x. x && (not (is_type_object o) || is_sound_type after o)) typed
      ∙ over (is_type_object o) refl
    where
      by_itself : (id t : List ℕ) → is_of_with o (is_of m) id t ≡ true → is_of after id t ≡ true
      by_itself id t h =
          ap (λ x. option_map_or (λ w. is_text w.type_name t) x false)
          (found_after m o id ∙ ap (λ b. cond b (Some o) (finite.get m id)) (same_id_turned id o.id))
          ∙ cases (is_text o.id id) h
        where
          cases : (b : Bool) → (if b then is_text o.type_name t else is_of m id t) ≡ true
              → option_map_or (λ w. is_text w.type_name t) (cond b (Some o) (finite.get m id)) false ≡ true
          cases true h = h
          cases false h = h

      fit : fits_among after o may.schema ≡ true
      fit =
          ap (λ x. is_none x
          && is_none (unmet_among (is_of after) (references_in may.schema (checked_content o)))) may.valid
          ∙ ap is_none (none_more (is_of_with o (is_of m)) (is_of after) by_itself (references_in may.schema
          (checked_content o)) may.met)

      typed : option_map_or (fits_among after o) (rules_at after o.type_name) false ≡ true
      typed = ap (λ x. option_map_or (fits_among after o) x false) (rules_stay o.type_name may.schema may.known) ∙ fit

      free_still : is_name_in_use m o ≡ false → is_name_in_use after o ≡ false
      free_still none =
          free_of after o (λ q v at apart mk.
          by_place m o q v at (λ e _. true≢false (sym (ap (λ x. is_text x o.id) e ∙ alike o.id) ∙ apart))
          (λ _ old. not_in_use m o none q v old apart mk))

      over : (b : Bool) → is_type_object o ≡ b → (not b || is_sound_type after o) ≡ true
      over false e = refl
      over true e =
          ap (λ x. x && not (is_name_in_use after o)) (states m o (may.as_type e))
          ∙ ap not (free_still (alone m o (may.as_type e)))

-- An object that may be put leaves all sound.
pub sound_put : (m : Objects) (o : ObjectValue) → KeepsType m o → MayBePut m o → IsSound m
    → IsSound (finite.insert m o.id o)
sound_put m o keeps may sound q v at =
    by_place m o q v at (λ _ e. ap (is_sound_in (finite.insert m o.id o)) (sym e) ∙ put_sound m o keeps free may)
    (λ other old. other_sound m o keeps free q v old other (sound q v old))
  where
    free : is_type_object o ≡ true → is_name_in_use m o ≡ false
    free e = alone m o (may.as_type e)
