-- What a type object that takes the place of another leaves unsound.
use Rattle.std.proofs.Common.{◌≡◌, ℕ, List, Bool, true, false, not, ◌&&◌, ◌||◌, if◌then◌else◌, Option, Some, None, option_map, option_and_then, is_none, refl, ap, sym, ◌∙◌, true≢false}
use Rattle.std.specs.Option.{option_map_or}
use Rattle.std.specs.FinMap as finite
use Rattle.dobj_model.specs.declared.object.ObjectValue.{ObjectValue}
use Rattle.schema_core.specs.Rules.{Rules, plain}
use Rattle.schema_core.specs.References.{references_in}
use Rattle.type_core.specs.Least.{least}
use Rattle.type_core.specs.Names.{is_text, is_built_in, is_type_object, checked_content, plain_type, schema_type}
use Rattle.type_core.specs.Checked.{failure_of, first_failing, unmet_among}
use Rattle.type_core.specs.Sound.{Objects, makes, maker, rules_given, type_object, rules_at, is_of, fits_among, makes_same, is_name_in_use, is_sound_type, is_sound_in, least_unsound, AreNamed, IsSound, is_left_by, would_lose, MayReplace}
use Rattle.type_core.proofs.LeastLemmas.{some_same, least_none, least_passes, least_same, Passes}
use Rattle.type_core.proofs.PlaceLemmas.{by_place, kept, still, put_there}
use Rattle.type_core.proofs.PlainLemmas.{nothing_fails, nothing_refers}
use Rattle.type_core.proofs.RemoveLemmas.{stated_name, as_type, no_rules}
use Rattle.type_core.proofs.SoundLemmas.{both_true, not_true, holds_some, alike, same, both_make, turned, not_in_use, free_of, rules_carried, typed_part, stated_part, states, alone, stated_still}

module _ (m : Objects) (old o : ObjectValue) (may : MayReplace m old o) (named : AreNamed m)
    (sound : IsSound m) where
  abbrev after : Objects
  after = finite.insert m o.id o

  free : is_name_in_use m o ≡ false
  free = alone m o may.sound

  own_type : (v : ObjectValue) → is_type_object v ≡ true → v.type_name ≡ schema_type
  own_type v h = same v.type_name schema_type h

  -- each identifier is of an object of the same type
  of_same : (id t : List ℕ) → is_of after id t ≡ is_of m id t
  of_same id t = by (is_text id o.id) refl
    where
      type_in_place : old.type_name ≡ o.type_name
      type_in_place = own_type old may.was_type ∙ sym (own_type o may.is_type)

      by : (b : Bool) → is_text id o.id ≡ b → is_of after id t ≡ is_of m id t
      by true e =
          ap (λ x. option_map_or (λ w. is_text w.type_name t) x false) (put_there m o id e)
          ∙ ap (λ n. is_text n t) (sym type_in_place)
          ∙ ap (λ x. option_map_or (λ w. is_text w.type_name t) x false) (sym may.place
          ∙ ap (finite.get m) (sym (same id o.id e)))
      by false e = ap (λ x. option_map_or (λ w. is_text w.type_name t) x false) (still m o id e)

  same_of : is_of after ≡ is_of m
  same_of = λ i id t. of_same id t i

  -- ---- who makes which type

  -- what the old one makes is made by no other
  only_old : (n : List ℕ) → makes n old ≡ true → (j : List ℕ) (v : ObjectValue) → finite.get m j ≡ Some v
      → is_text j o.id ≡ false → makes n v ≡ true → ⊥
  only_old n mk j v at other h =
      not_in_use m old (as_type m n old mk (sound o.id old may.place)).1 j v at
      (ap (is_text j) (named o.id old may.place) ∙ other) (both_make n old v mk h)

  -- what makes a type that the old one doesn't make stands elsewhere
  elsewhere : (n : List ℕ) → makes n old ≡ false → (q : List ℕ) (v : ObjectValue) → finite.get m q ≡ Some v
      → makes n v ≡ true → is_text q o.id ≡ false
  elsewhere n mk q v is h = by (is_text q o.id) refl
    where
      by : (b : Bool) → is_text q o.id ≡ b → b ≡ false
      by false e = refl
      by true e =
          absurd (true≢false (sym h ∙ ap (makes n) (some_same v old (sym is
          ∙ ap (finite.get m) (same q o.id e) ∙ may.place)) ∙ mk))

  maker_new : (n : List ℕ) → makes n old ≡ true → makes n o ≡ true → maker after n ≡ Some o.id
  maker_new n was mk = by (maker after n) refl
    where
      by : (x : Option (List ℕ)) → maker after n ≡ x → x ≡ Some o.id
      by None e =
          absurd (true≢false (sym mk
          ∙ least_none (λ id v. makes n v) after e o.id o (put_there m o o.id (alike o.id))))
      by (Some j) e =
          let w = least_passes (λ id v. makes n v) after j e in
          by_place m o j w.0 w.1 (λ at _. ap Some at) (λ other at. absurd (only_old n was j w.0 at other w.2))

  maker_none : (n : List ℕ) → makes n old ≡ true → makes n o ≡ false → maker after n ≡ None
  maker_none n was mk = by (maker after n) refl
    where
      by : (x : Option (List ℕ)) → maker after n ≡ x → x ≡ None
      by None e = refl
      by (Some j) e =
          let w = least_passes (λ id v. makes n v) after j e in
          by_place m o j w.0 w.1 (λ _ at. absurd (true≢false (sym w.2 ∙ ap (makes n) (sym at) ∙ mk)))
          (λ other at. absurd (only_old n was j w.0 at other w.2))

  -- ---- the rules of a type

  unbuilt : (n : List ℕ) → makes n old ≡ true → is_built_in n ≡ false
  unbuilt n was = stated_name n old was (as_type m n old was (sound o.id old may.place)).0

  rules_new : (n : List ℕ) → makes n old ≡ true → makes n o ≡ true → rules_at after n ≡ rules_given o
  rules_new n was mk =
      ap (λ b. if b then Some plain else option_and_then rules_given (type_object after n)) (unbuilt n was)
      ∙ ap (λ x. option_and_then rules_given (option_and_then (finite.get after) x)) (maker_new n was mk)
      ∙ ap (option_and_then rules_given) (put_there m o o.id (alike o.id))

  rules_kept : (n : List ℕ) → makes n old ≡ false → (s : Rules) → rules_at m n ≡ Some s → rules_at after n ≡ Some s
  rules_kept n was s h =
      rules_carried m after n (λ j v at mk. kept m o j v at (elsewhere n was j v at mk))
      (λ j v at mk. sym (least_same (λ id w. makes n w) (λ id w. makes n w) m after there (back j v at mk))) s h
    where
      there : Passes (λ id w. makes n w) m (λ id w. makes n w) after
      there q w at mk = (kept m o q w at (elsewhere n was q w at mk), mk)

      back : (j : List ℕ) (v : ObjectValue) → finite.get m j ≡ Some v → makes n v ≡ true
          → Passes (λ id w. makes n w) after (λ id w. makes n w) m
      back j v is made q w at mk =
          by_place m o q w at
          (λ _ e. absurd (not_in_use m o free j v is (elsewhere n was j v is made) (both_make n o v (ap
          (makes n) e ∙ mk) made)))
          (λ _ before. (before, mk))

  -- ---- soundness

  the_rest : (q : List ℕ) (p : ObjectValue) → finite.get m q ≡ Some p → is_text q o.id ≡ false
      → (not (is_type_object p) || is_sound_type after p) ≡ true
  the_rest q p is other = stated_still m after p free_still (stated_part m p (sound q p is))
    where
      free_still : is_name_in_use m p ≡ false → is_name_in_use after p ≡ false
      free_still none =
          free_of after p (λ q' v at apart mk.
          by_place m o q' v at (λ _ e. not_in_use m o free q p is other (turned p o (ap (makes_same p) e ∙ mk)))
          (λ _ before. not_in_use m p none q' v before apart mk))

  also : (b : Bool) → (b && true) ≡ b
  also true = refl
  also false = refl

  twice : (b : Bool) → b ≡ not (not b)
  twice true = refl
  twice false = refl

  pub sound_replaced : (q : List ℕ) (p : ObjectValue) → finite.get m q ≡ Some p → is_text q o.id ≡ false
      → is_sound_in after p ≡ not (is_left_by m old o p)
  sound_replaced q p is other = by (makes p.type_name old) refl (makes p.type_name o) refl
    where
      fitting : (x : Option Rules) → option_map_or (fits_among after p) x false ≡ option_map_or (fits_among m p) x false
      fitting None = refl
      fitting (Some s) =
          ap (λ f. is_none (first_failing s p)
          && is_none (unmet_among f (references_in s (checked_content p)))) same_of

      judged : (x : Option Rules) → rules_at after p.type_name ≡ x → is_sound_in after p
          ≡ option_map_or (fits_among m p) x false
      judged x e =
          ap (λ b. option_map_or (fits_among after p) (rules_at after p.type_name) false && b) (the_rest q p is other)
          ∙ also (option_map_or (fits_among after p) (rules_at after p.type_name) false)
          ∙ ap (λ y. option_map_or (fits_among after p) y false) e ∙ fitting x

      kept_fit : makes p.type_name old ≡ false → is_sound_in after p ≡ true
      kept_fit was =
          let r = holds_some (fits_among m p) (rules_at m p.type_name) (typed_part m p (sound q p is)) in
          judged (Some r.0) (rules_kept p.type_name was r.0 r.1) ∙ r.2

      by : (a : Bool) → makes p.type_name old ≡ a → (b : Bool) → makes p.type_name o ≡ b
          → is_sound_in after p ≡ not (a && not (b && option_map_or (fits_among m p) (rules_given o) false))
      by true was true mk = judged (rules_given o) (rules_new p.type_name was mk)
          ∙ twice (option_map_or (fits_among m p) (rules_given o) false)
      by true was false mk = judged None (no_rules after p.type_name (unbuilt p.type_name was)
          (maker_none p.type_name was mk))
      by false was b mk = kept_fit was

  new_sound : is_sound_in after o ≡ true
  new_sound = ap (λ x. x && (not (is_type_object o) || is_sound_type after o)) typed
      ∙ ap (λ b. not b || is_sound_type after o) may.is_type ∙ stated
    where
      or_true : (b : Bool) → (b || true) ≡ true
      or_true true = refl
      or_true false = refl

      built : is_built_in o.type_name ≡ true
      built = ap (λ b. is_text o.type_name plain_type || b) may.is_type ∙ or_true (is_text o.type_name plain_type)

      fit : fits_among after o plain ≡ true
      fit =
          ap (λ x. is_none (option_map failure_of x)
          && is_none (unmet_among (is_of after) (references_in plain (checked_content o))))
          (nothing_fails (checked_content o))
          ∙ ap (λ rs. is_none (unmet_among (is_of after) rs)) (nothing_refers (checked_content o))

      typed : option_map_or (fits_among after o) (rules_at after o.type_name) false ≡ true
      typed =
          ap (λ b. option_map_or (fits_among after o) (if b then Some plain else option_and_then rules_given
          (type_object after o.type_name)) false) built
          ∙ fit

      free_still : is_name_in_use after o ≡ false
      free_still =
          free_of after o (λ q v at apart mk.
          by_place m o q v at (λ e _. true≢false (sym (ap (λ x. is_text x o.id) e ∙ alike o.id) ∙ apart))
          (λ _ before. not_in_use m o free q v before apart mk))

      stated : is_sound_type after o ≡ true
      stated = ap (λ x. x && not (is_name_in_use after o)) (states m o may.sound) ∙ ap not free_still

  -- The least object that isn't sound once the new one is there is the least that would lose its type.
  pub losing_is : least (would_lose m old o) m ≡ least_unsound after
  losing_is = least_same (would_lose m old o) (λ id p. not (is_sound_in after p)) m after there back
    where
      there : Passes (would_lose m old o) m (λ id p. not (is_sound_in after p)) after
      there q p is h =
          let b = both_true _ _ h in
          let other = not_true _ b.0 in
          (kept m o q p is other, ap not (sound_replaced q p is other ∙ ap not b.1))

      back : Passes (λ id p. not (is_sound_in after p)) after (would_lose m old o) m
      back q p at h =
          by_place m o q p at (λ _ e. absurd (true≢false (sym h ∙ ap not (ap (is_sound_in after) (sym e)
          ∙ new_sound))))
          (λ other before. (
            before,
            ap (λ t. not t && is_left_by m old o p) other ∙ twice (is_left_by m old o p)
                ∙ sym (ap not (sound_replaced q p before other)) ∙ h,
          ))
