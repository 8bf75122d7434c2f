-- What an object that is taken away leaves unsound.
use Rattle.std.proofs.Common.{codes, ◌≡◌, ℕ, List, [], ◌∷◌, Bool, true, false, cond, not, ◌&&◌, ◌||◌, if◌then◌else◌, Option, Some, None, option_map, option_and_then, is_none, Result, Ok, Err, refl, ap, sym, ◌∙◌, find, true≢false}
use Rattle.std.specs.Option.{option_map_or}
use Rattle.std.specs.Result.{is_ok}
use Rattle.std.specs.List.{list_any}
use Rattle.std.specs.Cmp.Lexicographic.{nat_list_cmp_total}
use Rattle.std.specs.Ordering.{eq_by_cmp}
use Rattle.std.specs.FinMap as finite
use Rattle.doip_json.specs.Value.{Value}
use Rattle.dobj_model.specs.declared.object.ObjectValue.{ObjectValue}
use Rattle.schema_core.specs.declared.collecting.Reference.{Reference}
use Rattle.schema_core.specs.Rules.{Rules, plain}
use Rattle.schema_core.specs.References.{references_in}
use Rattle.type_core.specs.Least.{id_cmp, least}
use Rattle.type_core.specs.Names.{is_text, is_built_in, may_name, is_type_object, name_given, checked_content, string_at}
use Rattle.doip_json.specs.Look.{field_of}
use Rattle.acl_core.specs.declared.rights.TypeLists.{TypeLists}
use Rattle.type_core.specs.declared.content.TypeContent.{TypeContent}
use Rattle.type_core.specs.declared.content.TypeFault.{TypeFault}
use Rattle.type_core.specs.declared.content.TypeFault.TheVariants as faults
use Rattle.type_core.specs.Content.{◌>>=◌, type_in, name_in, schema_in, lists_of, given_name, or_fault}
use Rattle.type_core.specs.Checked.{unmet_among, is_met}
use Rattle.type_core.specs.Sound.{Objects, makes, maker, rules_given, type_object, rules_at, is_of, fits_among, is_name_in_use, is_sound_type, is_sound_in, least_unsound, AreNamed, IsSound, leans_on, would_miss}
use Rattle.type_core.proofs.LeastLemmas.{same_id, some_same, no_some, least_passes, least_same, Passes}
use Rattle.type_core.proofs.SoundLemmas.{both_true, not_true, holds_some, same, only_types, both_make, not_in_use, free_of, rules_carried, typed_part, stated_part, states, alone, valid_part, met_part, stated_still}

-- ---- the name of a sound type object

-- it is none that is built in
unbuilt : (n : List ℕ) → may_name n ≡ true → is_built_in n ≡ false
unbuilt n h = not_true _ (both_true _ _ (both_true _ _ h).1).1

bound_ok : {A B : Type 0} (x : Result A TypeFault) (f : A → Result B TypeFault) → is_ok (x >>= f) ≡ true
    → (a : A) × (x ≡ Ok a)
bound_ok (Ok a) f h = (a, refl)
bound_ok (Err fault) f h = absurd (true≢false (sym h))

name_read : (content : Value) → is_ok (type_in content) ≡ true → (n : List ℕ) × (name_in content ≡ Ok n)
unfolding type_in
name_read content h =
    bound_ok (name_in content)
    (λ name.
    schema_in content >>= (λ schema.
    lists_of (field_of (codes "authConfig") content) >>= (λ lists.
    Ok (the_content name schema lists (string_at (codes "hook") content))))) h
  where
    the_content : List ℕ → Rules → TypeLists → Option (List ℕ) → TypeContent
    the_content name schema lists hook = record { name = name; schema = schema; lists = lists; hook = hook }

given_ok : (b : Bool) (g r : List ℕ) → or_fault (if b then Some g else None) faults.Name ≡ Ok r → b ≡ true
given_ok true g r e = refl
given_ok false g r e = absurd (true≢false (sym (ap is_ok e)))

pub stated_name : (n : List ℕ) (o : ObjectValue) → makes n o ≡ true → is_ok (type_in (checked_content o))
    ≡ true → is_built_in n ≡ false
stated_name n o mk ok =
    let g = holds_some (λ given. is_text given n) (name_given o) mk in
    let s : string_at (codes "name") (checked_content o) ≡ Some g.0 =
    ap (λ b. if b then string_at (codes "name") (checked_content o) else None) (sym (only_types n o mk)) ∙ g.1 in
    let r = name_read (checked_content o) ok in
    let e : or_fault (given_name g.0) faults.Name ≡ Ok r.0 =
    ap (λ x. or_fault (option_and_then given_name x) faults.Name) (sym s) ∙ r.1 in
    ap is_built_in (sym (same g.0 n g.2)) ∙ unbuilt g.0 (given_ok (may_name g.0) g.0 r.0 e)

-- what a sound type object says as one
pub as_type : (m : Objects) (n : List ℕ) (o : ObjectValue) → makes n o ≡ true → is_sound_in m o ≡ true
    → (is_ok (type_in (checked_content o)) ≡ true) × (is_name_in_use m o ≡ false)
as_type m n o mk sound = by (is_type_object o) (only_types n o mk) (stated_part m o sound)
  where
    by : (b : Bool) → b ≡ true → (not b || is_sound_type m o) ≡ true
        → (is_ok (type_in (checked_content o)) ≡ true) × (is_name_in_use m o ≡ false)
    by false e h = absurd (true≢false (sym e))
    by true e h = (states m o h, alone m o h)

-- a type that nobody makes, and that isn't built in, has no rules
pub no_rules : (n : Objects) (name : List ℕ) → is_built_in name ≡ false → maker n name ≡ None
    → rules_at n name ≡ None
no_rules n name e none =
    ap (λ b. if b then Some plain else option_and_then rules_given (type_object n name)) e
    ∙ ap (λ x. option_and_then rules_given (option_and_then (finite.get n) x)) none

-- ---- without an object

module _ (m : Objects) (k : List ℕ) where
  abbrev without : Objects
  without = finite.remove m k

  found_without : (q : List ℕ) → finite.get without q ≡ cond (eq_by_cmp id_cmp q k) None (finite.get m q)
  found_without q = finite.get-remove nat_list_cmp_total m k q

  -- what is found was there under another identifier
  pub there_before : (q : List ℕ) (v : ObjectValue) → finite.get without q ≡ Some v → (is_text q k
      ≡ false) × (finite.get m q ≡ Some v)
  there_before q v is = by (eq_by_cmp id_cmp q k) refl (sym (found_without q) ∙ is)
    where
      by : (t : Bool) → eq_by_cmp id_cmp q k ≡ t → cond t None (finite.get m q) ≡ Some v
          → (is_text q k ≡ false) × (finite.get m q ≡ Some v)
      by true t f = absurd (no_some v (sym f))
      by false t f = (sym (same_id q k) ∙ t, f)

  pub still_there : (q : List ℕ) → is_text q k ≡ false → finite.get without q ≡ finite.get m q
  still_there q e = found_without q ∙ ap (λ t. cond t None (finite.get m q)) (same_id q k ∙ e)

  gone : (q : List ℕ) → is_text q k ≡ true → finite.get without q ≡ None
  gone q e = found_without q ∙ ap (λ t. cond t None (finite.get m q)) (same_id q k ∙ e)

  any_gone : (id : List ℕ) (ts : List (List ℕ)) → is_text id k ≡ true → list_any (is_of without id) ts ≡ false
  any_gone id [] e = refl
  any_gone id (t ∷ ts) e =
      ap (λ x. option_map_or (λ o. is_text o.type_name t) x false || list_any (is_of without id) ts) (gone id e)
      ∙ any_gone id ts e

  any_still : (id : List ℕ) (ts : List (List ℕ)) → is_text id k ≡ false → list_any (is_of without id) ts
      ≡ list_any (is_of m id) ts
  any_still id [] e = refl
  any_still id (t ∷ ts) e =
      ap (λ x. option_map_or (λ o. is_text o.type_name t) x false || list_any (is_of without id) ts)
      (still_there id e)
      ∙ ap (λ b. is_of m id t || b) (any_still id ts e)

  -- references that are all met are met without the object exactly if none names it
  unmet_without : (rs : List Reference) → unmet_among (is_of m) rs ≡ None
      → is_none (unmet_among (is_of without) rs) ≡ not (list_any (λ r. is_text r.id k) rs)
  unmet_without [] h = refl
  unmet_without (r ∷ rs) h = by (unmet_without rs) (is_met (is_of m) r) refl h
    where
      over : (unmet_among (is_of m) rs ≡ None → is_none (unmet_among (is_of without) rs)
          ≡ not (list_any (λ r. is_text r.id k) rs))
          → is_met (is_of m) r ≡ true → unmet_among (is_of m) rs ≡ None → (t : Bool) → is_text r.id k ≡ t
          → is_none (unmet_among (is_of without) (r ∷ rs)) ≡ not (t || list_any (λ r. is_text r.id k) rs)
      over again met rest true t =
          ap (λ b. is_none (option_map (λ r. r.pointer) (cond (not b) (Some r) (find (λ r. not (is_met
          (is_of without) r)) rs))))
          (any_gone r.id r.types t)
      over again met rest false t =
          ap (λ b. is_none (option_map (λ r. r.pointer) (cond (not b) (Some r) (find (λ r. not (is_met
          (is_of without) r)) rs))))
          (any_still r.id r.types t ∙ met)
          ∙ again rest

      by : (unmet_among (is_of m) rs ≡ None → is_none (unmet_among (is_of without) rs)
          ≡ not (list_any (λ r. is_text r.id k) rs))
          → (b : Bool) → is_met (is_of m) r ≡ b
          → option_map (λ r. r.pointer) (cond (not b) (Some r) (find (λ r. not (is_met (is_of m) r)) rs)) ≡ None
          → is_none (unmet_among (is_of without) (r ∷ rs)) ≡ not (list_any (λ r. is_text r.id k) (r ∷ rs))
      by again true e h = over again e h (is_text r.id k) refl
      by again false e h = absurd (no_some r.pointer h)

  -- a name that isn't in use stays so
  free_without : (p : ObjectValue) → is_name_in_use m p ≡ false → is_name_in_use without p ≡ false
  free_without p none =
      free_of without p (λ q v at apart mk. not_in_use m p none q v (there_before q v at).1 apart mk)

  module _ (old : ObjectValue) (at : finite.get m k ≡ Some old) (named : AreNamed m) (sound : IsSound m) where
    -- the type that the object makes is made by no other
    pub lone_maker : (n : List ℕ) → makes n old ≡ true → maker without n ≡ None
    lone_maker n mk = by (maker without n) refl
      where
        by : (x : Option (List ℕ)) → maker without n ≡ x → x ≡ None
        by None e = refl
        by (Some j) e =
            let w = least_passes (λ id v. makes n v) without j e in
            let b = there_before j w.0 w.1 in
            absurd (not_in_use m old (as_type m n old mk (sound k old at)).1 j w.0 b.1
            (ap (is_text j) (named k old at) ∙ b.0) (both_make n old w.0 mk w.2))

    -- another type is made by what made it
    same_maker : (n : List ℕ) → makes n old ≡ false → maker without n ≡ maker m n
    same_maker n mk = least_same (λ id v. makes n v) (λ id v. makes n v) without m (λ q v is h.
        ((there_before q v is).1, h)) (λ q v is h. (there q v is h, h))
      where
        there : (q : List ℕ) (v : ObjectValue) → finite.get m q ≡ Some v → makes n v ≡ true
            → finite.get without q ≡ Some v
        there q v is h = by (is_text q k) refl
          where
            by : (b : Bool) → is_text q k ≡ b → finite.get without q ≡ Some v
            by false e = still_there q e ∙ is
            by true e =
                absurd (true≢false (sym h ∙ ap (makes n) (some_same v old (sym is
                ∙ ap (finite.get m) (same q k e) ∙ at)) ∙ mk))

    pub sound_without : (q : List ℕ) (p : ObjectValue) (s : Rules) → finite.get m q ≡ Some p
        → rules_at m p.type_name ≡ Some s
        → is_sound_in without p ≡ not (leans_on old s p)
    sound_without q p s is known = by (makes p.type_name old) refl
      where
        the_rest : (not (is_type_object p) || is_sound_type without p) ≡ true
        the_rest = stated_still m without p (free_without p) (stated_part m p (sound q p is))

        fit : fits_among m p s ≡ true
        fit = ap (λ x. option_map_or (fits_among m p) x false) (sym known) ∙ typed_part m p (sound q p is)

        unnamed : is_none (unmet_among (is_of without) (references_in s (checked_content p)))
            ≡ not (list_any (λ r. is_text r.id old.id) (references_in s (checked_content p)))
        unnamed =
            unmet_without (references_in s (checked_content p)) (met_part m p s fit)
            ∙ ap (λ i. not (list_any (λ r. is_text r.id i) (references_in s (checked_content p)))) (sym
            (named k old at))

        also : (b : Bool) → (b && true) ≡ b
        also true = refl
        also false = refl

        by : (t : Bool) → makes p.type_name old ≡ t → is_sound_in without p
            ≡ not (t || list_any (λ r. is_text r.id old.id) (references_in s (checked_content p)))
        by true mk =
            ap (λ x. option_map_or (fits_among without p) x false && (not (is_type_object p) || is_sound_type without p))
            (no_rules without p.type_name (stated_name p.type_name old mk (as_type m p.type_name old mk
            (sound k old at)).0) (lone_maker p.type_name mk))
        by false mk =
            ap (λ x. option_map_or (fits_among without p) x false && (not (is_type_object p) || is_sound_type without p))
            (rules_carried m without p.type_name (λ j v is h. kept j v is h)
            (λ _ _ _ _. same_maker p.type_name mk) s known)
            ∙ ap (λ x. fits_among without p s && x) the_rest ∙ also (fits_among without p s)
            ∙ ap (λ x. x
            && is_none (unmet_among (is_of without) (references_in s (checked_content p))))
            (valid_part m p s fit)
            ∙ unnamed
          where
            kept : (j : List ℕ) (v : ObjectValue) → finite.get m j ≡ Some v → makes p.type_name v ≡ true
                → finite.get without j ≡ Some v
            kept j v is h = over (is_text j k) refl
              where
                over : (b : Bool) → is_text j k ≡ b → finite.get without j ≡ Some v
                over false e = still_there j e ∙ is
                over true e =
                    absurd (true≢false (sym h ∙ ap (makes p.type_name) (some_same v old (sym is
                    ∙ ap (finite.get m) (same j k e) ∙ at)) ∙ mk))

    -- The least object that isn't sound without this one is the least that would miss it.
    pub missing_is : least (would_miss m old) m ≡ least_unsound without
    missing_is = least_same (would_miss m old) (λ id o. not (is_sound_in without o)) m without there back
      where
        own : (q : List ℕ) → is_text q old.id ≡ is_text q k
        own q = ap (is_text q) (named k old at)

        twice : (b : Bool) → not (not b) ≡ true → b ≡ true
        twice true h = refl
        twice false h = absurd (true≢false (sym h))

        there : Passes (would_miss m old) m (λ id o. not (is_sound_in without o)) without
        there q p is h =
            let b = both_true _ _ h in
            let r = holds_some (λ s. leans_on old s p) (rules_at m p.type_name) b.1 in
            (still_there q (sym (own q) ∙ not_true _ b.0) ∙ is, ap not (sound_without q p r.0 is r.1 ∙ ap not r.2))

        back : Passes (λ id o. not (is_sound_in without o)) without (would_miss m old) m
        back q p is h =
            let b = there_before q p is in
            let r = holds_some (fits_among m p) (rules_at m p.type_name) (typed_part m p (sound q p b.1)) in (
              b.1,
              ap (λ t. not t && option_map_or (λ s. leans_on old s p) (rules_at m p.type_name) false) (own q ∙ b.0)
                  ∙ ap (λ x. option_map_or (λ s. leans_on old s p) x false) r.1
                  ∙ twice (leans_on old r.0 p) (sym (ap not (sound_without q p r.0 b.1 r.1)) ∙ h),
            )
