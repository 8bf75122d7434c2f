-- What makes objects sound, and when a type object, a reference or a name is one.
use Rattle.std.proofs.Common.{codes, ◌≡◌, ℕ, List, [], ◌∷◌, Bool, true, false, cond, not, ◌&&◌, ◌||◌, if◌then◌else◌, Option, Some, None, option_map, option_and_then, is_some, is_none, refl, ap, sym, ◌∙◌, find, true≢false}
use Rattle.std.specs.Option.{option_map_or}
use Rattle.std.specs.Result.{is_ok}
use Rattle.std.specs.List.{list_any}
use Rattle.std.specs.Cmp.Lexicographic.{same_text}
use Rattle.std.specs.Ordering.{is_eq}
use Rattle.std.specs.FinMap as finite
use Rattle.dobj_model.specs.declared.object.ObjectValue.{ObjectValue}
use Rattle.schema_core.specs.declared.collecting.Reference.{Reference}
use Rattle.schema_core.specs.Rules.{Rules, plain}
use Rattle.schema_core.specs.References.{references_in}
use Rattle.type_core.specs.Least.{least}
use Rattle.type_core.specs.Names.{is_text, is_built_in, is_type_object, name_given, checked_content, string_at}
use Rattle.type_core.specs.Content.{type_in}
use Rattle.type_core.specs.Checked.{first_failing, unmet_among, is_met}
use Rattle.type_core.specs.Sound.{Objects, makes, maker, type_object, rules_given, rules_at, is_of, fits_among, makes_same, is_name_in_use, is_sound_type, is_sound_in, least_unsound, IsSound}
use Rattle.type_core.proofs.LeastLemmas.{same_id, level, no_some, least_none, least_passes}

-- ---- tests

pub both_true : (a b : Bool) → (a && b) ≡ true → (a ≡ true) × (b ≡ true)
both_true true b h = (refl, h)
both_true false b h = absurd (true≢false (sym h))

pub not_true : (b : Bool) → not b ≡ true → b ≡ false
not_true false h = refl
not_true true h = absurd (true≢false (sym h))

pub not_false : (b : Bool) → not b ≡ false → b ≡ true
not_false true h = refl
not_false false h = absurd (true≢false h)

pub is_nothing : {A : Type 0} (o : Option A) → is_none o ≡ true → o ≡ None
is_nothing None h = refl
is_nothing (Some a) h = absurd (true≢false (sym h))

-- what passes is there
pub holds_some : {A : Type 0} (f : A → Bool) (o : Option A) → option_map_or f o false ≡ true → (a : A) × (o
    ≡ Some a) × (f a ≡ true)
holds_some f None h = absurd (true≢false (sym h))
holds_some f (Some a) h = (a, refl, h)

-- a text is itself
pub alike : (k : List ℕ) → is_text k k ≡ true
alike k = sym (same_id k k) ∙ ap is_eq (level k)

pub same : (a b : List ℕ) → is_text a b ≡ true → a ≡ b
same a b e = same_text a b (sym e)

-- ---- names

-- only a type object makes a type
pub only_types : (n : List ℕ) (v : ObjectValue) → makes n v ≡ true → is_type_object v ≡ true
only_types n v h = by (is_type_object v) refl h
  where
    by : (b : Bool) → is_type_object v ≡ b
        → option_map_or (λ given. is_text given n) (if b then string_at (codes "name")
        (checked_content v) else None) false ≡ true
        → is_type_object v ≡ true
    by true e h = e
    by false e h = absurd (true≢false (sym h))

-- two objects that make one type
pub both_make : (n : List ℕ) (o v : ObjectValue) → makes n o ≡ true → makes n v ≡ true → makes_same o v ≡ true
both_make n o v a b =
    let r = holds_some (λ given. is_text given n) (name_given o) a in
    ap (λ x. option_map_or (λ name. makes name v) x false) r.1 ∙ ap (λ g. makes g v) (same r.0 n r.2) ∙ b

-- and the type that they make
pub one_made : (o v : ObjectValue) → makes_same o v ≡ true → (n : List ℕ) × (makes n o ≡ true) × (makes n v ≡ true)
one_made o v h =
    let r = holds_some (λ name. makes name v) (name_given o) h in
    (r.0, ap (λ x. option_map_or (λ given. is_text given r.0) x false) r.1 ∙ alike r.0, r.2)

pub turned : (o v : ObjectValue) → makes_same o v ≡ true → makes_same v o ≡ true
turned o v h = let r = one_made o v h in both_make r.0 v o r.2 r.1

-- a name that isn't in use has no other object that makes the type
pub not_in_use : (m : Objects) (o : ObjectValue) → is_name_in_use m o ≡ false → (q : List ℕ) (v : ObjectValue)
    → finite.get m q ≡ Some v → is_text q o.id ≡ false → makes_same o v ≡ true → ⊥
not_in_use m o free q v is other mk =
    true≢false (sym (ap (λ b. not b && makes_same o v) other ∙ mk)
    ∙ least_none (λ id w. not (is_text id o.id) && makes_same o w) m (by _ free) q v is)
  where
    by : (x : Option (List ℕ)) → is_some x ≡ false → x ≡ None
    by None h = refl
    by (Some k) h = absurd (true≢false h)

pub free_of : (m : Objects) (o : ObjectValue)
    → ((q : List ℕ) (v : ObjectValue) → finite.get m q ≡ Some v → is_text q o.id ≡ false → makes_same o v
    ≡ true → ⊥)
    → is_name_in_use m o ≡ false
free_of m o none = by (least (λ id w. not (is_text id o.id) && makes_same o w) m) refl
  where
    by : (x : Option (List ℕ)) → least (λ id w. not (is_text id o.id) && makes_same o w) m ≡ x → is_some x ≡ false
    by None e = refl
    by (Some k) e =
        let r = least_passes (λ id w. not (is_text id o.id) && makes_same o w) m k e in
        let b = both_true _ _ r.2 in
        absurd (none k r.0 r.1 (not_true _ b.0) b.1)

-- ---- references

-- what is met by some objects is met by more
module _ (f g : List ℕ → List ℕ → Bool) (more : (id t : List ℕ) → f id t ≡ true → g id t ≡ true) where
  any_more : (id : List ℕ) (ts : List (List ℕ)) → list_any (f id) ts ≡ true → list_any (g id) ts ≡ true
  any_more id [] h = h
  any_more id (t ∷ ts) h = by (any_more id ts) (f id t) refl h
    where
      over : list_any (g id) ts ≡ true → (b : Bool) → (b || list_any (g id) ts) ≡ true
      over rest true = refl
      over rest false = rest

      by : (list_any (f id) ts ≡ true → list_any (g id) ts ≡ true) → (b : Bool) → f id t ≡ b
          → (b || list_any (f id) ts) ≡ true → (g id t || list_any (g id) ts) ≡ true
      by rest true e h = ap (λ b. b || list_any (g id) ts) (more id t e)
      by rest false e h = over (rest h) (g id t)

  pub none_more : (rs : List Reference) → unmet_among f rs ≡ None → unmet_among g rs ≡ None
  none_more [] h = refl
  none_more (r ∷ rs) h = by (none_more rs) (any_more r.id r.types) (is_met f r) refl h
    where
      by : (unmet_among f rs ≡ None → unmet_among g rs ≡ None) → (is_met f r ≡ true → is_met g r ≡ true)
          → (b : Bool)
          → is_met f r ≡ b
          → option_map (λ r. r.pointer) (cond (not b) (Some r) (find (λ r. not (is_met f r)) rs)) ≡ None
          → unmet_among g (r ∷ rs) ≡ None
      by rest met true e h =
          ap (λ b. option_map (λ r. r.pointer) (cond (not b) (Some r) (find (λ r. not (is_met g r)) rs)))
          (met e) ∙ rest h
      by rest met false e h = absurd (no_some r.pointer h)

-- ---- the parts of soundness

pub typed_part : (m : Objects) (p : ObjectValue) → is_sound_in m p ≡ true
    → option_map_or (fits_among m p) (rules_at m p.type_name) false ≡ true
typed_part m p h =
    (both_true (option_map_or (fits_among m p) (rules_at m p.type_name) false) (not
    (is_type_object p) || is_sound_type m p) h).0

pub stated_part : (m : Objects) (p : ObjectValue) → is_sound_in m p ≡ true
    → (not (is_type_object p) || is_sound_type m p) ≡ true
stated_part m p h =
    (both_true (option_map_or (fits_among m p) (rules_at m p.type_name) false) (not
    (is_type_object p) || is_sound_type m p) h).1

pub states : (m : Objects) (p : ObjectValue) → is_sound_type m p ≡ true → is_ok (type_in (checked_content p)) ≡ true
states m p h = (both_true (is_ok (type_in (checked_content p))) (not (is_name_in_use m p)) h).0

pub alone : (m : Objects) (p : ObjectValue) → is_sound_type m p ≡ true → is_name_in_use m p ≡ false
alone m p h = not_true _ (both_true (is_ok (type_in (checked_content p))) (not (is_name_in_use m p)) h).1

pub valid_part : (m : Objects) (p : ObjectValue) (s : Rules) → fits_among m p s ≡ true
    → is_none (first_failing s p) ≡ true
valid_part m p s h =
    (both_true (is_none (first_failing s p)) (is_none (unmet_among (is_of m) (references_in s
    (checked_content p)))) h).0

pub met_part : (m : Objects) (p : ObjectValue) (s : Rules) → fits_among m p s ≡ true
    → unmet_among (is_of m) (references_in s (checked_content p)) ≡ None
met_part m p s h =
    is_nothing _ (both_true (is_none (first_failing s p)) (is_none (unmet_among (is_of m) (references_in s
    (checked_content p)))) h).1

-- soundness as a type object, from that among other objects that don't use the name
pub stated_still : (m n : Objects) (p : ObjectValue) → (is_name_in_use m p ≡ false → is_name_in_use n p ≡ false)
    → (not (is_type_object p) || is_sound_type m p) ≡ true → (not (is_type_object p) || is_sound_type n p) ≡ true
stated_still m n p free h = by (is_type_object p) h
  where
    by : (b : Bool) → (not b || is_sound_type m p) ≡ true → (not b || is_sound_type n p) ≡ true
    by false h = refl
    by true h = ap (λ x. x && not (is_name_in_use n p)) (states m p h) ∙ ap not (free (alone m p h))

-- ---- rules

-- The rules of a type are the same among other objects, which have all that make it, and find the same.
pub rules_carried : (m n : Objects) (name : List ℕ)
    → ((k : List ℕ) (v : ObjectValue) → finite.get m k ≡ Some v → makes name v ≡ true → finite.get n k ≡ Some v)
    → ((k : List ℕ) (v : ObjectValue) → finite.get m k ≡ Some v → makes name v ≡ true → maker n name ≡ maker m name)
    → (r : Rules) → rules_at m name ≡ Some r → rules_at n name ≡ Some r
rules_carried m n name there same r h = by (is_built_in name) h
  where
    over : (x : Option (List ℕ)) → maker m name ≡ x
        → option_and_then rules_given (option_and_then (finite.get m) x) ≡ Some r
        → option_and_then rules_given (type_object n name) ≡ Some r
    over None e h = absurd (no_some r (sym h))
    over (Some k) e h =
        let w = least_passes (λ id v. makes name v) m k e in
        ap (λ x. option_and_then rules_given (option_and_then (finite.get n) x)) (same k w.0 w.1 w.2 ∙ e)
        ∙ ap (option_and_then rules_given) (there k w.0 w.1 w.2 ∙ sym w.1) ∙ h

    by : (b : Bool) → (if b then Some plain else option_and_then rules_given (type_object m name)) ≡ Some r
        → (if b then Some plain else option_and_then rules_given (type_object n name)) ≡ Some r
    by true h = h
    by false h = over (maker m name) refl h

-- ---- all of some objects

-- Where all are sound, no least one isn't, and the other way round.
pub none_unsound : (m : Objects) → IsSound m → least_unsound m ≡ None
none_unsound m sound = by (least_unsound m) refl
  where
    by : (r : Option (List ℕ)) → least_unsound m ≡ r → r ≡ None
    by None e = refl
    by (Some id) e =
        let r = least_passes (λ id o. not (is_sound_in m o)) m id e in
        absurd (true≢false (sym r.2 ∙ ap not (sound id r.0 r.1)))

pub sound_from_none : (m : Objects) → least_unsound m ≡ None → IsSound m
sound_from_none m e id o is = not_false _ (least_none (λ id o. not (is_sound_in m o)) m e id o is)
