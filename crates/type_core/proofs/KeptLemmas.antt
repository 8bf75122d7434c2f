-- What the type objects state after a change.
use Rattle.std.proofs.Common.{codes, ◌≡◌, ℕ, List, Bool, true, false, if◌then◌else◌, Option, Some, None, option_map, option_and_then, Result, Ok, Err, refl, ap, sym, ◌∙◌, true≢false}
use Rattle.std.specs.Option.{option_map_or}
use Rattle.std.specs.Result.{is_ok}
use Rattle.std.specs.FinMap as finite
use Rattle.doip_json.specs.Value.{Value}
use Rattle.doip_json.specs.Look.{field_of}
use Rattle.acl_core.specs.declared.rights.TypeLists.{TypeLists}
use Rattle.dobj_model.specs.declared.object.ObjectValue.{ObjectValue}
use Rattle.schema_core.specs.Rules.{Rules, plain}
use Rattle.type_core.specs.declared.content.TypeContent.{TypeContent}
use Rattle.type_core.specs.declared.content.TypeFault.{TypeFault}
use Rattle.type_core.specs.Names.{is_text, is_built_in, is_type_object, checked_content, string_at}
use Rattle.type_core.specs.Content.{◌>>=◌, type_in, name_in, schema_in, lists_of}
use Rattle.type_core.specs.Sound.{Objects, makes, maker, type_object, rules_given, rules_at, unless_fault, is_name_in_use, AreNamed, IsSound}
use Rattle.type_core.specs.Kept.{content_given, type_at, schema_at, is_made_at, type_after_removal, type_after_put}
use Rattle.type_core.proofs.LeastLemmas.{least_none, least_passes, least_same, Passes}
use Rattle.type_core.proofs.SoundLemmas.{holds_some, alike, same, only_types, both_make, not_in_use}
use Rattle.type_core.proofs.PlaceLemmas.{by_place, kept, put_there}
use Rattle.type_core.proofs.RemoveLemmas.{as_type, there_before, still_there, lone_maker}

-- what is stated of a type is the same where the same objects make it
pub stated_same : (m n : Objects) (name : List ℕ) → maker n name ≡ maker m name
    → ((k : List ℕ) (v : ObjectValue) → finite.get m k ≡ Some v → makes name v ≡ true → finite.get n k ≡ Some v)
    → type_at n name ≡ type_at m name
stated_same m n name same there = by (maker m name) refl
  where
    by : (x : Option (List ℕ)) → maker m name ≡ x → type_at n name
        ≡ option_and_then content_given (option_and_then (finite.get m) x)
    by None e = ap (λ x. option_and_then content_given (option_and_then (finite.get n) x)) (same ∙ e)
    by (Some k) e =
        let w = least_passes (λ id v. makes name v) m k e in
        ap (λ x. option_and_then content_given (option_and_then (finite.get n) x)) (same ∙ e)
        ∙ ap (option_and_then content_given) (there k w.0 w.1 w.2 ∙ sym w.1)

module _ (m : Objects) (named : AreNamed m) (sound : IsSound m) where
  -- ---- without an object

  pub stated_without : (id name : List ℕ) → type_at (finite.remove m id) name ≡ type_after_removal m id name
  stated_without id name = by (is_made_at m id name) refl
    where
      by : (b : Bool) → is_made_at m id name ≡ b → type_at (finite.remove m id) name
          ≡ (if b then None else type_at m name)
      by true e =
          let old = holds_some (makes name) (finite.get m id) e in
          ap (λ x. option_and_then content_given (option_and_then (finite.get (finite.remove m id)) x))
          (lone_maker m id old.0 old.1 named sound name old.2)
      by false e =
          stated_same m (finite.remove m id) name
          (least_same (λ id v. makes name v) (λ id v. makes name v) (finite.remove m id) m
          (λ q v is h. ((there_before m id q v is).1, h)) (λ q v is h. (stays q v is h, h)))
          stays
        where
          stays : (q : List ℕ) (v : ObjectValue) → finite.get m q ≡ Some v → makes name v ≡ true
              → finite.get (finite.remove m id) q ≡ Some v
          stays q v is h = over (is_text q id) refl
            where
              over : (b : Bool) → is_text q id ≡ b → finite.get (finite.remove m id) q ≡ Some v
              over false t = still_there m id q t ∙ is
              over true t =
                  absurd (true≢false (sym h ∙ ap (λ x. option_map_or (makes name) x false) (sym is
                  ∙ ap (finite.get m) (same q id t)) ∙ e))

  -- ---- with an object

  module _ (o : ObjectValue) (free : is_type_object o ≡ true → is_name_in_use m o ≡ false) where
    abbrev after : Objects
    after = finite.insert m o.id o

    new_maker : (n : List ℕ) → makes n o ≡ true → maker after n ≡ Some o.id
    new_maker n mk = by (maker after n) refl
      where
        by : (x : Option (List ℕ)) → maker after n ≡ x → x ≡ Some o.id
        by None e =
            absurd (true≢false (sym mk
            ∙ least_none (λ id v. makes n v) after e o.id o (put_there m o o.id (alike o.id))))
        by (Some j) e =
            let w = least_passes (λ id v. makes n v) after j e in
            by_place m o j w.0 w.1 (λ at _. ap Some at)
            (λ other at. absurd (not_in_use m o (free (only_types n o mk)) j w.0 at other (both_make n o w.0 mk w.2)))

    no_maker : (n : List ℕ) → makes n o ≡ false → (old : ObjectValue) → finite.get m o.id ≡ Some old
        → makes n old ≡ true
        → maker after n ≡ None
    no_maker n mk old place was = by (maker after n) refl
      where
        by : (x : Option (List ℕ)) → maker after n ≡ x → x ≡ None
        by None e = refl
        by (Some j) e =
            let w = least_passes (λ id v. makes n v) after j e in
            by_place m o j w.0 w.1 (λ _ at. absurd (true≢false (sym w.2 ∙ ap (makes n) (sym at) ∙ mk)))
            (λ other at.
            absurd (not_in_use m old (as_type m n old was (sound o.id old place)).1 j w.0 at
            (ap (is_text j) (named o.id old place) ∙ other) (both_make n old w.0 was w.2)))

    pub stated_with : (n : List ℕ) → type_at after n ≡ type_after_put m o n
    stated_with n = by (makes n o) refl (is_made_at m o.id n) refl
      where
        by : (a : Bool) → makes n o ≡ a → (b : Bool) → is_made_at m o.id n ≡ b
            → type_at after n ≡ (if a then content_given o else (if b then None else type_at m n))
        by true mk b was =
            ap (λ x. option_and_then content_given (option_and_then (finite.get after) x)) (new_maker n mk)
            ∙ ap (option_and_then content_given) (put_there m o o.id (alike o.id))
        by false mk true was =
            let old = holds_some (makes n) (finite.get m o.id) was in
            ap (λ x. option_and_then content_given (option_and_then (finite.get after) x))
            (no_maker n mk old.0 old.1 old.2)
        by false mk false was =
            stated_same m after n
            (least_same (λ id v. makes n v) (λ id v. makes n v) after m back (λ q v is h. (stays q v is h, h)))
            stays
          where
            stays : (q : List ℕ) (v : ObjectValue) → finite.get m q ≡ Some v → makes n v ≡ true
                → finite.get after q ≡ Some v
            stays q v is h = over (is_text q o.id) refl
              where
                over : (b : Bool) → is_text q o.id ≡ b → finite.get after q ≡ Some v
                over false t = kept m o q v is t
                over true t =
                    absurd (true≢false (sym h ∙ ap (λ x. option_map_or (makes n) x false) (sym is
                    ∙ ap (finite.get m) (same q o.id t)) ∙ was))

            back : Passes (λ id v. makes n v) after (λ id v. makes n v) m
            back q v at h =
                by_place m o q v at (λ _ e. absurd (true≢false (sym h ∙ ap (makes n) (sym e)
                ∙ mk))) (λ _ before. (before, h))

-- ---- the schema of a type

abbrev pub the_content : List ℕ → Rules → TypeLists → Option (List ℕ) → TypeContent
the_content name schema lists hook = record { name = name; schema = schema; lists = lists; hook = hook }

stated_parts : (x : Result (List ℕ) TypeFault) (y : Result Rules TypeFault) (z : Result TypeLists TypeFault)
    (hook : Option (List ℕ))
    → is_ok (x >>= (λ name. y >>= (λ schema. z >>= (λ lists. Ok (the_content name schema lists hook))))) ≡ true
    → unless_fault y
    ≡ option_map (λ t. t.schema)
    (unless_fault (x >>= (λ name. y >>= (λ schema. z >>= (λ lists. Ok (the_content name schema lists hook))))))
stated_parts (Ok a) (Ok s) (Ok l) hook h = refl
stated_parts (Ok a) (Ok s) (Err f) hook h = absurd (true≢false (sym h))
stated_parts (Ok a) (Err f) z hook h = absurd (true≢false (sym h))
stated_parts (Err f) y z hook h = absurd (true≢false (sym h))

-- the schema of what content states is that which it states
schema_stated : (content : Value) → is_ok (type_in content) ≡ true
    → unless_fault (schema_in content) ≡ option_map (λ t. t.schema) (unless_fault (type_in content))
unfolding type_in
schema_stated content ok =
    stated_parts (name_in content) (schema_in content) (lists_of (field_of (codes "authConfig") content))
    (string_at (codes "hook") content) ok

pub schema_is : (m : Objects) → IsSound m → (name : List ℕ) → schema_at m name ≡ rules_at m name
schema_is m sound name = by (is_built_in name)
  where
    over : (x : Option (List ℕ)) → maker m name ≡ x
        → option_map (λ t. t.schema) (option_and_then content_given (option_and_then (finite.get m) x))
        ≡ option_and_then rules_given (option_and_then (finite.get m) x)
    over None e = refl
    over (Some k) e =
        let w = least_passes (λ id v. makes name v) m k e in
        ap (λ y. option_map (λ t. t.schema) (option_and_then content_given y)) w.1
        ∙ sym (schema_stated (checked_content w.0) (as_type m name w.0 w.2 (sound k w.0 w.1)).0)
        ∙ ap (option_and_then rules_given) (sym w.1)

    by : (b : Bool) → (if b then Some plain else option_map (λ t. t.schema) (type_at m name))
        ≡ (if b then Some plain else option_and_then rules_given (type_object m name))
    by true = refl
    by false = over (maker m name) refl
