-- What access lists grant, computed.
use Rattle.std.proofs.Common.{◌≡◌, ℕ, List, [], ◌∷◌, codes, nat_eq, Bool, true, false, ◌&&◌, ◌||◌, Option, Some, None, ◌⊎◌, inl, inr, refl, sym, ap, ap₂, ◌∙◌, subst, Any, if◌then◌else◌}
use Rattle.std.specs.Bool.{Decides}
use Rattle.std.specs.Cmp.Lexicographic.{pointwise}
use Rattle.std.specs.List.{list_any}
use Rattle.std.proofs.lemmas.Bool.{eq-eqb, or_cases, or_left, or_right, false≢true}
use Rattle.std.proofs.lemmas.Option.{same_Some, none-some}
use Rattle.std.proofs.lemmas.List.Folds.{Any-from_list_any, list_any-from_Any}
use Rattle.dobj_model.specs.declared.object.ObjectValue.{ObjectValue}
use Rattle.dobj_model.specs.Object.{access_list}
use Rattle.acl_core.specs.declared.caller.Caller.{Caller}
use Rattle.acl_core.specs.declared.caller.Caller.TheVariants.{Anonymous, Known as Named}
use Rattle.acl_core.specs.declared.rights.Right.{Right}
use Rattle.acl_core.specs.declared.rights.Right.TheVariants.{Read, Write}
use Rattle.acl_core.specs.declared.rights.TypeLists.{TypeLists}
use Rattle.acl_core.specs.Granting.{IsOther, Grants, to_everybody, to_known, to_creator, to_self, to_account, to_member, is_the_admin, HasRight, as_admin, as_writer, as_reader, MayCreate, creates_as_admin, creates_by_word}
use Rattle.acl_core.specs.Rights.{is_named, grants_known, grants, any_grants, may_do, may_make}
use Rattle.acl_core.proofs.NameLemmas.{equal_lists}

-- ---- tests

list_again : (xs : List ℕ) → pointwise nat_eq xs xs ≡ true
list_again [] = refl
list_again (x ∷ xs) = ap₂ (λ p q. p && q) (eq-eqb x x refl) (list_again xs)

same_list : (xs ys : List ℕ) → Decides (pointwise nat_eq xs ys) (xs ≡ ys)
same_list xs ys = (equal_lists xs ys, λ same. ap (λ zs. pointwise nat_eq xs zs) (sym same) ∙ list_again xs)

same_name : (name : Option (List ℕ)) (id : List ℕ) → Decides (is_named name id) (name ≡ Some id)
same_name None id = (λ no. absurd (false≢true no), λ none. absurd (none-some id none))
same_name (Some name) id = (
  λ same. ap Some (equal_lists name id same),
  λ same. (same_list name id).1 (same_Some name id same),
)

-- two lists of which the test says that they differ
apart : (xs ys zs : List ℕ) → pointwise nat_eq ys zs ≡ false → xs ≡ ys → xs ≡ zs → ⊥
apart xs ys zs differ a b = false≢true (sym differ ∙ (same_list ys zs).1 (sym a ∙ b))

always : {P : Type 0} → P → Decides true P
always p = (λ _. p, λ _. refl)

either : {P Q : Type 0} (b x y : Bool) → Decides b P → (P → Decides x Q) → (¬ P → Decides y Q) → Decides (if b then x else y) Q
either true x y d first other = first (d.0 refl)
either false x y d first other = other (λ p. false≢true (d.1 p))

any_decides : {A : Type 0} (test : A → Bool) (P : A → Type 0) (xs : List A) → ((a : A) → Decides (test a) (P a)) → Decides (list_any test xs) (Any P xs)
any_decides test P xs each = (
  λ found. let any = Any-from_list_any test xs found in (any.0, any.1, any.2, any.3, (each any.1).0 any.4),
  λ any. list_any-from_Any test xs (any.0, any.1, any.2, any.3, (each any.1).1 any.4),
)

-- ---- words

module _ (is_in : List ℕ → List ℕ → Bool) (creator own : Option (List ℕ)) where
  at_creator : (id : List ℕ) (admin : Bool) (word : List ℕ) → ¬ (word ≡ codes "public") → ¬ (word ≡ codes "authenticated") → word ≡ codes "creator"
      → Grants is_in creator own (Named id admin) word → is_named creator id ≡ true
  at_creator id admin word no_public no_known is (to_everybody _ _ e) = absurd (no_public e)
  at_creator id admin word no_public no_known is (to_known _ _ _ e) = absurd (no_known e)
  at_creator id admin word no_public no_known is (to_creator _ _ _ e named) = (same_name creator id).1 named
  at_creator id admin word no_public no_known is (to_self _ _ _ e named) = absurd (apart word (codes "creator") (codes "self") refl is e)
  at_creator id admin word no_public no_known is (to_account _ _ _ other e) = absurd (other.2 is)
  at_creator id admin word no_public no_known is (to_member _ _ _ other e) = absurd (other.2 is)

  at_self : (id : List ℕ) (admin : Bool) (word : List ℕ) → ¬ (word ≡ codes "public") → ¬ (word ≡ codes "authenticated") → ¬ (word ≡ codes "creator")
      → word ≡ codes "self" → Grants is_in creator own (Named id admin) word → is_named own id ≡ true
  at_self id admin word no_public no_known no_creator is (to_everybody _ _ e) = absurd (no_public e)
  at_self id admin word no_public no_known no_creator is (to_known _ _ _ e) = absurd (no_known e)
  at_self id admin word no_public no_known no_creator is (to_creator _ _ _ e named) = absurd (no_creator e)
  at_self id admin word no_public no_known no_creator is (to_self _ _ _ e named) = (same_name own id).1 named
  at_self id admin word no_public no_known no_creator is (to_account _ _ _ other e) = absurd (other.3 is)
  at_self id admin word no_public no_known no_creator is (to_member _ _ _ other e) = absurd (other.3 is)

  at_other : (id : List ℕ) (admin : Bool) (word : List ℕ) → IsOther word → Grants is_in creator own (Named id admin) word
      → pointwise nat_eq word id || is_in word id ≡ true
  at_other id admin word other (to_everybody _ _ e) = absurd (other.0 e)
  at_other id admin word other (to_known _ _ _ e) = absurd (other.1 e)
  at_other id admin word other (to_creator _ _ _ e named) = absurd (other.2 e)
  at_other id admin word other (to_self _ _ _ e named) = absurd (other.3 e)
  at_other id admin word other (to_account _ _ _ _ e) = or_left (pointwise nat_eq word id) (is_in word id) ((same_list word id).1 e)
  at_other id admin word other (to_member _ _ _ _ e) = or_right (pointwise nat_eq word id) (is_in word id) e

  other_grants : (id : List ℕ) (admin : Bool) (word : List ℕ) → IsOther word → (pointwise nat_eq word id ≡ true) ⊎ (is_in word id ≡ true)
      → Grants is_in creator own (Named id admin) word
  other_grants id admin word other (inl same) = to_account id admin word other (equal_lists word id same)
  other_grants id admin word other (inr member) = to_member id admin word other member

  known_decides : (id : List ℕ) (admin : Bool) (word : List ℕ) → Decides (grants_known is_in creator own id word) (Grants is_in creator own (Named id admin) word)
  known_decides id admin word =
      either _ _ _ (same_list word (codes "public")) (λ is. always (to_everybody (Named id admin) word is)) (λ no_public.
      either _ _ _ (same_list word (codes "authenticated")) (λ is. always (to_known id admin word is)) (λ no_known.
      either _ _ _ (same_list word (codes "creator"))
      (λ is. (λ named. to_creator id admin word is ((same_name creator id).0 named), at_creator id admin word no_public no_known is)) (λ no_creator.
      either _ _ _ (same_list word (codes "self"))
      (λ is. (λ named. to_self id admin word is ((same_name own id).0 named), at_self id admin word no_public no_known no_creator is)) (λ no_self.
      let other : IsOther word = (no_public, no_known, no_creator, no_self) in
      (λ granted. other_grants id admin word other (or_cases (pointwise nat_eq word id) (is_in word id) granted), at_other id admin word other)))))

  at_anonymous : (word : List ℕ) → Grants is_in creator own Anonymous word → word ≡ codes "public"
  at_anonymous word (to_everybody _ _ e) = e

  pub word_decides : (caller : Caller) (word : List ℕ) → Decides (grants is_in creator own caller word) (Grants is_in creator own caller word)
  word_decides Anonymous word = (
    λ granted. to_everybody Anonymous word ((same_list word (codes "public")).0 granted),
    λ grant. (same_list word (codes "public")).1 (at_anonymous word grant),
  )
  word_decides (Named id admin) word = known_decides id admin word

  words_decide : (caller : Caller) (words : List (List ℕ)) → Decides (list_any (grants is_in creator own caller) words) (Any (Grants is_in creator own caller) words)
  words_decide caller words = any_decides (grants is_in creator own caller) (Grants is_in creator own caller) words (word_decides caller)

-- ---- rights

module _ (is_in : List ℕ → List ℕ → Bool) (caller : Caller) where
  pub writes : (right : Right) (o : ObjectValue) (lists : TypeLists)
      → (is_the_admin caller ≡ true) ⊎ (any_grants is_in caller o (access_list (codes "writers") o) lists.write ≡ true)
      → HasRight is_in caller o lists right
  writes right o lists (inl admin) = as_admin right admin
  writes right o lists (inr granted) = as_writer right ((words_decide is_in (Some o.metadata.created_by) (Some o.id) caller _).0 granted)

  reads : (o : ObjectValue) (lists : TypeLists)
      → ((is_the_admin caller || any_grants is_in caller o (access_list (codes "writers") o) lists.write) ≡ true) ⊎ (any_grants is_in caller o (access_list (codes "readers") o) lists.read ≡ true)
      → HasRight is_in caller o lists Read
  reads o lists (inl writer) = writes Read o lists (or_cases _ _ writer)
  reads o lists (inr granted) = as_reader ((words_decide is_in (Some o.metadata.created_by) (Some o.id) caller _).0 granted)

  may_write : (o : ObjectValue) (lists : TypeLists) → HasRight is_in caller o lists Write → may_do is_in caller Write o lists ≡ true
  may_write o lists (as_admin _ admin) = or_left _ _ admin
  may_write o lists (as_writer _ grant) = or_right _ _ ((words_decide is_in (Some o.metadata.created_by) (Some o.id) caller _).1 grant)

  may_read : (o : ObjectValue) (lists : TypeLists) → HasRight is_in caller o lists Read → may_do is_in caller Read o lists ≡ true
  may_read o lists (as_admin _ admin) = or_left _ _ (or_left _ _ admin)
  may_read o lists (as_writer _ grant) = or_left _ _ (or_right _ _ ((words_decide is_in (Some o.metadata.created_by) (Some o.id) caller _).1 grant))
  may_read o lists (as_reader grant) = or_right _ _ ((words_decide is_in (Some o.metadata.created_by) (Some o.id) caller _).1 grant)

  pub right_decides : (right : Right) (o : ObjectValue) (lists : TypeLists) → Decides (may_do is_in caller right o lists) (HasRight is_in caller o lists right)
  right_decides Write o lists = (λ granted. writes Write o lists (or_cases _ _ granted), may_write o lists)
  right_decides Read o lists = (λ granted. reads o lists (or_cases _ _ granted), may_read o lists)

  -- the admin may not, and no writer grants
  pub writes_none : (right : Right) (o : ObjectValue) (lists : TypeLists) → right ≡ Write → is_the_admin caller ≡ false
      → any_grants is_in caller o (access_list (codes "writers") o) lists.write ≡ false → Decides false (HasRight is_in caller o lists right)
  writes_none right o lists is admin none =
      subst (λ r. Decides false (HasRight is_in caller o lists r)) (sym is)
      (subst (λ b. Decides b (HasRight is_in caller o lists Write)) (ap₂ (λ a w. a || w) admin none) (right_decides Write o lists))

  -- the readers alone are left
  pub reads_by : (right : Right) (o : ObjectValue) (lists : TypeLists) (b : Bool) → right ≡ Read → is_the_admin caller ≡ false
      → any_grants is_in caller o (access_list (codes "writers") o) lists.write ≡ false
      → b ≡ any_grants is_in caller o (access_list (codes "readers") o) lists.read → Decides b (HasRight is_in caller o lists right)
  reads_by right o lists b is admin none read =
      subst (λ r. Decides b (HasRight is_in caller o lists r)) (sym is)
      (subst (λ x. Decides x (HasRight is_in caller o lists Read))
      (ap₂ (λ a w. (a || w) || any_grants is_in caller o (access_list (codes "readers") o) lists.read) admin none ∙ sym read) (right_decides Read o lists))

  creates : (lists : TypeLists) → (is_the_admin caller ≡ true) ⊎ (list_any (grants is_in None None caller) lists.create ≡ true) → MayCreate is_in caller lists
  creates lists (inl admin) = creates_as_admin admin
  creates lists (inr granted) = creates_by_word ((words_decide is_in None None caller lists.create).0 granted)

  may_make_it : (lists : TypeLists) → MayCreate is_in caller lists → may_make is_in caller lists ≡ true
  may_make_it lists (creates_as_admin admin) = or_left _ _ admin
  may_make_it lists (creates_by_word grant) = or_right _ _ ((words_decide is_in None None caller lists.create).1 grant)

  pub create_decides : (lists : TypeLists) → Decides (may_make is_in caller lists) (MayCreate is_in caller lists)
  create_decides lists = (λ granted. creates lists (or_cases _ _ granted), may_make_it lists)

  -- the words alone are left
  pub creates_by : (lists : TypeLists) (b : Bool) → is_the_admin caller ≡ false → b ≡ list_any (grants is_in None None caller) lists.create
      → Decides b (MayCreate is_in caller lists)
  creates_by lists b admin words =
      subst (λ x. Decides x (MayCreate is_in caller lists)) (ap (λ a. a || list_any (grants is_in None None caller) lists.create) admin ∙ sym words) (create_decides lists)
