-- Names with codes, as a table of strings keeps them.
use Rattle.std.proofs.Common.{◌≡◌, ◌≢◌, ℕ, ◌<◌, List, [], ◌∷◌, ◌++◌, map, length, get_or, nat_eq, false, cond, Option, None, Some, option_map, is_some, IfSome, IfNone, refl, sym, ap, ◌∙◌, String, string_bytes}
use Rattle.std.specs.List.{slice_get}
use Rattle.std.specs.List.{AllByRecursion, AllPairs, IsDistinct}
use Rattle.std.specs.String.{string_eq}
use Rattle.std.proofs.lemmas.Map.Made.{AllPairs-from_IsDistinct}
use Rattle.std.specs.Map.{keys_of, values_of, lookup}
use Rattle.std.specs.Cmp.Lexicographic.{pointwise, bytes_decides}
use Rattle.std.specs.declared.alloc.Global.{Global}
use Rattle.std.proofs.lemmas.List.{map-append, length-map}
use Rattle.std.proofs.lemmas.Option.{slice_get-map, slice_get_read}
use Rattle.ext_ops.specs.Offered.{code_at, named}

module _ {C : Type 0} where
  -- what is found at a name is what is found at a string of its bytes
  pub code_named : (name : List ℕ) (es : List (String Global × C)) → code_at name (named es) ≡ lookup (λ k. pointwise nat_eq name (string_bytes k)) es
  code_named name [] = refl
  code_named name (e ∷ es) = ap (λ (r : Option C). cond (pointwise nat_eq name (string_bytes e.0)) (Some e.1) r) (code_named name es)

  -- the codes stay
  pub values_named : (es : List (String Global × C)) → values_of (named es) ≡ values_of es
  values_named [] = refl
  values_named (e ∷ es) = ap (λ (r : List C). e.1 ∷ r) (values_named es)

  -- the name at a place
  pub name_named : (es : List (String Global × C)) (place : ℕ) (e : String Global × C) → slice_get es place ≡ Some e → slice_get (keys_of (named es)) place ≡ Some (string_bytes e.0)
  name_named es place e is =
      slice_get-map (λ (p : List ℕ × C). p.0) (named es) place
      ∙ ap (option_map (λ (p : List ℕ × C). p.0)) (slice_get-map (λ (p : String Global × C). (string_bytes p.0, p.1)) es place)
      ∙ ap (λ o. option_map (λ (p : List ℕ × C). p.0) (option_map (λ (p : String Global × C). (string_bytes p.0, p.1)) o)) is

  module _ (name : List ℕ) (es : List (String Global × C)) (names : List (List ℕ × C)) (same : named es ≡ names) where
    -- a place that was found has the name's code
    pub place_some : (o : Option ℕ) → IfSome o (λ i. slice_get (values_of es) i ≡ lookup (λ k. pointwise nat_eq name (string_bytes k)) es)
        → IfSome o (λ i. slice_get (values_of names) i ≡ code_at name names)
    place_some None h = tt
    place_some (Some i) h =
        ap (λ (n : List (List ℕ × C)). slice_get (values_of n) i) (sym same) ∙ (ap (λ (vs : List C). slice_get vs i) (values_named es)
        ∙ (h ∙ (sym (code_named name es) ∙ ap (code_at name) same)))

    none_of : (r : Option C) → false ≡ is_some r → r ≡ None
    none_of None e = refl
    none_of (Some x) e = absurd (cc)

    -- and where none was found, there is no code
    pub place_none : (o : Option ℕ) → is_some o ≡ is_some (lookup (λ k. pointwise nat_eq name (string_bytes k)) es) → IfNone o (code_at name names ≡ None)
    place_none None h = ap (code_at name) (sym same) ∙ (code_named name es ∙ none_of (lookup (λ k. pointwise nat_eq name (string_bytes k)) es) h)
    place_none (Some i) h = tt

    -- a name more
    pub name_added : (fs : List (String Global × C)) (key : String Global) (code : C) → string_bytes key ≡ name → fs ≡ es ++ (key, code) ∷ []
        → named fs ≡ names ++ (name, code) ∷ []
    name_added fs key code is more =
        ap named more ∙ (map-append (λ (e : String Global × C). (string_bytes e.0, e.1)) es ((key, code) ∷ [])
        ∙ (ap (λ (n : List (List ℕ × C)). n ++ (string_bytes key, code) ∷ []) same ∙ ap (λ (k : List ℕ). names ++ (k, code) ∷ []) is))

module _ {C : Type 0} where
  apart : (k : String Global) (es : List (String Global × C)) → AllByRecursion (λ j. string_eq k j ≡ false) (keys_of es)
      → AllByRecursion (λ j. pointwise nat_eq (string_bytes k) j ≡ false) (keys_of (named es))
  apart k [] all = tt
  apart k (e ∷ es) all = (all.0, apart k es all.1)

  distinct : (es : List (String Global × C)) → IsDistinct string_eq (keys_of es) → IsDistinct (pointwise nat_eq) (keys_of (named es))
  unfolding IsDistinct
  distinct [] all = tt
  distinct (e ∷ es) all = (apart e.0 es all.0, distinct es all.1)

  -- names of a table of strings differ
  pub names_differ : (es : List (String Global × C)) → IsDistinct string_eq (keys_of es) → AllPairs (λ a b. a ≢ b) (keys_of (named es))
  names_differ es unique = AllPairs-from_IsDistinct bytes_decides (keys_of (named es)) (distinct es unique)

-- what the closure at a name's place answers is the answer of the name's code
pub answered : {C K V : Type 0} (code : K → C) (f : C → V) (kept : List K) (names : List (List ℕ × C)) (name : List ℕ) (place : ℕ) (one : K) (answer : V)
    → map code kept ≡ values_of names → slice_get (values_of names) place ≡ code_at name names → place < length names → one ≡ get_or kept place one → answer ≡ f (code one)
    → Some answer ≡ option_map f (code_at name names)
answered {C} code f kept names name place one answer same found within at is =
    let long : length names ≡ length kept =
    sym (length-map names (λ (n : List ℕ × C). n.1)) ∙ (ap (length {A = C}) (sym same) ∙ length-map kept code) in
    let there = slice_get_read kept (length names) place one long within at in
    let own : Some (code one) ≡ code_at name names =
    sym (ap (option_map code) there) ∙ (sym (slice_get-map code kept place) ∙ (ap (λ (cs : List C). slice_get cs place) same ∙ found)) in
    ap Some is ∙ ap (option_map f) own
