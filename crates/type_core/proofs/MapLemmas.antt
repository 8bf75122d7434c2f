-- The finite map of a table of texts, after each call on the entries of the table.
use Rattle.std.proofs.Common.{◌≡◌, ℕ, List, [], ◌∷◌, Bor, Bool, true, false, cond, String, string_bytes, Option, Some, None, option_map, refl, ap, sym, ◌∙◌, nat_eq}
use Rattle.std.specs.declared.alloc.Global.{Global}
use Rattle.std.specs.Cmp.Lexicographic.{pointwise, same_text, nat_list_cmp_total}
use Rattle.std.specs.Ordering.{eq_by_cmp}
use Rattle.std.specs.FinMap as finite
use Rattle.std.specs.Map.{lookup, keys_of, KeepsOthers}
use Rattle.std.specs.Option.{option_copied}
use Rattle.std.specs.List.{IsDistinct, AllByRecursion}
use Rattle.std.specs.String.{string_eq}
use Rattle.type_core.specs.Least.{id_cmp}
use Rattle.type_core.specs.Types.{named_in, map_in}
use Rattle.type_core.proofs.LeastLemmas.{same_id}

-- two maps that give the same are one
pub same_maps : {X : Type 0} (m n : finite.FinMap id_cmp X) → ((q : List ℕ) → finite.get m q ≡ finite.get n q) → m ≡ n
same_maps = finite.same_map nat_list_cmp_total (finite.slice_cmp-IsAntisymmetric finite.nat_cmp-IsAntisymmetric)

-- the entries of the table
abbrev pub Entries : Type 0 → Type 0
Entries X = List (String Global × X)

-- a look among entries is a look in the map
pub look_is : {X : Type 0} (es : Entries X) (q : List ℕ)
    → lookup (λ k. pointwise nat_eq q (string_bytes k)) es ≡ finite.get (map_in es) q
look_is {X} es q = found es ∙ sym (finite.get-from_entries nat_list_cmp_total (named_in es) q)
  where
    found : (es : Entries X) → lookup (λ k. pointwise nat_eq q (string_bytes k)) es
        ≡ finite.find id_cmp q (named_in es)
    found [] = refl
    found (e ∷ es) =
        ap (cond (pointwise nat_eq q (string_bytes e.0)) (Some e.1)) (found es)
        ∙ ap (λ b. cond b (Some e.1) (finite.find id_cmp q (named_in es))) (sym (same_id q (string_bytes e.0)))

-- what is lent, as a value
pub lent : {X : Type 0} (o : Option (Bor X)) → option_map (λ found. found.now) o ≡ option_copied o
lent None = refl
lent (Some x) = refl

-- keys that differ as strings differ as texts
pub rows_differ : {X : Type 0} (es : Entries X) → IsDistinct string_eq (keys_of es)
    → IsDistinct (pointwise nat_eq) (keys_of (named_in es))
unfolding IsDistinct
rows_differ [] d = tt
rows_differ {X} (e ∷ es) d = (each es d.0, rows_differ es d.1)
  where
    each : (es : Entries X) → AllByRecursion (λ y. string_eq e.0 y ≡ false) (keys_of es)
        → AllByRecursion (λ y. pointwise nat_eq (string_bytes e.0) y ≡ false) (keys_of (named_in es))
    each [] h = tt
    each (x ∷ xs) h = (h.0, each xs h.1)

-- the test for a text among keys
abbrev pub spells : List ℕ → String Global → Bool
spells t k = pointwise nat_eq t (string_bytes k)

-- What a call makes of the entries, which writes at one text and keeps the others.
module _ {X : Type 0} (es fs : Entries X) (t : List ℕ) (w : Option X) where
  abbrev pub Writes : Type 0
  Writes = (lookup (spells t) fs ≡ w) × KeepsOthers string_eq (spells t) es fs

  -- what is found at each text afterwards
  written : Writes → (q : List ℕ) → finite.get (map_in fs) q
      ≡ cond (eq_by_cmp id_cmp q t) w (finite.get (map_in es) q)
  unfolding KeepsOthers
  written u q = sym (look_is fs q) ∙ by (pointwise nat_eq q t) refl
      ∙ ap (λ b. cond b w (finite.get (map_in es) q)) (sym (same_id q t))
    where
      by : (b : Bool) → pointwise nat_eq q t ≡ b → lookup (spells q) fs ≡ cond b w (finite.get (map_in es) q)
      by true e = ap (λ x. lookup (spells x) fs) (same_text q t (sym e)) ∙ u.0
      by false e =
          u.1 (spells q) (λ k j is. ap (λ z. pointwise nat_eq z (string_bytes j)) (same_text q
          (string_bytes k) (sym is)))
          (λ k is. ap (pointwise nat_eq q) (sym (same_text t (string_bytes k) (sym is))) ∙ e)
          ∙ look_is es q

module _ {X : Type 0} (es fs : Entries X) (t : List ℕ) where
  -- after something was put at a text
  pub inserted : (v : X) → Writes es fs t (Some v) → map_in fs ≡ finite.insert (map_in es) t v
  inserted v u = same_maps _ _ (λ q. written es fs t (Some v) u q
      ∙ sym (finite.get-insert nat_list_cmp_total (map_in es) t v q))

  -- after what stands at a text was taken away
  pub removed : Writes es fs t None → map_in fs ≡ finite.remove (map_in es) t
  removed u = same_maps _ _ (λ q. written es fs t None u q
      ∙ sym (finite.get-remove nat_list_cmp_total (map_in es) t q))
