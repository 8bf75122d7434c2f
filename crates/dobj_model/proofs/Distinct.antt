-- Elements whose identifiers differ: the first ones, and one more.
use Rattle.std.proofs.Common.{◌≡◌, ◌≢◌, ℕ, ◌+◌, ◌<◌, List, [], ◌∷◌, ◌++◌, length, take, get_or, sym, ap, subst, ◌∙◌}
use Rattle.std.proofs.Common.{arith}
use Rattle.std.proofs.lemmas.List.{take_more, map-append, get_or-take, get_or-map, get_or_default, length-map}
use Rattle.std.proofs.lemmas.List.{length-take}
use Rattle.std.proofs.lemmas.List.Quantifiers.{all_pairs_push}
use Rattle.std.specs.List.{AllPairs, Any}
use Rattle.dobj_model.specs.declared.elements.Element.{Element}
use Rattle.dobj_model.specs.Elements.{ids_of}

abbrev pub AreApart : List (List ℕ) → Type 0
AreApart = AllPairs (λ a b. a ≢ b)

id_at : (es : List Element) (k : ℕ) (x : Element) (d : List ℕ) → k < length es
    → get_or (ids_of es) k d ≡ (get_or es k x).id
id_at es k x d within = get_or-map (λ e. e.id) es k x d within

-- one more element, with an identifier that none before it has
pub apart_next : (es : List Element) (i : ℕ) (e : Element) → e ≡ get_or es i e → i < length es
    → AreApart (ids_of (take i es)) → (Any (λ x. x.id ≡ (get_or es i e).id) (take i es) → ⊥)
    → AreApart (ids_of (take (i + 1) es))
apart_next es i e is within before none =
    let next : ids_of (take (i + 1) es) ≡ ids_of (take i es) ++ e.id ∷ [] =
    ap ids_of (take_more es i e within ∙ ap (λ x. take i es ++ x ∷ []) (sym is))
    ∙ map-append (λ x. x.id) (take i es) (e ∷ []) in
    subst AreApart (sym next) (all_pairs_push (λ a b. a ≢ b) (ids_of (take i es)) e.id before
    (λ k d here same.
    let inside : k < length (take i es) = omega (arith, here, length-map (take i es) (λ x. x.id)) in
    let x = get_or (take i es) k e in
    none (
      k,
      x,
      inside,
      get_or_default (take i es) k x e inside,
      sym (id_at (take i es) k e d inside)
          ∙ (same ∙ ap (λ y. y.id) is),
    )))

-- an identifier that an element before it has
pub not_apart : (es : List Element) (i : ℕ) (e : Element) → e ≡ get_or es i e → i < length es
    → Any (λ x. x.id ≡ (get_or es i e).id) (take i es) → AreApart (ids_of es) → ⊥
not_apart es i e is within found apart =
    let k = found.0 in
    let x = found.1 in
    let before : k < i = omega (arith, found.2, length-take i es) in
    let one : get_or (ids_of es) k e.id ≡ x.id =
    id_at es k x e.id (omega arith) ∙ ap (λ y. y.id) (sym (get_or-take i es k x before) ∙ found.3) in
    let other : get_or (ids_of es) i e.id ≡ e.id = id_at es i e e.id within ∙ ap (λ y. y.id) (sym is) in
    apart k i e.id before (omega (arith, within, length-map es (λ y. y.id)))
    (one ∙ (found.4 ∙ (ap (λ y. y.id) (sym is) ∙ sym other)))
