-- The first items of an array of strings.
use Rattle.std.proofs.Common.{◌≡◌, ℕ, zero, suc, ◌+◌, List, [], ◌∷◌, take, Some, sym, subst, arith}
use Rattle.std.specs.List.{slice_get}
use Rattle.doip_json.specs.Value.{Value, values_from}
use Rattle.dobj_model.specs.Object.{IsText, AreTexts}

pub text_here : (vs : List Value) (i : ℕ) (v : Value) → slice_get vs i ≡ Some v → AreTexts (values_from vs) → IsText v
text_here [] i v e all = absurd (cc)
text_here (w ∷ vs) zero v e all = let same : w ≡ v = cc in subst IsText same all.0
text_here (w ∷ vs) (suc i) v e all = text_here vs i v e all.1

pub texts_next : (vs : List Value) (i : ℕ) (v : Value) → slice_get vs i ≡ Some v → AreTexts (values_from (take i vs))
    → IsText v → AreTexts (values_from (take (i + 1) vs))
texts_next [] i v e all one = absurd (cc)
texts_next (w ∷ vs) zero v e all one = let same : w ≡ v = cc in (subst IsText (sym same) one, tt)
texts_next (w ∷ vs) (suc i) v e all one =
    let next : suc i + 1 ≡ suc (i + 1) = omega arith in
    subst (λ n. AreTexts (values_from (take n (w ∷ vs)))) (sym next) (all.0, texts_next vs i v e all.1 one)
