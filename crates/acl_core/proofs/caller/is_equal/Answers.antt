use Rattle.std.proofs.Common.{◌≡◌, ◌+◌, ◌∷◌, ◌&&◌, Bool, true, false, nat_eq, get_or, drop, refl, sym, ap₂, ◌∙◌, arith}
use Rattle.std.proofs.lemmas.List.{drop_more, drop_all}
use Rattle.std.specs.Cmp.Lexicographic.{pointwise}
use Rattle.acl_core.proofs.caller.is_equal.Goals as goal

regroup : (x y z : Bool) → (x && y) && z ≡ x && (y && z)
regroup true y z = refl
regroup false y z = refl

with_true : (x : Bool) → x ≡ x && true
with_true true = refl
with_true false = refl

pub loop-i-preserved : goal.loop-i-preserved
loop-i-preserved c =
    let l = c.loop-i in
    let a = c.args.a.now in
    let b = c.args.b.now in
    let first : drop l.i a ≡ get_or a l.i 0 ∷ drop (l.i + 1) a = drop_more a l.i 0 (omega arith) in
    let second : drop l.i b ≡ get_or b l.i 0 ∷ drop (l.i + 1) b = drop_more b l.i 0 (omega arith) in
    regroup l.equal (nat_eq (get_or a l.i 0) (get_or b l.i 0)) (pointwise nat_eq (drop (l.i + 1) a) (drop (l.i + 1) b))
    ∙ (ap₂ (λ x y. l.equal && pointwise nat_eq x y) (sym first) (sym second) ∙ l.invariant)

pub returns : goal.returns
returns c =
    let l = c.loop-i in
    let first = drop_all l.i c.args.a.now (omega arith) in
    let second = drop_all l.i c.args.b.now (omega arith) in
    with_true l.equal ∙ (ap₂ (λ x y. l.equal && pointwise nat_eq x y) (sym first) (sym second) ∙ l.invariant)
