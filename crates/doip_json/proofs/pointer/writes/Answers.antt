use Rattle.std.proofs.Common.{◌≡◌, [], Some, length, drop, sym, ap, ◌∙◌, arith, eqb-true, eq-eqb, length-drop}
use Rattle.std.proofs.lemmas.List.{drop_all}
use Rattle.doip_json.specs.Pointer.{unescaped}
use Rattle.doip_json.proofs.Tokens.{unescaped-none}
use Rattle.doip_json.proofs.pointer.writes.Goals as goal

pub returns : goal.returns
returns c =
    let l = c.loop-at in
    let key = c.args.key.now in
    let none : unescaped (drop l.at c.args.token.now) ≡ Some [] = ap unescaped (drop_all l.at c.args.token.now c.loop-at-test.false) ∙ unescaped-none in
    let both = l.invariant.same in (
      λ all. both.1 (none ∙ ap Some (sym (drop_all l.matched key (omega (arith, eqb-true _ _ all))))),
      λ same. let left : [] ≡ drop l.matched key = let e = sym none ∙ both.0 same in cc in eq-eqb _ _ (omega (arith, ap length left, length-drop l.matched key)),
    )
