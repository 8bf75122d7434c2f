use Rattle.std.proofs.Common.{◌+◌, length, drop, not, nat_eq, codes, ◌∙◌, ap, sym, arith}
use Rattle.std.specs.Cmp.Lexicographic.{pointwise}
use Rattle.ext_ops.specs.Hook.{other_keys}
use Rattle.ext_ops.proofs.EntryLemmas.{count_on, count_not}
use Rattle.ext_ops.proofs.counting.others.Goals as goal
use Rattle.ext_ops.proofs.counting.others.Goals.{then-ne, else-ne}

pub loop-i-preserved : goal.loop-i-preserved
loop-i-preserved c =
    let es = c.args.entries.now in
    let i = c.loop-i.i in
    let tested = ap (λ k. not (pointwise nat_eq k (codes "count"))) (sym c.get.ensures.text) ∙ sym c.ne.ensures in
    elim c.if-ne.branch [
      | then-ne w ↦
          let more = count_on es i c.loop-i.others c.key_at.result.now c.key_at.ensures (tested ∙ w.if-ne.true) c.loop-i.invariant.1 in
          (omega (arith, w.others-is, c.loop-i.invariant.0), ap (λ n. n + length (other_keys (drop (i + 1) es))) w.others-is ∙ more)
      | else-ne w ↦
          let same = count_not es i c.loop-i.others c.key_at.result.now c.key_at.ensures (tested ∙ w.if-ne.false) c.loop-i.invariant.1 in
          (omega (arith, w.others-is, c.loop-i.invariant.0), ap (λ n. n + length (other_keys (drop (i + 1) es))) w.others-is ∙ same)
    ]
