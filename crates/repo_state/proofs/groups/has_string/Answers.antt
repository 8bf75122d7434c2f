use Rattle.std.proofs.Common.{sym, ◌∙◌, arith}
use Rattle.repo_state.specs.Groups.{is_string}
use Rattle.repo_state.proofs.ListLemmas.{any_hit, any_miss, any_end}
use Rattle.repo_state.proofs.groups.has_string.Goals as goal

pub returns-then-is : goal.returns-then-is
returns-then-is c =
    sym (c.loop-i.invariant ∙ any_hit (is_string c.args.word.now) c.args.items.now c.loop-i.i _ c.item.ensures (sym c.is.ensures ∙ c.if-is.true))

pub loop-i-preserved : goal.loop-i-preserved
loop-i-preserved c =
    c.loop-i.invariant ∙ any_miss (is_string c.args.word.now) c.args.items.now c.loop-i.i _ c.item.ensures (sym c.is.ensures ∙ c.if-is.false)

pub returns : goal.returns
returns c = sym (c.loop-i.invariant ∙ any_end (is_string c.args.word.now) c.args.items.now c.loop-i.i (omega arith))
