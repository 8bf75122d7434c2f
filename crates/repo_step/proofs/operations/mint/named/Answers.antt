use Rattle.std.proofs.Common.{sym, ◌∙◌}
use Rattle.repo_step.specs.Turn.{setting_in, state_in}
use Rattle.repo_step.proofs.MintLemmas.{named_asked, named_used}
use Rattle.repo_step.proofs.operations.mint.named.Goals as goal

pub returns-then-is_free : goal.returns-then-is_free
returns-then-is_free c offers =
    named_asked (setting_in c.args.turn offers) (state_in c.args.turn).contents c.args.asked c.in-Some.id c.get.result.now
    c.in-Some.is c.get.ensures.text (sym c.if-is_free.true ∙ c.is_free.ensures offers)

pub returns-else-is_free : goal.returns-else-is_free
returns-else-is_free c offers =
    named_used (setting_in c.args.turn offers) (state_in c.args.turn).contents c.args.asked c.in-Some.id c.get.result.now
    c.in-Some.is c.get.ensures.text (sym c.if-is_free.false ∙ c.is_free.ensures offers)
