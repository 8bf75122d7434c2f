use Rattle.std.proofs.Common.{ap, sym, ◌∙◌}
use Rattle.std.specs.FinMap as finite
use Rattle.repo_state.proofs.LeastLemmas.{len_is}
use Rattle.repo_state.proofs.table.Table.count.Goals as goal

pub returns : goal.returns
returns c = c.len.ensures.length ∙ sym (len_is _ c.len.ensures.distinct) ∙ ap (λ t. finite.len t.contents.objects) c.self.view_is
