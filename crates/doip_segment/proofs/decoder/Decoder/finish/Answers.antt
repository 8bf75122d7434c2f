use Rattle.std.proofs.Common.{sym, ◌∙◌}
use Rattle.doip_segment.proofs.OutcomeLemmas.{ends_between, between_ends, inside_place}
use Rattle.doip_segment.proofs.decoder.Decoder.finish.Goals as goal

pub returns-clause-between : goal.returns-clause-between
returns-clause-between c = λ came took. (
  (λ is. ends_between c.args.self.now came took (sym c.ending.ensures ∙ is)),
  (λ ends. c.ending.ensures ∙ between_ends c.args.self.now came took ends),
)

pub returns-clause-inside : goal.returns-clause-inside
returns-clause-inside c = λ place is. inside_place _ _ _ place (sym is ∙ c.ending.ensures)
