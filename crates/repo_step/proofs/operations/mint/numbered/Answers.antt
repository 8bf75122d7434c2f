use Rattle.std.proofs.Common.{◌≤◌, ◌∷◌, ◌++◌, length, decimal, ap, sym, ◌∙◌, subst}
use Rattle.repo_step.proofs.MintLemmas.{numbered_fits}
use Rattle.repo_step.proofs.operations.mint.numbered.Goals as goal

pub unreachable-requires : goal.unreachable-requires
unreachable-requires c =
    let is = c.from_string.ensures ∙ c.in_ok-text.ensures.ok ∙ ap (λ p. p ++ 47 ∷ decimal c.args.number) c.get.ensures.text in
    c.in-None.ensures (subst (λ t. (1 ≤ length t) × (length t ≤ 255)) (sym is)
    (numbered_fits c.args.turn.config.now.prefix c.args.number c.args.turn.config.now.short c.ranges.number.fits))
