use Rattle.std.proofs.Common.{◌≡◌, length}
use Rattle.query_text.specs.Reading.{term_ended}
use Rattle.query_text.proofs.nesting.Opens.end_term.Given as goal

abbrev pub invariant-loop-self : goal.invariant-loop-self
invariant-loop-self l = term_ended l.initial.self ≡ term_ended l.self

abbrev pub decreases-loop-self : goal.decreases-loop-self
decreases-loop-self l = length l.self
