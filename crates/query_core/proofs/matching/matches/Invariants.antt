use Rattle.std.proofs.Common.{◌≡◌, drop, Some}
use Rattle.std.specs.Prelude.{reverse}
use Rattle.query_text.specs.Query.{Disjunction, IsQuery}
use Rattle.query_core.specs.Meaning.{holds}
use Rattle.query_core.specs.Levels.{outcome}
use Rattle.query_core.proofs.matching.matches.Given as goal

abbrev pub invariant-loop-token : goal.invariant-loop-token
invariant-loop-token l = (meant : Disjunction) → IsQuery l.token-items meant
    → outcome l.object l.level (reverse l.outer) (drop l.token-index l.token-items) ≡ Some (holds meant l.object)
