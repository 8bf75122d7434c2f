-- A text has one meaning.
use Rattle.std.proofs.Common.{◌≡◌, ℕ, Bool, true, List, [], Some, sym, ap, ◌∙◌}
use Rattle.dobj_model.specs.declared.object.ObjectValue.{ObjectValue}
use Rattle.query_text.specs.declared.query.Token.{Token}
use Rattle.query_text.specs.Query.{Disjunction, IsQuery}
use Rattle.query_text.specs.Spelling.{Spelt}
use Rattle.query_text.proofs.OneSpelling.{one_spelling}
use Rattle.query_core.specs.Meaning.{holds}
use Rattle.query_core.specs.Levels.{fresh, outcome}
use Rattle.query_core.proofs.LevelLemmas.{query_outcome}

some_truth : (a b : Bool) → Some a ≡ Some b → a ≡ b
some_truth a b same = cc

pub one_meaning : (text : List ℕ) (tokens others : List Token) (query other : Disjunction) (object : ObjectValue)
    → Spelt true text tokens → IsQuery tokens query → Spelt true text others → IsQuery others other
    → holds query object ≡ holds other object
one_meaning text tokens others query other object spelt is spelt2 is2 =
    some_truth (holds query object) (holds other object)
    (sym (query_outcome tokens query object is)
    ∙ (ap (outcome object fresh []) (one_spelling tokens others text spelt spelt2)
    ∙ query_outcome others other object is2))
