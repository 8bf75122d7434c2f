use Rattle.std.proofs.Common.{arith}
use Rattle.dobj_field.proofs.LetterLemmas.{plain, apart}
use Rattle.dobj_field.proofs.field.letter_of.Goals as goal

pub returns-then-is_apart : goal.returns-then-is_apart
returns-then-is_apart c =
    apart c.args.rest.now c.requires (λ e. omega arith) (λ e. omega arith) (λ e. omega arith) (grind arith)

pub returns : goal.returns
returns c = plain c.args.rest.now c.requires (λ e. omega arith) (λ e. omega arith) (λ e. omega arith) (grind arith)
