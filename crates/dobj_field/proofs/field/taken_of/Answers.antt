use Rattle.std.proofs.Common.{arith}
use Rattle.dobj_field.proofs.LetterLemmas.{alone_backslash, taken}
use Rattle.dobj_field.proofs.field.taken_of.Goals as goal

pub returns-then-rest-eq1 : goal.returns-then-rest-eq1
returns-then-rest-eq1 c = alone_backslash c.args.rest.now c.requires.head (omega arith)

pub returns : goal.returns
returns c = taken c.args.rest.now c.requires.head (omega arith)
