use Rattle.std.proofs.Common.{arith}
use Rattle.dobj_field.proofs.LetterLemmas.{alone_tilde, tilde, slash, no_digit}
use Rattle.dobj_field.proofs.field.escape_of.Goals as goal

pub returns-then-rest-eq1 : goal.returns-then-rest-eq1
returns-then-rest-eq1 c = alone_tilde c.args.rest.now c.requires.head (omega arith)

pub returns-then-rest-eq48 : goal.returns-then-rest-eq48
returns-then-rest-eq48 c = tilde c.args.rest.now c.requires.head (omega arith) (omega arith)

pub returns-then-rest-eq49 : goal.returns-then-rest-eq49
returns-then-rest-eq49 c = slash c.args.rest.now c.requires.head (omega arith) (omega arith)

pub returns : goal.returns
returns c = no_digit c.args.rest.now c.requires.head (omega arith) (λ e. omega arith) (λ e. omega arith)
