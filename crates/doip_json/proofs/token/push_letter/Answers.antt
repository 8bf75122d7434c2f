use Rattle.std.proofs.Common.{rules, arith}
use Rattle.doip_json.proofs.Named.{token_of-letter}
use Rattle.doip_json.proofs.token.push_letter.Goals as goal

pub returns-else-letter-eq47 : goal.returns-else-letter-eq47
returns-else-letter-eq47 c =
    rw (← token_of-letter c.args.letter (λ e. omega arith) (λ e. omega arith)) (search rules)
