use Rattle.std.proofs.Common.{◌≡◌, length, true, false, sym, ap, subst, arith}
use Rattle.record_core.specs.Storable.{IsCounter}
use Rattle.record_core.proofs.Bodies.{not_counter, short_counter, counter_parts}
use Rattle.record_core.proofs.reading.counter_of.Goals as goal

pub returns-in_default : goal.returns-in_default
returns-in_default c = not_counter c.args.format c.args.content.now (λ n is_counter is. short_counter c.args.content.now n c.in_default.ensures.none is)

pub returns-then-rest-gt0 : goal.returns-then-rest-gt0
returns-then-rest-gt0 c = not_counter c.args.format c.args.content.now (λ n is_counter is.
    let parts = counter_parts c.args.content.now c.in-Some.rest.now c.in-Some.n n c.in-Some.ensures.small c.in-Some.ensures.some is_counter is in
    absurd (omega (arith, ap length parts.1, c.if-rest-gt0.true)))

pub returns-then-not-is_counter : goal.returns-then-not-is_counter
returns-then-not-is_counter c = not_counter c.args.format c.args.content.now (λ n is_counter is.
    let parts = counter_parts c.args.content.now c.in-Some.rest.now c.in-Some.n n c.in-Some.ensures.small c.in-Some.ensures.some is_counter is in
    let no : false ≡ true = c.if-not-is_counter.ensures.1 (subst IsCounter (sym parts.0) is_counter) in
    absurd (cc))
