use Rattle.std.proofs.Common.{arith}
use Rattle.record_core.proofs.Heads.{short_head, after_counter, short_size, after_size, short_text, short_count}
use Rattle.record_core.proofs.Results.{if_none}
use Rattle.record_core.proofs.cutting.head_of.Goals as goal

pub returns-in_err-counter-clause-none : goal.returns-in_err-counter-clause-none
returns-in_err-counter-clause-none c =
    if_none c.from_residual.result _ (λ counter shown count payloads small short is. short_head c.args.bytes.now counter shown count payloads c.in_err-counter.ensures.none is)

pub returns-in_err-size-clause-none : goal.returns-in_err-size-clause-none
returns-in_err-size-clause-none c =
    if_none c.from_residual-in_err-size.result _ (λ counter shown count payloads small short is.
    let rest = c.in_ok-counter.rest.now in
    let first = after_counter c.args.bytes.now rest counter c.in_ok-counter.counter c.in_ok-counter.ensures.small c.in_ok-counter.ensures.some shown count payloads small is in
    short_size rest shown count payloads c.in_err-size.ensures.none first)

pub returns-in_err-text-clause-none : goal.returns-in_err-text-clause-none
returns-in_err-text-clause-none c =
    if_none c.from_residual-in_err-text.result _ (λ counter shown count payloads small short is.
    let rest = c.in_ok-counter.rest.now in
    let first = after_counter c.args.bytes.now rest counter c.in_ok-counter.counter c.in_ok-counter.ensures.small c.in_ok-counter.ensures.some shown count payloads small is in
    let second = after_size rest c.in_ok-size.rest.now c.in_ok-size.size shown count payloads c.in_ok-size.ensures.small short c.in_ok-size.ensures.some first in
    short_text c.in_ok-size.rest.now c.in_ok-size.size shown count payloads c.in_err-text.ensures.none second.0 second.1)

pub returns-in_err-count-clause-none : goal.returns-in_err-count-clause-none
returns-in_err-count-clause-none c =
    if_none c.from_residual-in_err-count.result _ (λ counter shown count payloads small short is.
    let rest = c.in_ok-counter.rest.now in
    let first = after_counter c.args.bytes.now rest counter c.in_ok-counter.counter c.in_ok-counter.ensures.small c.in_ok-counter.ensures.some shown count payloads small is in
    let second = after_size rest c.in_ok-size.rest.now c.in_ok-size.size shown count payloads c.in_ok-size.ensures.small short c.in_ok-size.ensures.some first in
    short_count c.in_ok-size.rest.now c.in_ok-text.text.now c.in_ok-text.rest.now shown count payloads (omega (arith, c.in_ok-text.ensures.whole, second.0)) c.in_err-count.ensures.none c.in_ok-text.ensures.some second.1)
