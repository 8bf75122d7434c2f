use Rattle.std.proofs.Common.{◌≡◌, ℕ, List, arith, refl, sym, ap, ◌∙◌, subst, take}
use Rattle.std.specs.Io.KnownBytes.{Appends}
use Rattle.doip_segment.specs.Decoding.{Decoding, IsStanding}
use Rattle.doip_message.specs.Pairs.{pair}
use Rattle.session_core.specs.Texts.{reply_bytes}
use Rattle.session_core.specs.Reading.{stage}
use Rattle.session_core.proofs.Sessions.{served_nothing, turned, serves_on, reply_failed, halts, ended, cut, read_failed, breaks_at, framing_written, framing_failed, falls}
use Rattle.session_core.proofs.session.serve.Goals as goal

pub loop-responder-init : goal.loop-responder-init
loop-responder-init g c =
    record {
      served = served_nothing _ _ c.requires.held c.requires.took c.requires.place;
      closed = refl;
      fixed = refl;
      ready = c.requires.ready;
    }

pub loop-responder-smaller : goal.loop-responder-smaller
loop-responder-smaller g c =
    falls _ _ _ _ _ _ _ (c.in-Message.ensures.spends refl) c.say_reply.ensures.input.reads
    c.in-Message.ensures.only_reads.reads c.in-Message.ensures.bound
    c.loop-responder.invariant.served.took c.in-Message.ensures.means

pub loop-responder-preserved : goal.loop-responder-preserved
loop-responder-preserved g c =
    let same : c.respond-back.result.0 ≡ c.next.new.decoder = c.respond-back.ensures.decoder in
    let stood : IsStanding c.respond-back.result.0 = subst IsStanding (sym same) c.in-Message.ensures.means in
    let written = rw c.in_default.is at c.say_reply.ensures.written in
    let text = reply_bytes c.respond-back.result.1.items c.respond-back.result.2 in
    record {
      served = serves_on _ _ _ (pair c.next.new.decoder.segments text) _ (g.L.Link.state c.say_reply.new.link)
          (stage c.next.new.self (g.L.Link.state c.next.new.link) c.next.new.decoder) _
          (turned _ _ _ _ text text _ (g.L.Link.state c.say_reply.new.link) _ _ c.respond-back.ensures.answered
          c.loop-responder.invariant.served c.in-Message.ensures.flow c.in-Message.ensures.only_reads
          (record { input = c.say_reply.ensures.input; written = written; later = c.say_reply.ensures.cause.later }))
          (c.clear.ensures.limits ∙ ap (λ (d : Decoding). d.limits) same) (c.clear.ensures.dropped stood).1
          (c.clear.ensures.taken ∙ ap (λ (d : Decoding). d.taken) same);
      closed = c.say_reply.ensures.closed
          ∙ (c.in-Message.ensures.only_reads.closed ∙ c.loop-responder.invariant.closed);
      fixed = c.respond-back.ensures.fixed ∙ c.loop-responder.invariant.fixed;
      ready = c.respond-back.ensures.ready;
    }

pub returns-in-Err-clause-session : goal.returns-in-Err-clause-session
returns-in-Err-clause-session g c =
    let written = rw c.in-Err.is at c.say_reply.ensures.written in
    let cause = rw c.in-Err.is at c.say_reply.ensures.cause.failed in
    let text = reply_bytes c.respond-back.result.1.items c.respond-back.result.2 in
    reply_failed _ _ _ (pair c.next.new.decoder.segments text) written.0 _ (g.L.Link.state c.next.new.link) _
    (stage c.next.new.self (g.L.Link.state c.next.new.link) c.next.new.decoder)
    c.each_stream_has_one_framing.ensures.some
    (turned _ _ _ _ text (take written.0 text) _
    (g.L.Link.state c.say_reply.new.link) _ _ c.respond-back.ensures.answered
    c.loop-responder.invariant.served c.in-Message.ensures.flow c.in-Message.ensures.only_reads
    (record { input = c.say_reply.ensures.input; written = written.2; later = c.say_reply.ensures.cause.later }))
    (omega (arith, c.loop-responder.invariant.served.moved.later, c.in-Message.ensures.only_reads.later)) cause

pub returns-in-Ended-clause-session : goal.returns-in-Ended-clause-session
returns-in-Ended-clause-session g c =
    let spent = c.in-Ended.ensures.means.0 in
    ended _ _ _ _ _ _ _ (halts _ _ _ _ _ _ c.loop-responder.invariant.served c.in-Ended.ensures.flow spent.nothing_held
    c.in-Ended.ensures.only_reads) spent c.in-Ended.ensures.means.1

pub returns-in-Cut-clause-session : goal.returns-in-Cut-clause-session
returns-in-Cut-clause-session g c =
    let spent = c.in-Cut.ensures.means.0 in
    cut _ _ _ _ _ _ _ _ (halts _ _ _ _ _ _ c.loop-responder.invariant.served c.in-Cut.ensures.flow spent.nothing_held
    c.in-Cut.ensures.only_reads) spent c.in-Cut.ensures.means.1 c.in-Cut.ensures.means.2

pub returns-in-ReadFault-clause-session : goal.returns-in-ReadFault-clause-session
returns-in-ReadFault-clause-session g c =
    read_failed _ _ _ _ (g.L.Link.state c.loop-responder.link) _ _
    (halts _ _ _ _ _ _ c.loop-responder.invariant.served c.in-ReadFault.ensures.flow c.in-ReadFault.ensures.means
    c.in-ReadFault.ensures.only_reads)
    c.loop-responder.invariant.served.moved.later (c.in-ReadFault.ensures.cause tt)

pub returns-in-Ok-clause-session : goal.returns-in-Ok-clause-session
returns-in-Ok-clause-session g c =
    framing_written _ _ _ _ _ _ _
    (breaks_at _ _ _ _ _ (g.L.Link.state c.say.new.link) _ _ _ _ c.loop-responder.invariant.served
    c.in-Framing.ensures.flow
    c.in-Framing.ensures.only_reads
    (record {
      input = c.say.ensures.input;
      written = subst (λ (w : List ℕ). Appends (g.L.Link.state c.next.new.link).written
          (g.L.Link.state c.say.new.link).written w)
          c.fixed_texts_are_replies.ensures.framing c.in-Ok.ensures.written;
      later = c.say.ensures.cause.later;
    }) c.in-Framing.ensures.means)

pub returns-in-Err-say-clause-session : goal.returns-in-Err-say-clause-session
returns-in-Err-say-clause-session g c =
    framing_failed _ _ _ _ (g.L.Link.state c.next.new.link) _ _ _ c.in-Err-say.ensures.written.0
    (breaks_at _ _ _ _ _ (g.L.Link.state c.say.new.link) _ _ _ _ c.loop-responder.invariant.served
    c.in-Framing.ensures.flow
    c.in-Framing.ensures.only_reads
    (record {
      input = c.say.ensures.input;
      written = subst (λ (w : List ℕ). Appends (g.L.Link.state c.next.new.link).written
          (g.L.Link.state c.say.new.link).written (take c.in-Err-say.ensures.written.0 w))
          c.fixed_texts_are_replies.ensures.framing c.in-Err-say.ensures.written.2;
      later = c.say.ensures.cause.later;
    }) c.in-Framing.ensures.means)
    (omega (arith, c.loop-responder.invariant.served.moved.later, c.in-Framing.ensures.only_reads.later))
    c.in-Err-say.ensures.cause.failed
