use Rattle.std.proofs.Common.{◌≡◌, ◌≤◌, ℕ, List, length, take, arith, ◌∙◌, subst}
use Rattle.std.specs.Io.KnownBytes.{Appends}
use Rattle.doip_segment.specs.Segments.{Segment}
use Rattle.doip_message.specs.Asked.{asked_of}
use Rattle.session_core.specs.Reading.{stage}
use Rattle.doip_client.specs.Exchange.{answered}
use Rattle.doip_client.specs.Asking.{IsAnswer}
use Rattle.doip_client.proofs.AskLemmas.{wrote_all, asks_nothing, asks_in_vain, asks_message, asks_broken, asks_cut, asks_unread}
use Rattle.doip_client.proofs.asking.ask.Goals as goal

pub returns-in-Err : goal.returns-in-Err
returns-in-Err g c =
    let s = stage c.args.reader.now (g.L.Link.state c.args.link.now) c.args.decoder.now in
    record { asks = asks_nothing (asked_of c.args.request.now) s c.requires.idle (omega (arith, c.taken.ensures)) }

pub returns-in-Err-say : goal.returns-in-Err-say
returns-in-Err-say g c =
    let s = stage c.args.reader.now (g.L.Link.state c.args.link.now) c.args.decoder.now in
    let l = g.L.Link.state c.say.new.link in
    let text = c.get.ensures ∙ c.in-Ok.ensures in
    let said = c.in-Err-say.ensures in
    let n = said.written.0 in record {
      asks = asks_in_vain (asked_of c.args.request.now) s l n c.requires.idle (omega (arith, c.taken.ensures))
          (subst (λ (w : List ℕ). n ≤ length w) text said.written.1)
          (record {
            written = subst (λ (w : List ℕ). Appends s.link.written l.written (take n w)) text said.written.2;
            input = said.input;
            closed = said.closed;
            later = said.cause.later;
          }) said.cause.failed;
    }

pub returns-in-Message : goal.returns-in-Message
returns-in-Message g c =
    let s = stage c.args.reader.now (g.L.Link.state c.args.link.now) c.args.decoder.now in
    let e = stage c.next.new.self (g.L.Link.state c.next.new.link) c.next.new.decoder in
    let q = asked_of c.args.request.now in
    let cleared = c.clear.ensures.dropped c.in-Message.ensures.means in record {
      asks = asks_message q s (g.L.Link.state c.say.new.link) e c.clear.new.self c.answer_in-answer.result c.requires.idle
          (wrote_all _ _ _ _ _ (c.get.ensures ∙ c.in-Ok.ensures) c.in-Ok-say.ensures) c.in-Message.ensures.flow
          c.in-Message.ensures.only_reads
          (record {
            limits = c.clear.ensures.limits;
            none = cleared.0;
            idle = cleared.1;
            taken = c.clear.ensures.taken;
          })
          (subst (λ (ss : List Segment). IsAnswer c.answer_in-answer.result (answered q.request_id ss))
          c.message.ensures.segments c.answer_in-answer.ensures);
    }

pub returns-in-Ended : goal.returns-in-Ended
returns-in-Ended g c =
    let s = stage c.args.reader.now (g.L.Link.state c.args.link.now) c.args.decoder.now in
    let e = stage c.next.new.self (g.L.Link.state c.next.new.link) c.next.new.decoder in record {
      asks = asks_cut (asked_of c.args.request.now) s (g.L.Link.state c.say.new.link) e c.taken-in-Ended.result
          c.requires.idle (wrote_all _ _ _ _ _ (c.get.ensures ∙ c.in-Ok.ensures) c.in-Ok-say.ensures)
          c.in-Ended.ensures.flow c.in-Ended.ensures.only_reads c.in-Ended.ensures.means.0 c.taken-in-Ended.ensures;
    }

pub returns-in-Cut : goal.returns-in-Cut
returns-in-Cut g c =
    let s = stage c.args.reader.now (g.L.Link.state c.args.link.now) c.args.decoder.now in
    let e = stage c.next.new.self (g.L.Link.state c.next.new.link) c.next.new.decoder in record {
      asks = asks_cut (asked_of c.args.request.now) s (g.L.Link.state c.say.new.link) e c.in-Cut.place c.requires.idle
          (wrote_all _ _ _ _ _ (c.get.ensures ∙ c.in-Ok.ensures) c.in-Ok-say.ensures) c.in-Cut.ensures.flow
          c.in-Cut.ensures.only_reads c.in-Cut.ensures.means.0 c.in-Cut.ensures.means.1;
    }

pub returns-in-Framing : goal.returns-in-Framing
returns-in-Framing g c =
    let s = stage c.args.reader.now (g.L.Link.state c.args.link.now) c.args.decoder.now in
    let e = stage c.next.new.self (g.L.Link.state c.next.new.link) c.next.new.decoder in record {
      asks = asks_broken (asked_of c.args.request.now) s (g.L.Link.state c.say.new.link) e c.in-Framing.place
          c.in-Framing.reason c.requires.idle
          (wrote_all _ _ _ _ _ (c.get.ensures ∙ c.in-Ok.ensures) c.in-Ok-say.ensures) c.in-Framing.ensures.flow
          c.in-Framing.ensures.only_reads c.in-Framing.ensures.means;
    }

pub returns : goal.returns
returns g c =
    let s = stage c.args.reader.now (g.L.Link.state c.args.link.now) c.args.decoder.now in
    let e = stage c.next.new.self (g.L.Link.state c.next.new.link) c.next.new.decoder in record {
      asks = asks_unread (asked_of c.args.request.now) s (g.L.Link.state c.say.new.link) e c.requires.idle
          (wrote_all _ _ _ _ _ (c.get.ensures ∙ c.in-Ok.ensures) c.in-Ok-say.ensures) c.in-ReadFault.ensures.flow
          c.in-ReadFault.ensures.only_reads c.in-ReadFault.ensures.means (c.in-ReadFault.ensures.cause tt);
    }
