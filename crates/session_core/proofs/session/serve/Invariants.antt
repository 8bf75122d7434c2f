use Rattle.std.proofs.Common.{◌≡◌, ◌+◌, ◌*◌, length}
use Rattle.session_core.specs.Reading.{stage}
use Rattle.session_core.proofs.Sessions.{HasServed}
use Rattle.session_core.proofs.session.serve.Given as goal

-- the messages so far have their replies
abbrev pub invariant-loop-responder : goal.invariant-loop-responder
invariant-loop-responder g l = record {
  served : HasServed l.fn.decoder.limits (g.P.Responder.answered l.fn.responder) (g.P.Responder.answered l.responder)
      (g.L.Link.state l.fn.link) (stage l.reader (g.L.Link.state l.link) l.decoder);
  closed : (g.L.Link.state l.link).closed ≡ (g.L.Link.state l.fn.link).closed;
  fixed : g.P.Responder.fixed l.responder ≡ g.P.Responder.fixed l.fn.responder;
  ready : g.P.Responder.ready l.responder;
}

-- a message costs a read, or bytes that the reader holds
abbrev pub decreases-loop-responder : goal.decreases-loop-responder
decreases-loop-responder g l = (g.L.Link.state l.link).reads * 65537 + length l.reader
