-- A session whose link was closed after it.
use Rattle.std.proofs.Common.{◌≤◌, ℕ, List, Option, None, Some, ◌∙◌, subst, arith}
use Rattle.std.proofs.KnownBytes.{Appends-kept, Consumes-kept}
use Rattle.std.specs.Io.KnownBytes.{Keeps, Consumes, IsAtEnd}
use Rattle.base_core.specs.Causes.{Rose}
use Rattle.link_core.specs.Link.{LinkState, Closes}
use Rattle.doip_segment.specs.declared.outcome.Limits.{Limits}
use Rattle.session_core.specs.Session.{Conversation, EndsSo, Served}
use Rattle.session_core.specs.declared.end.SessionEnd.{SessionEnd}
use Rattle.session_core.specs.declared.end.SessionEnd.TheVariants.{Ended, Cut, Framing, ReadFault, WriteFault}
use Rattle.lane_server.specs.Closing.{LawOfClosing}

-- what an end says follows from what it says of the link
ends_on : (limits : Limits) (x : Conversation) (A B R S : Type 0) (end : SessionEnd) → (A → B) → (R → S)
    → EndsSo limits x A R end → EndsSo limits x B S end
ends_on limits x A B R S Ended f h e = (e.0, f e.1, e.2, e.3)
ends_on limits x A B R S (Cut place) f h e = (e.0, f e.1, e.2, e.3, e.4)
ends_on limits x A B R S (Framing place reason) f h e = e
ends_on limits x A B R S ReadFault f h e = (e.0, e.1, h e.2)
ends_on limits x A B R S WriteFault f h e = (h e.0, e.1)

-- a link that reports what is left is at its end afterwards too
at_end_on : (input : List ℕ) (b c : Option (List ℕ)) (read : List ℕ) → Consumes (Some input) b read → Keeps b c
    → IsAtEnd b → IsAtEnd c
at_end_on input None c read consumes kept end = absurd consumes
at_end_on input (Some xs) None read consumes kept end = absurd kept
at_end_on input (Some xs) (Some ys) read consumes kept end = kept ∙ end

rose_on : (before now later : ℕ) → now ≤ later → Rose before now → Rose before later
rose_on before now later more rose = omega (arith, more, rose)

-- the session is the same once its link is closed
pub closed_session : LawOfClosing
closed_session limits old new a c end input reports x =
    let b : LinkState = x.ended in
    let served : Served limits old new a b end = x.served in
    let closes : Closes b c = x.closes in
    record {
      conversation = served.conversation;
      pairs = served.pairs;
      moved = record {
        taken = Appends-kept a.taken b.taken c.taken served.conversation.read served.moved.taken closes.input.taken;
        left = Consumes-kept a.left b.left c.left served.conversation.read served.moved.left closes.input.left;
        written = Appends-kept a.written b.written c.written served.conversation.written served.moved.written
            closes.written;
        later = omega (arith, served.moved.later, closes.later);
      };
      framed = served.framed;
      ends = ends_on limits served.conversation (IsAtEnd b.left) (IsAtEnd c.left) (Rose a.faults b.faults)
          (Rose a.faults c.faults) end
          (at_end_on input b.left c.left served.conversation.read
          (subst (λ (l : Option (List ℕ)). Consumes l b.left served.conversation.read) reports served.moved.left)
          closes.input.left)
          (rose_on a.faults b.faults c.faults closes.later) served.ends;
    }
