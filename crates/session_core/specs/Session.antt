-- One session of a link: what was read, what was replied, and how it ended.
use Rattle.std.specs.Prelude.{◌≡◌, ◌≤◌, ◌⊎◌, ℕ, List, [], ◌∷◌, ◌++◌, length, take, Some}
use Rattle.std.specs.List.{AllByRecursion}
use Rattle.std.specs.Io.KnownBytes.{Appends, Consumes, IsAtEnd}
use Rattle.base_core.specs.Causes.{Rose}
use Rattle.link_core.specs.Link.{LinkState}
use Rattle.doip_segment.specs.declared.outcome.Limits.{Limits}
use Rattle.doip_segment.specs.declared.outcome.Reason.{Reason}
use Rattle.doip_segment.specs.Segments.{Segment}
use Rattle.doip_segment.specs.Grammar.{IsWhite}
use Rattle.doip_segment.specs.Framing.{Framed, Broken, BreaksSession, IsUnbroken, saturated}
use Rattle.doip_message.specs.Fixed.{framing_reply}
use Rattle.doip_message.specs.Reply.{reply_text}
use Rattle.doip_message.specs.Pairs.{Pair, messages_of, texts_of}
use Rattle.session_core.specs.declared.end.SessionEnd.{SessionEnd}
use Rattle.session_core.specs.declared.end.SessionEnd.TheVariants.{Ended, Cut, Framing, ReadFault, WriteFault}

-- the last text of a session whose bytes frame no message
abbrev pub framing_text : List ℕ
framing_text = reply_text framing_reply

-- What a session read, the messages that frame it and the rest, which begins with none; its replies, and what it wrote.
pub record Conversation : Type 0 where
  pub read : List ℕ
  pub messages : List (List Segment)
  pub rest : List ℕ
  pub pairs : List Pair
  pub written : List ℕ

-- Each message has its reply, in order. The texts of the replies were written, and then this last text.
pub record RepliesToAll (x : Conversation) (last : List ℕ) : Type 0 where
  pub each : messages_of x.pairs ≡ x.messages
  pub wrote : x.written ≡ texts_of x.pairs ++ last

-- The write of a reply failed: the texts of the replies were written, and the last of them may lack a suffix.
-- Later messages have no reply.
pub record ReplyFailed (x : Conversation) : Type 0 where
  pub before : List Pair
  pub last : Pair
  pub count : ℕ
  pub later : List (List Segment)
  pub are : x.pairs ≡ before ++ last ∷ []
  pub each : x.messages ≡ messages_of x.pairs ++ later
  pub wrote : x.written ≡ texts_of before ++ take count last.text

-- The write of the framing text failed: all replies were written, and the framing text may lack a suffix.
pub record FramingFailed (limits : Limits) (x : Conversation) : Type 0 where
  pub place : ℕ
  pub reason : Reason
  pub count : ℕ
  pub breaks : Broken limits x.rest place reason
  pub all : RepliesToAll x (take count framing_text)

-- What holds at each end of a session: `at_end` says that its link is at its end, and `rose` that the link had a fault.
abbrev pub EndsSo : Limits → Conversation → Type 0 → Type 0 → SessionEnd → Type 0
EndsSo limits x at_end rose Ended =
    RepliesToAll x [] × at_end × AllByRecursion IsWhite x.rest × IsUnbroken limits x.rest
EndsSo limits x at_end rose (Cut place) =
    RepliesToAll x [] × at_end × ¬ AllByRecursion IsWhite x.rest × IsUnbroken limits x.rest
    × (place ≡ saturated (length x.read))
EndsSo limits x at_end rose (Framing place reason) =
    RepliesToAll x framing_text × BreaksSession limits x.read x.rest place reason
EndsSo limits x at_end rose ReadFault =
    RepliesToAll x [] × IsUnbroken limits x.rest × rose
EndsSo limits x at_end rose WriteFault =
    rose × (ReplyFailed x ⊎ FramingFailed limits x)

-- What is known of a session whose link reports its bytes: those that it read, those that it left unread and those that
-- it wrote; its replies; the link's number of faults before and after; and its end.
pub record Transcript : Type 0 where
  pub read : List ℕ
  pub unread : List ℕ
  pub written : List ℕ
  pub pairs : List Pair
  pub before : ℕ
  pub after : ℕ
  pub end : SessionEnd

-- A session: the bytes read are messages that frame them and a rest, and it replied and ended as its end says.
pub record Session (limits : Limits) (t : Transcript) : Type 0 where
  pub messages : List (List Segment)
  pub rest : List ℕ
  pub framed : Framed limits t.read messages rest
  pub ends : EndsSo limits
      (record { read = t.read; messages = messages; rest = rest; pairs = t.pairs; written = t.written })
      (t.unread ≡ []) (Rose t.before t.after) t.end

-- From one state of a link to a later one, these bytes were read from it and these were written on it.
pub record Moves (old new : LinkState) (read wrote : List ℕ) : Type 0 where
  pub taken : Appends old.taken new.taken read
  pub left : Consumes old.left new.left read
  pub written : Appends old.written new.written wrote
  pub later : old.faults ≤ new.faults

-- The same for any link, also one that reports no bytes: its pairs are new, and the link gave and took the bytes.
pub record Served (limits : Limits) (old new : List Pair) (before after : LinkState) (end : SessionEnd) : Type 0 where
  pub conversation : Conversation
  pub pairs : new ≡ old ++ conversation.pairs
  pub moved : Moves before after conversation.read conversation.written
  pub framed : Framed limits conversation.read conversation.messages conversation.rest
  pub ends : EndsSo limits conversation (IsAtEnd after.left) (Rose before.faults after.faults) end

-- The transcript of a session on a link that reported the bytes that were left to read when it began.
pub record IsTranscript (old new : List Pair) (before after : LinkState) (end : SessionEnd)
    (t : Transcript) : Type 0 where
  pub pairs : new ≡ old ++ t.pairs
  pub input : before.left ≡ Some (t.read ++ t.unread)
  pub left : after.left ≡ Some t.unread
  pub taken : (bytes : List ℕ) → before.taken ≡ Some bytes → after.taken ≡ Some (bytes ++ t.read)
  pub written : (bytes : List ℕ) → before.written ≡ Some bytes → after.written ≡ Some (bytes ++ t.written)
  pub faults_before : t.before ≡ before.faults
  pub faults_after : t.after ≡ after.faults
  pub end_is : t.end ≡ end
