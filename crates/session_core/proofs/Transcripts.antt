-- Sessions whose link reports its bytes, and two of them over the same bytes.
use Rattle.std.proofs.Common.{◌≡◌, ◌≢◌, ◌⊎◌, inl, inr, ℕ, List, Option, None, Some, [], ◌∷◌, ◌++◌, length, take, drop, refl, sym, ap, ◌∙◌, subst, arith, append_assoc, append-nil, take-append-drop}
use Rattle.std.specs.List.{AllByRecursion}
use Rattle.std.specs.Io.KnownBytes.{Appends, Consumes, IsAtEnd}
use Rattle.base_core.specs.Causes.{Rose}
use Rattle.doip_segment.specs.declared.outcome.Limits.{Limits}
use Rattle.doip_segment.specs.declared.outcome.Reason.{Reason}
use Rattle.doip_segment.specs.Segments.{Segment}
use Rattle.doip_segment.specs.Grammar.{IsWhite}
use Rattle.doip_segment.specs.Framing.{Framed, Broken, saturated, IsUnbroken}
use Rattle.link_core.specs.Link.{LinkState}
use Rattle.session_core.specs.declared.end.SessionEnd.{SessionEnd}
use Rattle.session_core.specs.declared.end.SessionEnd.TheVariants.{Ended, Cut, Framing, ReadFault, WriteFault}
use Rattle.doip_message.specs.Pairs.{Pair, messages_of, texts_of}
use Rattle.session_core.specs.Session.{framing_text, Conversation, RepliesToAll, ReplyFailed, FramingFailed, EndsSo, Transcript, Session, Served, IsTranscript}
use Rattle.session_core.specs.Cuts.{ReadTheSame, IsFaultless}

-- ---- a link that reports its bytes

-- bytes that were known stay known
appends_known : (a b : Option (List ℕ)) (more bytes : List ℕ) → Appends a b more → a ≡ Some bytes
    → b ≡ Some (bytes ++ more)
appends_known None b more bytes h e = absurd (cc)
appends_known (Some x) None more bytes h e = absurd h
appends_known (Some x) (Some y) more bytes h e =
    let same : x ≡ bytes = cc in
    ap (λ (w : List ℕ). Some w) (h ∙ ap (λ (w : List ℕ). w ++ more) same)

-- What is left of known bytes.
record Rest (a b : Option (List ℕ)) (read : List ℕ) : Type 0 where
  unread : List ℕ
  whole : a ≡ Some (read ++ unread)
  left : b ≡ Some unread

rest_known : (a b : Option (List ℕ)) (read bytes : List ℕ) → Consumes a b read → a ≡ Some bytes → Rest a b read
rest_known None b read bytes h e = absurd (cc)
rest_known (Some x) None read bytes h e = absurd h
rest_known (Some x) (Some y) read bytes h e = record { unread = y; whole = ap (λ (w : List ℕ). Some w) h; left = refl }

-- the end of a link that reports what is left
end_known : (b : Option (List ℕ)) (unread : List ℕ) → b ≡ Some unread → IsAtEnd b → unread ≡ []
end_known None unread e h = absurd (cc)
end_known (Some x) unread e h = let same : x ≡ unread = cc in sym same ∙ h

-- the link's end in other words
ends_as : (limits : Limits) (x : Conversation) (P Q rose : Type 0) (end : SessionEnd) → (P → Q)
    → EndsSo limits x P rose end → EndsSo limits x Q rose end
ends_as limits x P Q rose Ended f h = (h.0, f h.1, h.2, h.3)
ends_as limits x P Q rose (Cut place) f h = (h.0, f h.1, h.2, h.3, h.4)
ends_as limits x P Q rose (Framing place reason) f h = h
ends_as limits x P Q rose ReadFault f h = h
ends_as limits x P Q rose WriteFault f h = h

-- what `serve` says of a session is its transcript
pub transcribed : (limits : Limits) (old new : List Pair) (before after : LinkState) (end : SessionEnd) (input : List ℕ)
    → before.left ≡ Some input
    → Served limits old new before after end
    → (t : Transcript) × Session limits t × IsTranscript old new before after end t
transcribed limits old new before after end input known s =
    let rest = rest_known before.left after.left s.conversation.read input s.moved.left known in
    let t : Transcript = record {
      read = s.conversation.read;
      unread = rest.unread;
      written = s.conversation.written;
      pairs = s.conversation.pairs;
      before = before.faults;
      after = after.faults;
      end = end;
    } in (
      t,
      record {
        messages = s.conversation.messages;
        rest = s.conversation.rest;
        framed = s.framed;
        ends = ends_as limits s.conversation (IsAtEnd after.left) (rest.unread ≡ [])
            (Rose before.faults after.faults) end
            (end_known after.left rest.unread rest.left) s.ends;
      },
      record {
        pairs = s.pairs;
        input = rest.whole;
        left = rest.left;
        taken = λ bytes e. appends_known before.taken after.taken s.conversation.read bytes s.moved.taken e;
        written = λ bytes e. appends_known before.written after.written s.conversation.written bytes s.moved.written e;
        faults_before = refl;
        faults_after = refl;
        end_is = refl;
      },
    )

-- ---- two sessions over the same bytes

-- The last text of a session in which no write failed: the framing text where the rest breaks, and else none.
abbrev IsLast : Limits → List ℕ → List ℕ → Type 0
IsLast limits rest last =
    ((last ≡ []) × IsUnbroken limits rest)
    ⊎ ((last ≡ framing_text) × (place : ℕ) × (reason : Reason) × Broken limits rest place reason)

-- A session in which no write failed.
record Whole (limits : Limits) (x : Conversation) : Type 0 where
  last : List ℕ
  all : RepliesToAll x last
  is : IsLast limits x.rest last

whole : (limits : Limits) (x : Conversation) (at_end rose : Type 0) (end : SessionEnd) → EndsSo limits x at_end rose end
    → end ≢ WriteFault → Whole limits x
whole limits x at_end rose Ended h other = record { last = []; all = h.0; is = inl (refl, h.3) }
whole limits x at_end rose (Cut place) h other = record { last = []; all = h.0; is = inl (refl, h.3) }
whole limits x at_end rose (Framing place reason) h other = record {
  last = framing_text;
  all = h.0;
  is = inr (refl, h.1.at, reason, h.1.breaks);
}
whole limits x at_end rose ReadFault h other = record { last = []; all = h.0; is = inl (refl, h.1) }
whole limits x at_end rose WriteFault h other = absurd (other refl)

-- what the bytes alone say of the last text
last_same : (limits : Limits) (rest one other : List ℕ) → IsLast limits rest one → IsLast limits rest other
    → one ≡ other
last_same limits rest one other (inl a) (inl b) = a.0 ∙ sym b.0
last_same limits rest one other (inl a) (inr b) = absurd (a.1 b.1 b.2 b.3)
last_same limits rest one other (inr a) (inl b) = absurd (b.1 a.1 a.2 a.3)
last_same limits rest one other (inr a) (inr b) = a.0 ∙ sym b.0

-- that each list of bytes is framed in one way
abbrev pub OneFraming : Type 0
OneFraming = (limits : Limits) (bytes : List ℕ) (messages others : List (List Segment)) (rest remains : List ℕ)
    → Framed limits bytes messages rest → Framed limits bytes others remains → (messages ≡ others) × (rest ≡ remains)

-- that bytes break at one place
abbrev pub OneBreak : Type 0
OneBreak = (limits : Limits) (bytes : List ℕ) (place other : ℕ) (reason second : Reason)
    → Broken limits bytes place reason → Broken limits bytes other second → (place ≡ other) × (reason ≡ second)

-- a session and the one framing of its bytes
abbrev of_transcript : (t : Transcript) → List (List Segment) → List ℕ → Conversation
of_transcript t messages rest = record {
  read = t.read;
  messages = messages;
  rest = rest;
  pairs = t.pairs;
  written = t.written;
}

-- the framing of two sessions is one
framed_alike : OneFraming → (limits : Limits) (one other : Transcript) (h : ReadTheSame limits one other)
    → (h.first.messages ≡ h.second.messages) × (h.first.rest ≡ h.second.rest)
framed_alike only limits one other h =
    only limits other.read h.first.messages h.second.messages h.first.rest h.second.rest
    (subst (λ (w : List ℕ). Framed limits w h.first.messages h.first.rest) h.bytes h.first.framed) h.second.framed

-- the first of two sessions, if no write failed
first_whole : (limits : Limits) (one other : Transcript) (h : ReadTheSame limits one other) → one.end ≢ WriteFault
    → Whole limits (of_transcript one h.first.messages h.first.rest)
first_whole limits one other h safe = whole limits _ _ _ one.end h.first.ends safe

-- the second of two sessions, if no write failed
second_whole : (limits : Limits) (one other : Transcript) (h : ReadTheSame limits one other) → other.end ≢ WriteFault
    → Whole limits (of_transcript other h.second.messages h.second.rest)
second_whole limits one other h safe = whole limits _ _ _ other.end h.second.ends safe

pub same_messages : OneFraming → (limits : Limits) (one other : Transcript) → ReadTheSame limits one other
    → one.end ≢ WriteFault → other.end ≢ WriteFault → messages_of one.pairs ≡ messages_of other.pairs
same_messages only limits one other h safe good =
    let first = first_whole limits one other h safe in
    let second = second_whole limits one other h good in
    first.all.each ∙ (framed_alike only limits one other h).0 ∙ sym second.all.each

pub same_written : OneFraming → (limits : Limits) (one other : Transcript) → ReadTheSame limits one other
    → one.end ≢ WriteFault → other.end ≢ WriteFault → texts_of one.pairs ≡ texts_of other.pairs
    → one.written ≡ other.written
same_written only limits one other h safe good same =
    let first = first_whole limits one other h safe in
    let second = second_whole limits one other h good in
    let last : first.last ≡ second.last = last_same limits h.second.rest first.last second.last
    (subst (λ (w : List ℕ). IsLast limits w first.last) (framed_alike only limits one other h).1 first.is) second.is in
    first.all.wrote ∙ (ap (λ (w : List ℕ). w ++ first.last) same
    ∙ (ap (λ (w : List ℕ). texts_of other.pairs ++ w) last ∙ sym second.all.wrote))

-- two ends over one rest
ends_alike : OneBreak → (limits : Limits) (x y : Conversation) (P Q R S : Type 0) (one other : SessionEnd)
    → x.rest ≡ y.rest → x.read ≡ y.read
    → EndsSo limits x P R one → EndsSo limits y Q S other → IsFaultless one → IsFaultless other → one ≡ other
ends_alike once limits x y P Q R S Ended Ended rest read h k a b = refl
ends_alike once limits x y P Q R S Ended (Cut p) rest read h k a b =
    absurd (k.2 (subst (λ (w : List ℕ). AllByRecursion IsWhite w) rest h.2))
ends_alike once limits x y P Q R S Ended (Framing p r) rest read h k a b =
    absurd (h.3 k.1.at r (subst (λ (w : List ℕ). Broken limits w k.1.at r) (sym rest) k.1.breaks))
ends_alike once limits x y P Q R S (Cut p) Ended rest read h k a b =
    absurd (h.2 (subst (λ (w : List ℕ). AllByRecursion IsWhite w) (sym rest) k.2))
ends_alike once limits x y P Q R S (Cut p) (Cut q) rest read h k a b =
    ap (λ (n : ℕ). Cut n) (h.4 ∙ (ap (λ (w : List ℕ). saturated (length w)) read ∙ sym k.4))
ends_alike once limits x y P Q R S (Cut p) (Framing q r) rest read h k a b =
    absurd (h.3 k.1.at r (subst (λ (w : List ℕ). Broken limits w k.1.at r) (sym rest) k.1.breaks))
ends_alike once limits x y P Q R S (Framing p r) Ended rest read h k a b =
    absurd (k.3 h.1.at r (subst (λ (w : List ℕ). Broken limits w h.1.at r) rest h.1.breaks))
ends_alike once limits x y P Q R S (Framing p r) (Cut q) rest read h k a b =
    absurd (k.3 h.1.at r (subst (λ (w : List ℕ). Broken limits w h.1.at r) rest h.1.breaks))
ends_alike once limits x y P Q R S (Framing p r) (Framing q s) rest read h k a b =
    let one = once limits y.rest h.1.at k.1.at r s
    (subst (λ (w : List ℕ). Broken limits w h.1.at r) rest h.1.breaks) k.1.breaks in
    let place : p ≡ q = omega (arith, h.1.is, k.1.is, h.1.all, k.1.all, one.0, ap length rest, ap length read) in
    ap (λ (n : ℕ). Framing n r) place ∙ ap (λ (w : Reason). Framing q w) one.1
ends_alike once limits x y P Q R S ReadFault other rest read h k a b = absurd (a.0 refl)
ends_alike once limits x y P Q R S WriteFault other rest read h k a b = absurd (a.1 refl)
ends_alike once limits x y P Q R S one ReadFault rest read h k a b = absurd (b.0 refl)
ends_alike once limits x y P Q R S one WriteFault rest read h k a b = absurd (b.1 refl)

pub same_end : OneFraming → OneBreak → (limits : Limits) (one other : Transcript) → ReadTheSame limits one other
    → IsFaultless one.end → IsFaultless other.end → one.end ≡ other.end
same_end only once limits one other h safe good =
    ends_alike once limits (of_transcript one h.first.messages h.first.rest)
    (of_transcript other h.second.messages h.second.rest) _ _ _ _
    one.end other.end (framed_alike only limits one other h).1 h.bytes h.first.ends h.second.ends safe good

-- The second session ended at a failed write.
failed : (limits : Limits) (x : Conversation) (P R : Type 0) (end : SessionEnd) → EndsSo limits x P R end
    → end ≡ WriteFault → ReplyFailed x ⊎ FramingFailed limits x
failed limits x P R end h e = (subst (λ (w : SessionEnd). EndsSo limits x P R w) e h).1

-- the messages with a reply, and later ones
later_of : (limits : Limits) (x : Conversation) → ReplyFailed x ⊎ FramingFailed limits x
    → (later : List (List Segment)) × (x.messages ≡ messages_of x.pairs ++ later)
later_of limits x (inl reply) = (reply.later, reply.each)
later_of limits x (inr framing) = ([], sym framing.all.each ∙ sym (append-nil (messages_of x.pairs)))

pub fewer_messages : OneFraming → (limits : Limits) (one other : Transcript) → ReadTheSame limits one other
    → one.end ≢ WriteFault → other.end ≡ WriteFault
    → (later : List (List Segment)) × (messages_of one.pairs ≡ messages_of other.pairs ++ later)
fewer_messages only limits one other h safe fault =
    let first = first_whole limits one other h safe in
    let more = later_of limits (of_transcript other h.second.messages h.second.rest)
    (failed limits _ _ _ other.end h.second.ends fault) in
    (more.0, first.all.each ∙ (framed_alike only limits one other h).0 ∙ more.1)

-- the texts of two lists of pairs
texts_append : (ps qs : List Pair) → texts_of (ps ++ qs) ≡ texts_of ps ++ texts_of qs
texts_append [] qs = refl
texts_append (p ∷ ps) qs =
    ap (λ (w : List ℕ). p.text ++ w) (texts_append ps qs) ∙ sym (append_assoc p.text (texts_of ps) (texts_of qs))

-- pairs with no message more are no more pairs
no_more : (ps more : List Pair) → messages_of (ps ++ more) ≡ messages_of ps → more ≡ []
no_more [] [] e = refl
no_more [] (m ∷ more) e = absurd (cc)
no_more (p ∷ ps) more e = let tails : messages_of (ps ++ more) ≡ messages_of ps = cc in no_more ps more tails

-- a prefix of one text and what it lacks
lacks : (n : ℕ) (before text : List ℕ) → before ++ text ≡ (before ++ take n text) ++ drop n text
lacks n before text =
    ap (λ (w : List ℕ). before ++ w) (sym (take-append-drop n text))
    ∙ sym (append_assoc before (take n text) (drop n text))

-- the reply that wasn't written whole, and what would follow it
reply_lacks : (n : ℕ) (before text more last : List ℕ)
    → ((before ++ text) ++ more) ++ last ≡ (before ++ take n text) ++ (drop n text ++ (more ++ last))
reply_lacks n before text more last =
    append_assoc (before ++ text) more last
    ∙ (ap (λ (w : List ℕ). w ++ (more ++ last)) (lacks n before text)
    ∙ append_assoc (before ++ take n text) (drop n text) (more ++ last))

-- what a session with a failed write lacks
lacking_of : (limits : Limits) (x y : Conversation) (more : List Pair) → x.messages ≡ y.messages → x.rest ≡ y.rest
    → Whole limits x
    → ReplyFailed y ⊎ FramingFailed limits y → x.pairs ≡ y.pairs ++ more
    → (lacking : List ℕ) × (x.written ≡ y.written ++ lacking)
lacking_of limits x y more messages rest first (inl reply) are =
    let texts : texts_of x.pairs ≡ (texts_of reply.before ++ reply.last.text) ++ texts_of more =
    ap texts_of are ∙ (texts_append y.pairs more ∙ ap (λ (w : List ℕ). w ++ texts_of more)
    (ap texts_of reply.are ∙ (texts_append reply.before (reply.last ∷ [])
    ∙ ap (λ (w : List ℕ). texts_of reply.before ++ w) (append-nil reply.last.text)))) in (
      drop reply.count reply.last.text ++ (texts_of more ++ first.last),
      first.all.wrote ∙ (ap (λ (w : List ℕ). w ++ first.last) texts
          ∙ (reply_lacks reply.count (texts_of reply.before) reply.last.text (texts_of more) first.last
          ∙ ap (λ (w : List ℕ). w ++ (drop reply.count reply.last.text ++ (texts_of more ++ first.last)))
          (sym reply.wrote))),
    )
lacking_of limits x y more messages rest first (inr framing) are =
    let none : more ≡ [] = no_more y.pairs more
    (sym (ap messages_of are) ∙ (first.all.each ∙ (messages ∙ sym framing.all.each))) in
    let same : x.pairs ≡ y.pairs = are ∙ (ap (λ (w : List Pair). y.pairs ++ w) none ∙ append-nil y.pairs) in
    let last : first.last ≡ framing_text = last_same limits x.rest first.last framing_text first.is
    (inr (
      refl,
      framing.place,
      framing.reason,
      subst (λ (w : List ℕ). Broken limits w framing.place framing.reason)
          (sym rest) framing.breaks,
    )) in (
      drop framing.count framing_text,
      first.all.wrote ∙ (ap (λ (w : List ℕ). texts_of x.pairs ++ w) last
          ∙ (ap (λ (w : List Pair). texts_of w ++ framing_text) same
          ∙ (lacks framing.count (texts_of y.pairs) framing_text
          ∙ ap (λ (w : List ℕ). w ++ drop framing.count framing_text) (sym framing.all.wrote)))),
    )

pub written_prefix : OneFraming → (limits : Limits) (one other : Transcript) (more : List Pair)
    → ReadTheSame limits one other
    → one.end ≢ WriteFault → other.end ≡ WriteFault → one.pairs ≡ other.pairs ++ more
    → (lacking : List ℕ) × (one.written ≡ other.written ++ lacking)
written_prefix only limits one other more h safe fault are =
    let alike = framed_alike only limits one other h in
    lacking_of limits (of_transcript one h.first.messages h.first.rest)
    (of_transcript other h.second.messages h.second.rest) more
    alike.0 alike.1 (first_whole limits one other h safe) (failed limits _ _ _ other.end h.second.ends fault) are
