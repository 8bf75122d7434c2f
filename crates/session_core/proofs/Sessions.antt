-- A session, message by message.
use Rattle.std.proofs.Common.{◌≡◌, ◌≤◌, ◌<◌, ◌+◌, ◌*◌, ◌⊎◌, inl, inr, ℕ, List, [], ◌∷◌, ◌++◌, length, take, refl, sym, ap, ◌∙◌, subst, arith, append_assoc, append-nil, length-append, zero-add}
use Rattle.std.proofs.Math.Seq.{take-append_seam}
use Rattle.base_core.specs.Causes.{Rose}
use Rattle.doip_segment.specs.declared.outcome.Limits.{Limits}
use Rattle.doip_segment.specs.declared.outcome.Reason.{Reason}
use Rattle.doip_segment.specs.declared.outcome.Step.{Step}
use Rattle.doip_segment.specs.declared.outcome.Step.TheVariants as steps
use Rattle.doip_segment.specs.Segments.{Segment}
use Rattle.doip_segment.specs.Framing.{Spelt, Framed, Broken, NothingSpelt, IsUnfinished, saturated, IsUnbroken}
use Rattle.doip_segment.specs.Decoding.{Decoding, Took, EndsBetween, IsStanding, Frames}
use Rattle.session_core.specs.Reading.{FeedsHeld, Flows, OnlyReads, Stage, stage, IsSpent}
use Rattle.link_core.specs.Link.{LinkState}
use Rattle.session_core.specs.declared.end.SessionEnd.TheVariants.{Ended, Cut, Framing, ReadFault, WriteFault}
use Rattle.doip_message.specs.Pairs.{Pair, pair, messages_of, texts_of}
use Rattle.session_core.specs.Session.{framing_text, Moves, Served}
use Rattle.session_core.proofs.Framings.{Spells, spells_more, spells_framed, spells_rest}
use Rattle.session_core.proofs.Outcomes.{white_between, between_white}
use Rattle.doip_segment.proofs.FeedLemmas.{standing_some}
use Rattle.session_core.proofs.LinkLemmas.{Writes, moves_nothing, moves_read, moves_written}

-- the texts of one pair more
texts_more : (ps : List Pair) (p : Pair) → texts_of (ps ++ p ∷ []) ≡ texts_of ps ++ p.text
texts_more [] p = append-nil p.text
texts_more (q ∷ ps) p = ap (λ (w : List ℕ). q.text ++ w) (texts_more ps p)
    ∙ sym (append_assoc q.text (texts_of ps) p.text)

-- the messages of one pair more
messages_more : (ps : List Pair) (p : Pair) → messages_of (ps ++ p ∷ []) ≡ messages_of ps ++ p.message ∷ []
messages_more [] p = refl
messages_more (q ∷ ps) p = ap (λ (ms : List (List Segment)). q.message ∷ ms) (messages_more ps p)

-- The session has replied to these messages, and nothing else of it is in the decoder.
pub record HasServed (limits : Limits) (old new : List Pair) (before : LinkState) (now : Stage) : Type 0 where
  pub pairs : List Pair
  pub spelt : List ℕ
  pub are : new ≡ old ++ pairs
  pub moved : Moves before now.link (spelt ++ now.held) (texts_of pairs)
  pub spells : Spells limits spelt (messages_of pairs)
  pub bound : now.decoder.limits ≡ limits
  pub took : Took now.decoder []
  pub place : now.decoder.taken ≡ saturated (length spelt)

-- before the first message
pub served_nothing : (old : List Pair) (s : Stage) → s.held ≡ [] → Took s.decoder [] → s.decoder.taken ≡ 0
    → HasServed s.decoder.limits old old s.link s
served_nothing old s none took place = record {
  pairs = [];
  spelt = [];
  are = sym (append-nil old);
  moved = subst (λ (w : List ℕ). Moves s.link s.link w []) (sym none) (moves_nothing s.link);
  spells = refl;
  bound = refl;
  took = took;
  place = omega (arith, place);
}

-- bytes held and given, and the same bytes fed and held
along : (before held gave fed rest : List ℕ) → held ++ gave ≡ fed ++ rest
    → (before ++ held) ++ gave ≡ (before ++ fed) ++ rest
along before held gave fed rest split =
    append_assoc before held gave ∙ ap (λ (w : List ℕ). before ++ w) split ∙ sym (append_assoc before fed rest)

-- a call of `next`: the link gave bytes, and nothing was written
read_on : {step : Step} (limits : Limits) (old new : List Pair) (t0 : LinkState) (s1 s2 : Stage)
    (h : HasServed limits old new t0 s1) (f : Flows step s1 s2)
    → OnlyReads s1.link s2.link → Moves t0 s2.link ((h.spelt ++ f.fed) ++ s2.held) (texts_of h.pairs)
read_on limits old new t0 s1 s2 h f only =
    subst (λ (w : List ℕ). Moves t0 s2.link w (texts_of h.pairs)) (along h.spelt s1.held f.gave f.fed s2.held f.split)
    (moves_read t0 s1.link s2.link (h.spelt ++ s1.held) f.gave (texts_of h.pairs) h.moved f.taken f.left only)

-- the bytes fed since the last message spell the next
spelt_next : (limits outer : Limits) (fed rest : List ℕ) (new : Decoding) → limits ≡ outer
    → Frames limits [] (fed ++ rest) (length fed) steps.Message new → Spelt outer fed new.segments
spelt_next limits outer fed rest new same h =
    subst (λ (l : Limits). Spelt l fed new.segments) same
    (subst (λ (w : List ℕ). Spelt limits w new.segments) (take-append_seam fed rest) h)

-- A message more has its reply, of which these bytes were written.
pub record Turned (limits : Limits) (old new : List Pair) (last : Pair) (wrote : List ℕ) (before after : LinkState)
    (s : Stage) : Type 0 where
  pub pairs : List Pair
  pub spelt : List ℕ
  pub are : new ≡ old ++ (pairs ++ last ∷ [])
  pub moved : Moves before after (spelt ++ s.held) (texts_of pairs ++ wrote)
  pub spells : Spells limits spelt (messages_of (pairs ++ last ∷ []))
  pub bound : s.decoder.limits ≡ limits
  pub place : s.decoder.taken ≡ saturated (length spelt)

-- a message is read, and its reply written or a prefix of it
pub turned : (limits : Limits) (old es next : List Pair) (text wrote : List ℕ) (t0 t3 : LinkState) (s1 s2 : Stage)
    → next ≡ es ++ pair s2.decoder.segments text ∷ [] → HasServed limits old es t0 s1 → Flows steps.Message s1 s2
    → OnlyReads s1.link s2.link → Writes s2.link t3 wrote
    → Turned limits old next (pair s2.decoder.segments text) wrote t0 t3 s2
turned limits old es next text wrote t0 t3 s1 s2 is served flow only writes =
    let p : Pair = pair s2.decoder.segments text in
    record {
      pairs = served.pairs;
      spelt = served.spelt ++ flow.fed;
      are = is ∙ (ap (λ (w : List Pair). w ++ p ∷ []) served.are ∙ append_assoc old served.pairs (p ∷ []));
      moved = moves_written t0 s2.link t3 ((served.spelt ++ flow.fed) ++ s2.held) (texts_of served.pairs) wrote
          (read_on limits old es t0 s1 s2 served flow only) writes;
      spells = subst (λ (ms : List (List Segment)). Spells limits (served.spelt ++ flow.fed) ms)
          (sym (messages_more served.pairs p))
          (spells_more limits served.spelt flow.fed (messages_of served.pairs) s2.decoder.segments served.spells
          (spelt_next s1.decoder.limits limits flow.fed s2.held s2.decoder served.bound (flow.frames [] served.took)));
      bound = flow.feeds.limits ∙ served.bound;
      place = omega (arith, flow.feeds.taken, served.place, length-append served.spelt flow.fed);
    }

-- the reply was written, and the message is dropped
pub serves_on : (limits : Limits) (old next : List Pair) (last : Pair) (t0 t3 : LinkState) (s2 : Stage) (d3 : Decoding)
    → Turned limits old next last last.text t0 t3 s2 → d3.limits ≡ s2.decoder.limits → Took d3 []
    → d3.taken ≡ s2.decoder.taken
    → HasServed limits old next t0 (stage s2.held t3 d3)
serves_on limits old next last t0 t3 s2 d3 turn same took place =
    record {
      pairs = turn.pairs ++ last ∷ [];
      spelt = turn.spelt;
      are = turn.are;
      moved = subst (λ (w : List ℕ). Moves t0 t3 (turn.spelt ++ s2.held) w)
          (sym (texts_more turn.pairs last)) turn.moved;
      spells = turn.spells;
      bound = same ∙ turn.bound;
      took = took;
      place = place ∙ turn.place;
    }

-- the write of a reply failed
pub reply_failed : (limits : Limits) (old next : List Pair) (last : Pair) (n : ℕ) (t0 t2 t3 : LinkState) (s2 : Stage)
    → ((limits : Limits) (bytes : List ℕ)
    → (messages : List (List Segment)) × (rest : List ℕ) × Framed limits bytes messages rest)
    → Turned limits old next last (take n last.text) t0 t3 s2 → t0.faults ≤ t2.faults → Rose t2.faults t3.faults
    → Served limits old next t0 t3 WriteFault
reply_failed limits old next last n t0 t2 t3 s2 framing turn rises rose =
    let after = framing limits s2.held in
    record {
      conversation = record {
        read = turn.spelt ++ s2.held;
        messages = messages_of (turn.pairs ++ last ∷ []) ++ after.0;
        rest = after.1;
        pairs = turn.pairs ++ last ∷ [];
        written = texts_of turn.pairs ++ take n last.text;
      };
      pairs = turn.are;
      moved = turn.moved;
      framed = spells_framed limits turn.spelt s2.held
          (messages_of (turn.pairs ++ last ∷ [])) after.0 after.1 turn.spells after.2;
      ends = (
        omega (arith, rises, rose),
        inl (record {
          before = turn.pairs;
          last = last;
          count = n;
          later = after.0;
          are = refl;
          each = refl;
          wrote = refl;
        }),
      );
    }

-- The session ends after the messages that it replied to and bytes that are no message yet.
pub record Halted (limits : Limits) (old new : List Pair) (before now : LinkState) (d : Decoding) : Type 0 where
  pub pairs : List Pair
  pub spelt : List ℕ
  pub rest : List ℕ
  pub are : new ≡ old ++ pairs
  pub moved : Moves before now (spelt ++ rest) (texts_of pairs)
  pub framed : Framed limits (spelt ++ rest) (messages_of pairs) rest
  pub unbroken : IsUnbroken limits rest
  pub took : Took d rest
  pub place : d.taken ≡ saturated (length (spelt ++ rest))

-- more bytes are needed, and none come
pub halts : (limits : Limits) (old es : List Pair) (t0 : LinkState) (s1 s2 : Stage) → HasServed limits old es t0 s1
    → Flows steps.More s1 s2 → s2.held ≡ [] → OnlyReads s1.link s2.link
    → Halted limits old es t0 s2.link s2.decoder
halts limits old es t0 s1 s2 served flow none only =
    let whole : flow.fed ++ s2.held ≡ flow.fed = ap (λ (w : List ℕ). flow.fed ++ w) none ∙ append-nil flow.fed in
    let bytes : (served.spelt ++ flow.fed) ++ s2.held ≡ served.spelt ++ flow.fed =
    append_assoc served.spelt flow.fed s2.held ∙ ap (λ (w : List ℕ). served.spelt ++ w) whole in
    let unfinished : IsUnfinished limits flow.fed =
    subst (λ (w : List ℕ). IsUnfinished limits w) whole
    (subst (λ (l : Limits). IsUnfinished l (flow.fed ++ s2.held)) served.bound ((flow.frames [] served.took).1)) in
    record {
      pairs = served.pairs;
      spelt = served.spelt;
      rest = flow.fed;
      are = served.are;
      moved = subst (λ (w : List ℕ). Moves t0 s2.link w (texts_of served.pairs)) bytes
          (read_on limits old es t0 s1 s2 served flow only);
      framed = spells_rest limits served.spelt flow.fed (messages_of served.pairs) served.spells unfinished.unspelt;
      unbroken = unfinished.unbroken;
      took = flow.feeds.took [] served.took;
      place = omega (arith, flow.feeds.taken, served.place, length-append served.spelt flow.fed);
    }

-- the link's end between messages
pub ended : (limits : Limits) (old es : List Pair) (t0 t2 : LinkState) (held : List ℕ) (d2 : Decoding)
    → Halted limits old es t0 t2 d2
    → IsSpent held t2.left d2 → ((came : List ℕ) → Took d2 came → EndsBetween d2 came)
    → Served limits old es t0 t2 Ended
ended limits old es t0 t2 held d2 s spent between =
    record {
      conversation = record {
        read = s.spelt ++ s.rest;
        messages = messages_of s.pairs;
        rest = s.rest;
        pairs = s.pairs;
        written = texts_of s.pairs;
      };
      pairs = s.are;
      moved = s.moved;
      framed = s.framed;
      ends = (
        record { each = refl; wrote = sym (append-nil (texts_of s.pairs)) },
        spent.at_end,
        white_between d2 s.rest spent.none (between s.rest s.took),
        s.unbroken,
      );
    }

-- the link's end inside a message
pub cut : (limits : Limits) (old es : List Pair) (t0 t2 : LinkState) (held : List ℕ) (place : ℕ) (d2 : Decoding)
    → Halted limits old es t0 t2 d2
    → IsSpent held t2.left d2 → place ≡ d2.taken → ((came : List ℕ) → Took d2 came → EndsBetween d2 came → ⊥)
    → Served limits old es t0 t2 (Cut place)
cut limits old es t0 t2 held place d2 s spent is inside =
    record {
      conversation = record {
        read = s.spelt ++ s.rest;
        messages = messages_of s.pairs;
        rest = s.rest;
        pairs = s.pairs;
        written = texts_of s.pairs;
      };
      pairs = s.are;
      moved = s.moved;
      framed = s.framed;
      ends = (
        record { each = refl; wrote = sym (append-nil (texts_of s.pairs)) },
        spent.at_end,
        (λ white. inside s.rest s.took (between_white d2 s.rest spent.none white)),
        s.unbroken,
        is ∙ s.place,
      );
    }

-- a read failed
pub read_failed : (limits : Limits) (old es : List Pair) (t0 t1 t2 : LinkState) (d2 : Decoding)
    → Halted limits old es t0 t2 d2
    → t0.faults ≤ t1.faults → Rose t1.faults t2.faults → Served limits old es t0 t2 ReadFault
read_failed limits old es t0 t1 t2 d2 s before rose =
    record {
      conversation = record {
        read = s.spelt ++ s.rest;
        messages = messages_of s.pairs;
        rest = s.rest;
        pairs = s.pairs;
        written = texts_of s.pairs;
      };
      pairs = s.are;
      moved = s.moved;
      framed = s.framed;
      ends = (
        record { each = refl; wrote = sym (append-nil (texts_of s.pairs)) },
        s.unbroken,
        omega (arith, before, rose),
      );
    }

-- The bytes break, and these bytes were written after the replies.
pub record Breaks (limits : Limits) (old new : List Pair) (before now : LinkState) (place : ℕ) (reason : Reason)
    (last : List ℕ) : Type 0 where
  pub pairs : List Pair
  pub spelt : List ℕ
  pub rest : List ℕ
  pub p : ℕ
  pub are : new ≡ old ++ pairs
  pub moved : Moves before now (spelt ++ rest) (texts_of pairs ++ last)
  pub framed : Framed limits (spelt ++ rest) (messages_of pairs) rest
  pub breaks : Broken limits rest p reason
  pub at : place ≡ saturated (length spelt + p)

-- a framing fault was read, and the framing text written or a prefix of it
pub breaks_at : (limits : Limits) (old es : List Pair) (last : List ℕ) (t0 t3 : LinkState) (s1 s2 : Stage) (place : ℕ)
    (reason : Reason)
    → HasServed limits old es t0 s1 → Flows (steps.Fault place reason) s1 s2 → OnlyReads s1.link s2.link
    → Writes s2.link t3 last → place ≡ s2.decoder.taken → Breaks limits old es t0 t3 place reason last
breaks_at limits old es last t0 t3 s1 s2 place reason served flow only writes is =
    let fault = flow.frames [] served.took in
    record {
      pairs = served.pairs;
      spelt = served.spelt;
      rest = flow.fed ++ s2.held;
      p = length flow.fed;
      are = served.are;
      moved = subst (λ (w : List ℕ). Moves t0 t3 w (texts_of served.pairs ++ last))
          (append_assoc served.spelt flow.fed s2.held)
          (moves_written t0 s2.link t3 ((served.spelt ++ flow.fed) ++ s2.held) (texts_of served.pairs) last
          (read_on limits old es t0 s1 s2 served flow only) writes);
      framed = spells_rest limits served.spelt (flow.fed ++ s2.held) (messages_of served.pairs) served.spells
          (subst (λ (l : Limits). NothingSpelt l (flow.fed ++ s2.held)) served.bound fault.1);
      breaks = subst (λ (l : Limits). Broken l (flow.fed ++ s2.held) (length flow.fed) reason) served.bound
          (subst (λ (k : ℕ). Broken s1.decoder.limits (flow.fed ++ s2.held) k reason)
          (zero-add (length flow.fed)) fault.0);
      at = omega (arith, is, flow.feeds.taken, served.place);
    }

-- the framing text was written
pub framing_written : (limits : Limits) (old es : List Pair) (t0 t3 : LinkState) (place : ℕ) (reason : Reason)
    → Breaks limits old es t0 t3 place reason framing_text → Served limits old es t0 t3 (Framing place reason)
framing_written limits old es t0 t3 place reason b =
    record {
      conversation = record {
        read = b.spelt ++ b.rest;
        messages = messages_of b.pairs;
        rest = b.rest;
        pairs = b.pairs;
        written = texts_of b.pairs ++ framing_text;
      };
      pairs = b.are;
      moved = b.moved;
      framed = b.framed;
      ends = (
        record { each = refl; wrote = refl },
        record {
          before = length b.spelt;
          at = b.p;
          all = sym (length-append b.spelt b.rest);
          breaks = b.breaks;
          is = b.at;
        },
      );
    }

-- the write of the framing text failed
pub framing_failed : (limits : Limits) (old es : List Pair) (t0 t2 t3 : LinkState) (place : ℕ) (reason : Reason) (n : ℕ)
    → Breaks limits old es t0 t3 place reason (take n framing_text) → t0.faults ≤ t2.faults → Rose t2.faults t3.faults
    → Served limits old es t0 t3 WriteFault
framing_failed limits old es t0 t2 t3 place reason n b before rose =
    record {
      conversation = record {
        read = b.spelt ++ b.rest;
        messages = messages_of b.pairs;
        rest = b.rest;
        pairs = b.pairs;
        written = texts_of b.pairs ++ take n framing_text;
      };
      pairs = b.are;
      moved = b.moved;
      framed = b.framed;
      ends = (
        omega (arith, before, rose),
        inr (record {
          place = b.p;
          reason = reason;
          count = n;
          breaks = b.breaks;
          all = record { each = refl; wrote = refl };
        }),
      );
    }

-- a message costs a read that gave bytes, or bytes that were held
pub falls : (r0 r1 r2 : ℕ) (h0 h2 : List ℕ) (a b : Decoding) → (r1 < r0) ⊎ FeedsHeld h0 h2 a b → r2 ≤ r1 → r1 ≤ r0
    → length h2 ≤ 65536 → Took a [] → IsStanding b → r2 * 65537 + length h2 < r0 * 65537 + length h0
falls r0 r1 r2 h0 h2 a b (inl fell) less order bound took stands = omega arith
falls r0 r1 r2 h0 h2 a b (inr f) less order bound took stands =
    let some : 0 < length f.fed = standing_some b f.fed (f.feeds.took [] took) stands in
    omega (arith, ap length f.split, length-append f.fed h2)
