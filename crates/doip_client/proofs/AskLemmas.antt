-- One lemma for each way out of `ask`.
use Rattle.std.proofs.Common.{◌≡◌, ℕ, ◌+◌, ◌-◌, ◌≤◌, ◌^◌, List, [], ◌++◌, length, take, Option, None, Some, Result, Ok, Err, refl, sym, ap, ◌∙◌, subst, arith, append_assoc, append-nil}
use Rattle.std.specs.Prelude.{unwrap_or}
use Rattle.std.proofs.Math.Seq.{take-append_seam}
use Rattle.std.proofs.KnownBytes.{Appends-nil, Appends-kept, Consumes-nil, Consumes-kept}
use Rattle.std.specs.Io.KnownBytes.{Keeps, Appends, Consumes, IsAtEnd}
use Rattle.base_core.specs.Causes.{Rose}
use Rattle.link_core.specs.Link.{LinkState, KeepsInput}
use Rattle.doip_segment.specs.declared.outcome.Limits.{Limits}
use Rattle.doip_segment.specs.declared.outcome.Reason.{Reason}
use Rattle.doip_segment.specs.declared.outcome.Step.{Step}
use Rattle.doip_segment.specs.declared.outcome.Step.TheVariants as steps
use Rattle.doip_segment.specs.Segments.{Segment}
use Rattle.doip_segment.specs.Framing.{Spelt, NothingSpelt, Broken, IsUnfinished, saturated}
use Rattle.doip_segment.specs.Decoding.{Decoding, Took, IsStanding, Frames}
use Rattle.doip_segment.proofs.FeedLemmas.{stands_framed}
use Rattle.doip_segment.proofs.SessionLemmas.{empty_unspelt}
use Rattle.doip_segment.proofs.StayLemmas.{stays}
use Rattle.doip_message.specs.declared.response.Response.{Response}
use Rattle.doip_message.specs.Asked.{Asked}
use Rattle.doip_message.specs.Reply.{Replied}
use Rattle.session_core.specs.Reading.{OnlyReads, Stage, stage, Flows, IsSpent}
use Rattle.session_core.specs.Saying.{SaysBytes}
use Rattle.doip_client.specs.declared.fault.ClientFault.{ClientFault}
use Rattle.doip_client.specs.declared.fault.ClientFault.TheVariants.{WriteFault, ReadFault, Cut, Framing, Memory}
use Rattle.doip_client.specs.Exchange.{answered, answer_of, Outcome}
use Rattle.doip_client.specs.Asking.{unread, question_text, exchange, IsReady, IsAnswer, Asks}
use Rattle.doip_client.proofs.AnswerLemmas.{message_outcome, is_ready}

-- ---- bytes that a link reports

kept_appends : (a b c : Option (List ℕ)) (bytes : List ℕ) → Keeps a b → Appends b c bytes → Appends a c bytes
kept_appends None b c bytes kept more = tt
kept_appends (Some xs) None c bytes kept more = absurd kept
kept_appends (Some xs) (Some ys) None bytes kept more = more
kept_appends (Some xs) (Some ys) (Some zs) bytes kept more = more ∙ ap (λ (w : List ℕ). w ++ bytes) kept

kept_consumes : (a b c : Option (List ℕ)) (bytes : List ℕ) → Keeps a b → Consumes b c bytes → Consumes a c bytes
kept_consumes None b c bytes kept more = tt
kept_consumes (Some xs) None c bytes kept more = absurd kept
kept_consumes (Some xs) (Some ys) None bytes kept more = more
kept_consumes (Some xs) (Some ys) (Some zs) bytes kept more = sym kept ∙ more

had : (a b : Option (List ℕ)) (gave bytes : List ℕ) → Consumes a b gave → a ≡ Some bytes
    → bytes ≡ gave ++ unwrap_or b []
had None b gave bytes consumed is = absurd (cc)
had (Some xs) None gave bytes consumed is = absurd consumed
had (Some xs) (Some ys) gave bytes consumed is = let same : xs ≡ bytes = cc in sym same ∙ consumed

-- what was to be read is what was taken and what is after it
all_input : (a b : Option (List ℕ)) (held gave took rest : List ℕ) → Consumes a b gave → held ++ gave ≡ took ++ rest
    → (bytes : List ℕ) → a ≡ Some bytes → held ++ bytes ≡ took ++ (rest ++ unwrap_or b [])
all_input a b held gave took rest consumed split bytes is =
    ap (λ (w : List ℕ). held ++ w) (had a b gave bytes consumed is)
    ∙ (sym (append_assoc held gave (unwrap_or b []))
    ∙ (ap (λ (w : List ℕ). w ++ unwrap_or b []) split ∙ append_assoc took rest (unwrap_or b [])))

at_end : (b : Option (List ℕ)) → IsAtEnd b → unwrap_or b [] ≡ []
at_end None h = refl
at_end (Some xs) h = h

-- ---- decoders

-- no message stands where the bytes begin with none
none_stands : (d : Decoding) (limits : Limits) (took rest : List ℕ) → Took d took → d.limits ≡ limits
    → NothingSpelt limits (took ++ rest) → IsStanding d → ⊥
none_stands d limits took rest has same unspelt stands =
    let framed : Frames d.limits took [] 0 steps.Message d =
    subst (λ (s : Step). Frames d.limits took [] 0 s d) stands (stands_framed d took has) in
    unspelt took rest d.segments refl
    (subst (λ (w : List ℕ). Spelt limits w d.segments) (append-nil took)
    (subst (λ (l : Limits). Spelt l (took ++ take 0 []) d.segments) same framed))

-- ---- before a byte is read

-- A link that was only written on, by these bytes.
pub record Wrote (old new : LinkState) (bytes : List ℕ) : Type 0 where
  pub written : Appends old.written new.written bytes
  pub input : KeepsInput old new
  pub closed : new.closed ≡ old.closed
  pub later : old.faults ≤ new.faults

-- what `say` wrote
pub wrote_all : {T E : Type 0} (old new : LinkState) (bytes text : List ℕ) (v : T) → bytes ≡ text
    → SaysBytes {T = T} {E = E} old new bytes (Ok v) → Wrote old new text
wrote_all old new bytes text v same said = record {
  written = subst (λ (w : List ℕ). Appends old.written new.written w) same said.written;
  input = said.input;
  closed = said.closed;
  later = said.cause.later;
}

pub asks_nothing : (q : Asked) (s : Stage) → Took s.decoder [] → s.decoder.taken ≤ 2 ^ 64 - 1 → Asks q s s (Err Memory)
asks_nothing q s idle within = record {
  wrote = [];
  gave = [];
  took = [];
  written = Appends-nil s.link.written;
  taken = Appends-nil s.link.taken;
  left = Consumes-nil s.link.left;
  split = append-nil s.held;
  input = λ bytes is. all_input s.link.left s.link.left s.held [] [] s.held (Consumes-nil s.link.left)
      (append-nil s.held) bytes is;
  closed = refl;
  later = omega arith;
  reads = omega arith;
  limits = refl;
  count = omega arith;
  none_stands = none_stands s.decoder s.decoder.limits [] [] idle refl (empty_unspelt s.decoder.limits);
  ready = idle;
  outcome = (0, omega arith, refl);
}

pub asks_in_vain : (q : Asked) (s : Stage) (l : LinkState) (n : ℕ) → Took s.decoder []
    → s.decoder.taken ≤ 2 ^ 64 - 1 → n ≤ length (question_text q) → Wrote s.link l (take n (question_text q))
    → Rose s.link.faults l.faults → Asks q s (stage s.held l s.decoder) (Err WriteFault)
asks_in_vain q s l n idle within short wrote rose =
    let left = Consumes-kept s.link.left s.link.left l.left [] (Consumes-nil s.link.left) wrote.input.left in record {
      wrote = take n (question_text q);
      gave = [];
      took = [];
      written = wrote.written;
      taken = Appends-kept s.link.taken s.link.taken l.taken [] (Appends-nil s.link.taken) wrote.input.taken;
      left = left;
      split = append-nil s.held;
      input = λ bytes is. all_input s.link.left l.left s.held [] [] s.held left (append-nil s.held) bytes is;
      closed = wrote.closed;
      later = wrote.later;
      reads = wrote.input.reads;
      limits = refl;
      count = omega arith;
      none_stands = none_stands s.decoder s.decoder.limits [] [] idle refl (empty_unspelt s.decoder.limits);
      ready = idle;
      outcome = ((n, short, refl), refl, rose);
    }

-- ---- after bytes were read

-- what a decoder is afterwards, and the answer
record Leaves (q : Asked) (s e : Stage) (d : Decoding) (took : List ℕ) (answer : Result Replied ClientFault) : Type 0 where
  limits : d.limits ≡ e.decoder.limits
  count : d.taken ≡ e.decoder.taken
  none : IsStanding d → ⊥
  ready : IsReady answer d
  outcome : Outcome s.decoder.limits (exchange q s (stage e.held e.link d) (question_text q) took) answer

-- a call of `say`, and then one of `next`
asks_then : (q : Asked) (s : Stage) (l : LinkState) (step : Step) (e : Stage) (d : Decoding)
    (answer : Result Replied ClientFault) → Wrote s.link l (question_text q)
    → (flow : Flows step (stage s.held l s.decoder) e) → OnlyReads l e.link → Leaves q s e d flow.fed answer
    → Asks q s (stage e.held e.link d) answer
asks_then q s l step e d answer wrote flow only leaves =
    let left = kept_consumes s.link.left l.left e.link.left flow.gave wrote.input.left flow.left in record {
      wrote = question_text q;
      gave = flow.gave;
      took = flow.fed;
      written = Appends-kept s.link.written l.written e.link.written (question_text q) wrote.written only.written;
      taken = kept_appends s.link.taken l.taken e.link.taken flow.gave wrote.input.taken flow.taken;
      left = left;
      split = flow.split;
      input = λ bytes is. all_input s.link.left e.link.left s.held flow.gave flow.fed e.held left flow.split bytes is;
      closed = only.closed ∙ wrote.closed;
      later = omega (arith, wrote.later, only.later);
      reads = omega (arith, wrote.input.reads, only.reads);
      limits = leaves.limits ∙ flow.feeds.limits;
      count = leaves.count ∙ flow.feeds.taken;
      none_stands = leaves.none;
      ready = leaves.ready;
      outcome = leaves.outcome;
    }

-- A decoder after `clear`.
pub record Cleared (old new : Decoding) : Type 0 where
  pub limits : new.limits ≡ old.limits
  pub none : new.standing ≡ steps.More
  pub idle : Took new []
  pub taken : new.taken ≡ old.taken

not_both : (d : Decoding) → d.standing ≡ steps.More → IsStanding d → ⊥
not_both d none stands = let both : steps.More ≡ steps.Message = sym none ∙ stands in absurd (cc)

pub asks_message : (q : Asked) (s : Stage) (l : LinkState) (e : Stage) (d : Decoding) (r : Result Response ClientFault)
    → Took s.decoder [] → Wrote s.link l (question_text q)
    → Flows steps.Message (stage s.held l s.decoder) e → OnlyReads l e.link → Cleared e.decoder d
    → IsAnswer r (answered q.request_id e.decoder.segments) → Asks q s (stage e.held e.link d) (answer_of r)
asks_message q s l e d r idle wrote flow only cleared is =
    let spelt : Spelt s.decoder.limits flow.fed e.decoder.segments =
    subst (λ (w : List ℕ). Spelt s.decoder.limits w e.decoder.segments) (take-append_seam flow.fed e.held)
    (flow.frames [] idle) in
    asks_then q s l steps.Message e d (answer_of r) wrote flow only (record {
      limits = cleared.limits;
      count = cleared.taken;
      none = not_both d cleared.none;
      ready = is_ready (answer_of r) d cleared.idle;
      outcome = message_outcome s.decoder.limits
          (exchange q s (stage e.held e.link d) (question_text q) flow.fed) e.decoder.segments r refl spelt is;
    })

-- no message stands, since the bytes begin with none
no_message : (step : Step) (s : Stage) (l : LinkState) (e : Stage) → Took s.decoder []
    → (flow : Flows step (stage s.held l s.decoder) e) → NothingSpelt s.decoder.limits (flow.fed ++ e.held)
    → IsStanding e.decoder → ⊥
no_message step s l e idle flow unspelt =
    none_stands e.decoder s.decoder.limits flow.fed e.held (flow.feeds.took [] idle) flow.feeds.limits unspelt

pub asks_broken : (q : Asked) (s : Stage) (l : LinkState) (e : Stage) (place : ℕ) (reason : Reason)
    → Took s.decoder [] → Wrote s.link l (question_text q)
    → Flows (steps.Fault place reason) (stage s.held l s.decoder) e → OnlyReads l e.link → place ≡ e.decoder.taken
    → Asks q s e (Err (Framing place reason))
asks_broken q s l e place reason idle wrote flow only is =
    let limits = s.decoder.limits in
    let framed = flow.frames [] idle in
    let at : length {A = ℕ} [] + length flow.fed ≡ length flow.fed = omega arith in
    let broken : Broken limits (flow.fed ++ e.held) (length flow.fed) reason =
    subst (λ (n : ℕ). Broken limits (flow.fed ++ e.held) n reason) at framed.0 in
    let on = stays limits (flow.fed ++ e.held) (unread e.link) (length flow.fed) reason framed.1 broken in
    let same = append_assoc flow.fed e.held (unread e.link) in
    asks_then q s l (steps.Fault place reason) e e.decoder (Err (Framing place reason)) wrote flow only (record {
      limits = refl;
      count = refl;
      none = no_message (steps.Fault place reason) s l e idle flow framed.1;
      ready = tt;
      outcome = (
        refl,
        subst (λ (w : List ℕ). Broken limits w (length flow.fed) reason) same on.broken,
        subst (λ (w : List ℕ). NothingSpelt limits w) same on.unspelt,
        is ∙ flow.feeds.taken,
      );
    })

-- what was taken, where nothing is held
taken_whole : (limits : Limits) (fed held : List ℕ) → held ≡ [] → IsUnfinished limits (fed ++ held)
    → IsUnfinished limits fed
taken_whole limits fed held none h =
    subst (λ (w : List ℕ). IsUnfinished limits w) (ap (λ (w : List ℕ). fed ++ w) none ∙ append-nil fed) h

pub asks_cut : (q : Asked) (s : Stage) (l : LinkState) (e : Stage) (place : ℕ) → Took s.decoder []
    → Wrote s.link l (question_text q) → Flows steps.More (stage s.held l s.decoder) e → OnlyReads l e.link
    → IsSpent e.held e.link.left e.decoder → place ≡ e.decoder.taken → Asks q s e (Err (Cut place))
asks_cut q s l e place idle wrote flow only spent is =
    let framed = flow.frames [] idle in
    asks_then q s l steps.More e e.decoder (Err (Cut place)) wrote flow only (record {
      limits = refl;
      count = refl;
      none = no_message steps.More s l e idle flow framed.1.unspelt;
      ready = tt;
      outcome = (
        refl,
        taken_whole s.decoder.limits flow.fed e.held spent.nothing_held framed.1,
        ap (λ (w : List ℕ). w ++ unread e.link) spent.nothing_held ∙ at_end e.link.left spent.at_end,
        is ∙ flow.feeds.taken,
      );
    })

pub asks_unread : (q : Asked) (s : Stage) (l : LinkState) (e : Stage) → Took s.decoder []
    → Wrote s.link l (question_text q) → Flows steps.More (stage s.held l s.decoder) e → OnlyReads l e.link
    → e.held ≡ [] → Rose l.faults e.link.faults → Asks q s e (Err ReadFault)
asks_unread q s l e idle wrote flow only none rose =
    let framed = flow.frames [] idle in
    asks_then q s l steps.More e e.decoder (Err ReadFault) wrote flow only (record {
      limits = refl;
      count = refl;
      none = no_message steps.More s l e idle flow framed.1.unspelt;
      ready = tt;
      outcome = (
        refl,
        taken_whole s.decoder.limits flow.fed e.held none framed.1,
        omega (arith, rose, wrote.later),
      );
    })
