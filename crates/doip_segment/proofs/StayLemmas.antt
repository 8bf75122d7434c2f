-- Bytes that break stay broken, whatever follows them.
use Rattle.std.proofs.Common.{◌≡◌, ◌+◌, ℕ, ◌⊎◌, List, [], ◌∷◌, ◌++◌, length, true, false, refl, sym, ap, ◌∙◌, subst, arith, append_assoc}
use Rattle.std.proofs.lemmas.List.{append-nil}
use Rattle.doip_segment.specs.declared.outcome.Limits.{Limits}
use Rattle.doip_segment.specs.declared.outcome.Reason.{Reason}
use Rattle.doip_segment.specs.declared.phase.Phase.{Phase}
use Rattle.doip_segment.specs.declared.phase.Phase.TheVariants.{Due, Text, LineStart, JsonEnd, BytesStart, ChunkDue, Digits, Padding, Data, DataEnd, BytesEnd, MessageEnd, Whole, Stuck}
use Rattle.doip_segment.specs.Segments.{Segment}
use Rattle.doip_segment.specs.Framing.{NothingSpelt, Broken, Framed}
use Rattle.doip_segment.specs.Machine.{run, is_done, start}
use Rattle.doip_segment.proofs.FramingLemmas.{whole_spelt, live_unfinished, stuck_broken}
use Rattle.doip_segment.proofs.LawLemmas.{stuck_unspelt, never_done, one_broken, cut}

-- No prefix of the bytes is a message, and they break here.
pub record IsBroken (limits : Limits) (bytes : List ℕ) (place : ℕ) (reason : Reason) : Type 0 where
  pub unspelt : NothingSpelt limits bytes
  pub broken : Broken limits bytes place reason

-- a fault that was read stays where it is
stuck_stays : (limits : Limits) (prefix after more : List ℕ) (place : ℕ) (reason found : Reason) → (run limits start prefix).count ≡ length prefix
    → (run limits start prefix).phase ≡ Stuck found → Broken limits (prefix ++ after) place reason → IsBroken limits ((prefix ++ after) ++ more) place reason
stuck_stays limits prefix after more place reason found count at broken =
    let same = one_broken limits (prefix ++ after) place (length prefix) reason found broken (stuck_broken limits prefix after found count at) in
    let whole : prefix ++ (after ++ more) ≡ (prefix ++ after) ++ more = sym (append_assoc prefix after more) in
    let there : Broken limits (prefix ++ (after ++ more)) (length prefix) found = stuck_broken limits prefix (after ++ more) found count at in
    record {
      unspelt = subst (NothingSpelt limits) whole (stuck_unspelt limits prefix (after ++ more) found at);
      broken = subst (λ (x : List ℕ). Broken limits x place reason) whole
          (subst (λ (k : ℕ). Broken limits (prefix ++ (after ++ more)) k reason) (sym same.0)
          (subst (λ (r : Reason). Broken limits (prefix ++ (after ++ more)) (length prefix) r) (sym same.1) there));
    }

-- bytes of which all were read, and more are needed, break nowhere
live_breaks : (limits : Limits) (prefix after : List ℕ) (place : ℕ) (reason : Reason) → (run limits start prefix).count ≡ length prefix → is_done (run limits start prefix).phase ≡ false → after ≡ []
    → Broken limits (prefix ++ after) place reason → ⊥
live_breaks limits prefix after place reason count live none broken =
    (live_unfinished limits prefix count live).unbroken place reason
    (subst (λ (x : List ℕ). Broken limits x place reason) (ap (λ (x : List ℕ). prefix ++ x) none ∙ append-nil prefix) broken)

stays_by : (limits : Limits) (prefix after more : List ℕ) (place : ℕ) (reason : Reason) (p : Phase) → (run limits start prefix).phase ≡ p → (run limits start prefix).count ≡ length prefix
    → (is_done p ≡ true) ⊎ (after ≡ []) → NothingSpelt limits (prefix ++ after) → Broken limits (prefix ++ after) place reason → IsBroken limits ((prefix ++ after) ++ more) place reason
stays_by limits prefix after more place reason Whole at count ends none broken =
    absurd (none prefix after (run limits start prefix).segments refl (whole_spelt limits prefix count at))
stays_by limits prefix after more place reason (Stuck found) at count ends none broken = stuck_stays limits prefix after more place reason found count at broken
stays_by limits prefix after more place reason Due at count ends none broken = absurd (live_breaks limits prefix after place reason count (ap is_done at) (never_done Due refl after ends) broken)
stays_by limits prefix after more place reason Text at count ends none broken = absurd (live_breaks limits prefix after place reason count (ap is_done at) (never_done Text refl after ends) broken)
stays_by limits prefix after more place reason LineStart at count ends none broken = absurd (live_breaks limits prefix after place reason count (ap is_done at) (never_done LineStart refl after ends) broken)
stays_by limits prefix after more place reason JsonEnd at count ends none broken = absurd (live_breaks limits prefix after place reason count (ap is_done at) (never_done JsonEnd refl after ends) broken)
stays_by limits prefix after more place reason BytesStart at count ends none broken = absurd (live_breaks limits prefix after place reason count (ap is_done at) (never_done BytesStart refl after ends) broken)
stays_by limits prefix after more place reason ChunkDue at count ends none broken = absurd (live_breaks limits prefix after place reason count (ap is_done at) (never_done ChunkDue refl after ends) broken)
stays_by limits prefix after more place reason (Digits n v) at count ends none broken = absurd (live_breaks limits prefix after place reason count (ap is_done at) (never_done (Digits n v) refl after ends) broken)
stays_by limits prefix after more place reason (Padding v) at count ends none broken = absurd (live_breaks limits prefix after place reason count (ap is_done at) (never_done (Padding v) refl after ends) broken)
stays_by limits prefix after more place reason (Data left) at count ends none broken = absurd (live_breaks limits prefix after place reason count (ap is_done at) (never_done (Data left) refl after ends) broken)
stays_by limits prefix after more place reason DataEnd at count ends none broken = absurd (live_breaks limits prefix after place reason count (ap is_done at) (never_done DataEnd refl after ends) broken)
stays_by limits prefix after more place reason BytesEnd at count ends none broken = absurd (live_breaks limits prefix after place reason count (ap is_done at) (never_done BytesEnd refl after ends) broken)
stays_by limits prefix after more place reason MessageEnd at count ends none broken = absurd (live_breaks limits prefix after place reason count (ap is_done at) (never_done MessageEnd refl after ends) broken)

pub stays : (limits : Limits) (bytes more : List ℕ) (place : ℕ) (reason : Reason) → NothingSpelt limits bytes → Broken limits bytes place reason → IsBroken limits (bytes ++ more) place reason
stays limits bytes more place reason none broken =
    let c = cut limits start bytes in
    let count : (run limits start c.prefix).count ≡ length c.prefix = c.count ∙ (let e : 0 + length c.prefix ≡ length c.prefix = omega arith in e) in
    subst (λ (x : List ℕ). IsBroken limits (x ++ more) place reason) (sym c.is)
    (stays_by limits c.prefix c.after more place reason (run limits start c.prefix).phase refl count c.ends
    (subst (NothingSpelt limits) c.is none) (subst (λ (x : List ℕ). Broken limits x place reason) c.is broken))

-- The rest that a stream's messages leave is unspelt.
pub rest_unspelt : (limits : Limits) (bytes : List ℕ) (messages : List (List Segment)) (rest : List ℕ) → Framed limits bytes messages rest → NothingSpelt limits rest
rest_unspelt limits bytes [] rest h = h.1
rest_unspelt limits bytes (m ∷ messages) rest h = rest_unspelt limits h.1 messages rest h.4

-- a stream whose rest breaks has the same messages, whatever follows
pub framed_on : (limits : Limits) (bytes more : List ℕ) (messages : List (List Segment)) (rest : List ℕ) → Framed limits bytes messages rest → NothingSpelt limits (rest ++ more)
    → Framed limits (bytes ++ more) messages (rest ++ more)
framed_on limits bytes more [] rest h none = (ap (λ (x : List ℕ). x ++ more) h.0, none)
framed_on limits bytes more (m ∷ messages) rest h none =
    (h.0, h.1 ++ more, h.2, ap (λ (x : List ℕ). x ++ more) h.3 ∙ append_assoc h.0 h.1 more, framed_on limits h.1 more messages rest h.4 none)
