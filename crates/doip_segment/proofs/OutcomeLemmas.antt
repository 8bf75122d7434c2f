-- What the decoder returns for bytes that are known to be a message, or a part of one, and at a session's end.
use Rattle.std.proofs.Common.{◌≡◌, ℕ, ◌+◌, ◌≤◌, ◌⊎◌, inl, inr, List, [], ◌∷◌, ◌++◌, length, map, take, drop, true, false, refl, sym, ap, ◌∙◌, subst, arith, append_assoc, length-append}
use Rattle.std.specs.List.{flat_map, AllByRecursion}
use Rattle.std.proofs.lemmas.List.{append-nil, take-append-drop, length-take-le, length-drop}
use Rattle.doip_segment.specs.declared.outcome.Limits.{Limits}
use Rattle.doip_segment.specs.declared.outcome.Reason.{Reason}
use Rattle.doip_segment.specs.declared.outcome.Step.{Step}
use Rattle.doip_segment.specs.declared.outcome.Step.TheVariants as steps
use Rattle.doip_segment.specs.declared.phase.Phase.{Phase}
use Rattle.doip_segment.specs.declared.phase.Phase.TheVariants.{Due, Text, LineStart, JsonEnd, BytesStart, ChunkDue, Digits, Padding, Data, DataEnd, BytesEnd, MessageEnd, Whole, Stuck}
use Rattle.doip_segment.specs.Segments.{Segment}
use Rattle.doip_segment.specs.Grammar.{IsWhite, Part, part_bytes, segment_of_part}
use Rattle.doip_segment.specs.Framing.{Spelt}
use Rattle.doip_segment.specs.Machine.{run, is_done, Reading, start, outcome_of, end_of}
use Rattle.doip_segment.specs.declared.outcome.End.TheVariants as ends
use Rattle.doip_segment.specs.Decoding.{Decoding, Took, EndsBetween, IsPlaced}
use Rattle.doip_segment.proofs.WalkLemmas.{Core, core, white_walk}
use Rattle.doip_segment.proofs.TellLemmas.{told_at}
use Rattle.doip_segment.proofs.CleanLemmas.{go, core_go, reach, clean_live}
use Rattle.doip_segment.proofs.SpeltLemmas.{spelt_clean, clean_run, spelt_run, run_after}
use Rattle.doip_segment.proofs.LawLemmas.{two_prefixes}
use Rattle.doip_segment.proofs.CleanLemmas.{clean_prefix}

-- the bytes that were taken, and the rest of the piece
taken_rest : (came piece : List ℕ) (used : ℕ) → (came ++ take used piece) ++ drop used piece ≡ came ++ piece
taken_rest came piece used = append_assoc came (take used piece) (drop used piece) ∙ ap (λ x. came ++ x) (take-append-drop used piece)

-- before the end of a spelling nothing is done
pub inside_live : (limits : Limits) (bytes : List ℕ) (b : ℕ) (more : List ℕ) (message : List Segment) → Spelt limits (bytes ++ b ∷ more) message → is_done (run limits start bytes).phase ≡ false
inside_live limits bytes b more message spelt =
    let clean = spelt_clean limits (bytes ++ b ∷ more) message spelt in
    let prefix = clean_prefix limits start bytes (b ∷ more) clean in
    ap (λ (r : Reading). is_done r.phase) (clean_run limits start bytes prefix) ∙ clean_live limits start bytes b more clean

live_more : (p : Phase) (taken : ℕ) → is_done p ≡ false → outcome_of p taken ≡ steps.More
live_more Whole taken live = absurd (let h : true ≡ false = live in cc)
live_more (Stuck reason) taken live = absurd (let h : true ≡ false = live in cc)
live_more Due taken live = refl
live_more Text taken live = refl
live_more LineStart taken live = refl
live_more JsonEnd taken live = refl
live_more BytesStart taken live = refl
live_more ChunkDue taken live = refl
live_more (Digits n v) taken live = refl
live_more (Padding v) taken live = refl
live_more (Data left) taken live = refl
live_more DataEnd taken live = refl
live_more BytesEnd taken live = refl
live_more MessageEnd taken live = refl

rest_live : (limits : Limits) (bytes rest : List ℕ) (b : ℕ) (more : List ℕ) (message : List Segment) → Spelt limits (bytes ++ (rest ++ b ∷ more)) message → is_done (run limits start bytes).phase ≡ false
rest_live limits bytes [] b more message spelt = inside_live limits bytes b more message spelt
rest_live limits bytes (c ∷ rest) b more message spelt = inside_live limits bytes c (rest ++ b ∷ more) message spelt

-- a part of a spelling needs more
pub part_returns : (limits : Limits) (r : Reading) (came piece : List ℕ) (used taken b : ℕ) (more : List ℕ) (message : List Segment) (step : Step) → r ≡ run limits start (came ++ take used piece) → (is_done r.phase ≡ false → used ≡ length piece) → step ≡ outcome_of r.phase taken → Spelt limits (came ++ piece ++ b ∷ more) message → (used ≡ length piece) × (step ≡ steps.More)
part_returns limits r came piece used taken b more message step is all at spelt =
    let bytes = came ++ take used piece in
    let rest = drop used piece in
    let whole : came ++ piece ++ b ∷ more ≡ bytes ++ (rest ++ b ∷ more) = ap (λ x. x ++ b ∷ more) (sym (taken_rest came piece used)) ∙ append_assoc bytes rest (b ∷ more) in
    let live = ap (λ (x : Reading). is_done x.phase) is ∙ rest_live limits bytes rest b more message (subst (λ (x : List ℕ). Spelt limits x message) whole spelt) in
    (all live, at ∙ live_more r.phase taken live)

-- what feed returns at the end of a spelling
pub record AtEnd (r : Reading) (came prefix : List ℕ) (n : ℕ) (message : List Segment) : Type 0 where
  pub phase : r.phase ≡ Whole
  pub segments : r.segments ≡ message
  pub used : length came + n ≡ length prefix

at_end : (limits : Limits) (r : Reading) (came piece prefix : List ℕ) (n : ℕ) (message : List Segment) → n ≤ length piece → r ≡ run limits start (came ++ take n piece) → came ++ take n piece ≡ prefix → Spelt limits prefix message → AtEnd r came prefix n message
at_end limits r came piece prefix n message within is same spelt =
    let reads = spelt_run limits prefix message spelt in
    let here = is ∙ ap (run limits start) same in
    record {
      phase = ap (λ (x : Reading). x.phase) here ∙ reads.phase;
      segments = ap (λ (x : Reading). x.segments) here ∙ reads.segments;
      used = sym (length-append came (take n piece) ∙ ap (λ m. length came + m) (length-take-le n piece within)) ∙ ap length same;
    }

-- the bytes taken end before the spelling does, or with it
end_longer : (limits : Limits) (r : Reading) (came piece prefix after : List ℕ) (n : ℕ) (message : List Segment) → n ≤ length piece → r ≡ run limits start (came ++ take n piece) → (is_done r.phase ≡ false → n ≡ length piece) → Spelt limits prefix message → (came ++ take n piece) ++ drop n piece ≡ prefix ++ after → (more : List ℕ) → prefix ≡ (came ++ take n piece) ++ more → AtEnd r came prefix n message
end_longer limits r came piece prefix after n message within is all spelt joined [] at = at_end limits r came piece prefix n message within is (sym (at ∙ append-nil (came ++ take n piece))) spelt
end_longer limits r came piece prefix after n message within is all spelt joined (b ∷ more) at =
    let bytes = came ++ take n piece in
    let live = ap (λ (x : Reading). is_done x.phase) is ∙ inside_live limits bytes b more message (subst (λ (x : List ℕ). Spelt limits x message) at spelt) in
    let size = all live in
    let none = length-drop n piece in
    let left = sym (length-append bytes (drop n piece)) ∙ ap length joined ∙ length-append prefix after in
    let right = ap length at ∙ length-append bytes (b ∷ more) in
    absurd (omega (arith, size, none, left, right))

-- the bytes taken go on after the spelling: there are none there
end_shorter : (limits : Limits) (r : Reading) (came piece prefix : List ℕ) (n : ℕ) (message : List Segment) → n ≤ length piece → r ≡ run limits start (came ++ take n piece) → r.count ≡ length (came ++ take n piece) → Spelt limits prefix message → (more : List ℕ) → came ++ take n piece ≡ prefix ++ more → AtEnd r came prefix n message
end_shorter limits r came piece prefix n message within is counted spelt [] at = at_end limits r came piece prefix n message within is (at ∙ append-nil prefix) spelt
end_shorter limits r came piece prefix n message within is counted spelt (b ∷ more) at =
    let reads = spelt_run limits prefix message spelt in
    let same = is ∙ ap (run limits start) at ∙ run_after limits prefix (b ∷ more) (ap is_done reads.phase) in
    let count = sym (ap (λ (x : Reading). x.count) same) ∙ counted ∙ ap length at ∙ length-append prefix (b ∷ more) in
    absurd (omega (arith, count, reads.count))

pub end_returns : (limits : Limits) (r : Reading) (came piece prefix after : List ℕ) (n : ℕ) (message : List Segment) → n ≤ length piece → r ≡ run limits start (came ++ take n piece) → r.count ≡ length (came ++ take n piece) → (is_done r.phase ≡ false → n ≡ length piece) → Spelt limits prefix message → came ++ piece ≡ prefix ++ after → AtEnd r came prefix n message
end_returns limits r came piece prefix after n message within is counted all spelt e =
    let bytes = came ++ take n piece in
    let joined = taken_rest came piece n ∙ e in
    elim (two_prefixes bytes (drop n piece) prefix after joined) [
      | inl longer ↦ end_longer limits r came piece prefix after n message within is all spelt joined longer.more longer.is
      | inr longer ↦ end_shorter limits r came piece prefix n message within is counted spelt longer.more longer.is
    ]

-- only white bytes
white_only : (parts : List Part) (tail bytes : List ℕ) → [] ≡ map segment_of_part parts → bytes ≡ flat_map part_bytes parts ++ tail → bytes ≡ tail
white_only [] tail bytes none is = is
white_only (p ∷ ps) tail bytes none is = absurd (cc)

pub white_told : (limits : Limits) (bytes : List ℕ) → (run limits start bytes).count ≡ length bytes → (run limits start bytes).phase ≡ Due → (run limits start bytes).segments ≡ [] → AllByRecursion IsWhite bytes
white_told limits bytes counted due none =
    elim (reach limits start bytes (counted ∙ (let e : length bytes ≡ 0 + length bytes = omega arith in e))) [
      | inl clean ↦ (
          let r = go start bytes in
          let phase : r.phase ≡ Due = sym (ap (λ (x : Reading). x.phase) clean.1) ∙ due in
          let segments : r.segments ≡ [] = sym (ap (λ (x : Reading). x.segments) clean.1) ∙ none in
          let t = told_at (core r.segments r.pending Due) bytes (sym (core_go start bytes) ∙ ap (core r.segments r.pending) phase) in
          subst (AllByRecursion IsWhite) (sym (white_only t.parts t.tail bytes (sym segments ∙ t.message_is) t.is)) t.after.1
          )
      | inr broke ↦ absurd (let h : Stuck broke.reason ≡ Due = sym broke.phase ∙ due in cc)
    ]

pub white_reads : (limits : Limits) (bytes : List ℕ) → (run limits start bytes).count ≡ length bytes → AllByRecursion IsWhite bytes → ((reason : Reason) → (run limits start bytes).phase ≡ Stuck reason → ⊥) → ((run limits start bytes).phase ≡ Due) × ((run limits start bytes).segments ≡ [])
white_reads limits bytes counted white free =
    elim (reach limits start bytes (counted ∙ (let e : length bytes ≡ 0 + length bytes = omega arith in e))) [
      | inl clean ↦ (
          let at = core_go start bytes ∙ white_walk [] bytes white in
          (ap (λ (x : Reading). x.phase) clean.1 ∙ ap (λ (s : Core). s.phase) at, ap (λ (x : Reading). x.segments) clean.1 ∙ ap (λ (s : Core). s.segments) at)
          )
      | inr broke ↦ absurd (free broke.reason broke.phase)
    ]

between_is : (p : Phase) (segments : List Segment) (taken : ℕ) → end_of p segments taken ≡ ends.Between → (p ≡ Whole) ⊎ ((p ≡ Due) × (segments ≡ []))
between_is Whole segments taken e = inl refl
between_is Due [] taken e = inr (refl, refl)
between_is Due (s ∷ ss) taken e = absurd (cc)
between_is (Stuck reason) segments taken e = absurd (cc)
between_is Text segments taken e = absurd (cc)
between_is LineStart segments taken e = absurd (cc)
between_is JsonEnd segments taken e = absurd (cc)
between_is BytesStart segments taken e = absurd (cc)
between_is ChunkDue segments taken e = absurd (cc)
between_is (Digits n v) segments taken e = absurd (cc)
between_is (Padding v) segments taken e = absurd (cc)
between_is (Data left) segments taken e = absurd (cc)
between_is DataEnd segments taken e = absurd (cc)
between_is BytesEnd segments taken e = absurd (cc)
between_is MessageEnd segments taken e = absurd (cc)

-- where more is needed no fault stands
more_free : (p : Phase) (taken : ℕ) → outcome_of p taken ≡ steps.More → (reason : Reason) → p ≡ Stuck reason → ⊥
more_free p taken none reason stuck = let e = sym none ∙ ap (λ q. outcome_of q taken) stuck in cc

-- a session ends between messages where a message stands, or where no fault does and only white bytes came since the last one
pub ends_between : (d : Decoding) (came : List ℕ) → Took d came → end_of d.reading.phase d.reading.segments d.taken ≡ ends.Between → EndsBetween d came
ends_between d came took e =
    let counted = sym (ap (λ (x : Reading). x.count) took.reading) ∙ took.count in
    elim (between_is d.reading.phase d.reading.segments d.taken e) [
      | inl whole ↦ inl (took.shows.standing ∙ ap (λ p. outcome_of p d.taken) whole)
      | inr due ↦ inr (
        took.shows.standing ∙ ap (λ p. outcome_of p d.taken) due.0,
        white_told d.limits came counted (sym (ap (λ (x : Reading). x.phase) took.reading) ∙ due.0) (sym (ap (λ (x : Reading). x.segments) took.reading) ∙ due.1),
      )
    ]

-- where a message stands the machine has read a whole one
message_whole : (p : Phase) (taken : ℕ) → outcome_of p taken ≡ steps.Message → p ≡ Whole
message_whole Whole taken e = refl
message_whole (Stuck reason) taken e = absurd (cc)
message_whole _ taken e = absurd (cc)

pub between_ends : (d : Decoding) (came : List ℕ) → Took d came → EndsBetween d came → end_of d.reading.phase d.reading.segments d.taken ≡ ends.Between
between_ends d came took (inl stands) = ap (λ p. end_of p d.reading.segments d.taken) (message_whole d.reading.phase d.taken (sym took.shows.standing ∙ stands))
between_ends d came took (inr white) =
    let counted = sym (ap (λ (x : Reading). x.count) took.reading) ∙ took.count in
    let reads = white_reads d.limits came counted white.1 (λ reason stuck. more_free d.reading.phase d.taken (sym took.shows.standing ∙ white.0) reason (ap (λ (x : Reading). x.phase) took.reading ∙ stuck)) in
    ap (λ p. end_of p d.reading.segments d.taken) (ap (λ (x : Reading). x.phase) took.reading ∙ reads.0) ∙ ap (λ ss. end_of Due ss d.taken) (ap (λ (x : Reading). x.segments) took.reading ∙ reads.1)

-- inside a message the number of bytes taken is told
pub inside_place : (p : Phase) (segments : List Segment) (taken place : ℕ) → ends.Inside place ≡ end_of p segments taken → place ≡ taken
inside_place Whole segments taken place e = absurd (cc)
inside_place Due [] taken place e = absurd (cc)
inside_place Due (s ∷ ss) taken place e = cc
inside_place _ segments taken place e = cc

-- a fault's place is the number of bytes taken
pub placed : (p : Phase) (taken : ℕ) → IsPlaced (outcome_of p taken) taken
placed Whole taken = tt
placed (Stuck reason) taken = refl
placed _ taken = tt

-- where a message or a fault stands nothing more is read
pub stood_done : (p : Phase) (taken : ℕ) → (outcome_of p taken ≡ steps.More → ⊥) → is_done p ≡ true
stood_done Whole taken stands = refl
stood_done (Stuck reason) taken stands = refl
stood_done _ taken stands = absurd (stands refl)

-- where more is needed nothing is done
pub more_live : (p : Phase) (taken : ℕ) → outcome_of p taken ≡ steps.More → is_done p ≡ false
more_live Whole taken e = absurd (cc)
more_live (Stuck reason) taken e = absurd (cc)
more_live _ taken e = refl
