-- What the decoder returns, from what it has read.
use Rattle.std.proofs.Common.{◌≡◌, ℕ, ◌+◌, ◌≤◌, ◌<◌, List, [], ◌++◌, length, take, drop, false, refl, sym, ap, ◌∙◌, subst, arith, append_assoc, length-append}
use Rattle.std.proofs.lemmas.List.{append-nil, take-append-drop, take_all, length-take-le}
use Rattle.doip_segment.specs.declared.outcome.Limits.{Limits}
use Rattle.doip_segment.specs.declared.outcome.Step.{Step}
use Rattle.doip_segment.specs.declared.outcome.Step.TheVariants as steps
use Rattle.doip_segment.specs.declared.phase.Phase.{Phase}
use Rattle.doip_segment.specs.declared.phase.Phase.TheVariants.{Due, Text, LineStart, JsonEnd, BytesStart, ChunkDue, Digits, Padding, Data, DataEnd, BytesEnd, MessageEnd, Whole, Stuck}
use Rattle.doip_segment.specs.Framing.{Spelt, NothingSpelt, Broken, IsUnfinished}
use Rattle.doip_segment.specs.Machine.{run, is_done, Reading, start, outcome_of}
use Rattle.doip_segment.specs.Decoding.{Decoding, IsStanding, Shows, Took, Frames}
use Rattle.doip_segment.specs.Advance.{Advances}
use Rattle.doip_segment.specs.Segments.{Segment}
use Rattle.doip_segment.proofs.RunLemmas.{run-append}
use Rattle.doip_segment.proofs.LawLemmas.{spelling_some, stuck_unspelt}
use Rattle.doip_segment.proofs.FramingLemmas.{stuck_broken, whole_spelt, live_unfinished}

-- a reading of a piece goes on from that of the bytes before it
pub took_more : (limits : Limits) (old new : Reading) (came piece : List ℕ) (used : ℕ) → used ≤ length piece → old ≡ run limits start came → old.count ≡ length came → new ≡ run limits old (take used piece) → new.count ≡ old.count + used → (new ≡ run limits start (came ++ take used piece)) × (new.count ≡ length (came ++ take used piece))
took_more limits old new came piece used within before count after more =
    let size = length-append came (take used piece) in
    let part = length-take-le used piece within in
    (after ∙ ap (λ r. run limits r (take used piece)) before ∙ sym (run-append limits start came (take used piece)), omega (arith, count, more, size, part))

live_frames : (limits : Limits) (new : Decoding) (came piece : List ℕ) (used : ℕ) → new.reading ≡ run limits start (came ++ take used piece) → new.reading.count ≡ length (came ++ take used piece) → (is_done new.reading.phase ≡ false → used ≡ length piece) → is_done new.reading.phase ≡ false → Frames limits came piece used steps.More new
live_frames limits new came piece used is counted all live =
    let size = all live in
    let joined : came ++ take used piece ≡ came ++ piece = ap (λ x. came ++ x) (take_all used piece (omega (arith, size))) in
    let count = sym (ap (λ (x : Reading). x.count) is) ∙ counted in
    let at = sym (ap (λ (x : Reading). is_done x.phase) is) ∙ live in
    (size, subst (IsUnfinished limits) joined (live_unfinished limits (came ++ take used piece) count at))

frames_at : (limits : Limits) (new : Decoding) (came piece : List ℕ) (used : ℕ) (p : Phase) → new.reading ≡ run limits start (came ++ take used piece) → new.reading.count ≡ length (came ++ take used piece) → used ≤ length piece → (is_done new.reading.phase ≡ false → used ≡ length piece) → new.segments ≡ new.reading.segments → new.reading.phase ≡ p → Frames limits came piece used (outcome_of p new.taken) new
frames_at limits new came piece used Whole is counted within all same e =
    let count = sym (ap (λ (x : Reading). x.count) is) ∙ counted in
    let at = sym (ap (λ (x : Reading). x.phase) is) ∙ e in
    subst (λ (ss : List Segment). Spelt limits (came ++ take used piece) ss) (sym (same ∙ ap (λ (x : Reading). x.segments) is)) (whole_spelt limits (came ++ take used piece) count at)
frames_at limits new came piece used (Stuck reason) is counted within all same e =
    let count = sym (ap (λ (x : Reading). x.count) is) ∙ counted in
    let at = sym (ap (λ (x : Reading). x.phase) is) ∙ e in
    let bytes = came ++ take used piece in
    let joined : bytes ++ drop used piece ≡ came ++ piece = append_assoc came (take used piece) (drop used piece) ∙ ap (λ x. came ++ x) (take-append-drop used piece) in
    let size : length bytes ≡ length came + used = omega (arith, length-append came (take used piece), length-take-le used piece within) in (
      subst (λ (x : List ℕ). Broken limits x (length came + used) reason) joined (subst (λ (n : ℕ). Broken limits (bytes ++ drop used piece) n reason) size (stuck_broken limits bytes (drop used piece) reason count at)),
      subst (NothingSpelt limits) joined (stuck_unspelt limits bytes (drop used piece) reason at),
      refl,
    )
frames_at limits new came piece used Due is counted within all same e = live_frames limits new came piece used is counted all (ap is_done e)
frames_at limits new came piece used Text is counted within all same e = live_frames limits new came piece used is counted all (ap is_done e)
frames_at limits new came piece used LineStart is counted within all same e = live_frames limits new came piece used is counted all (ap is_done e)
frames_at limits new came piece used JsonEnd is counted within all same e = live_frames limits new came piece used is counted all (ap is_done e)
frames_at limits new came piece used BytesStart is counted within all same e = live_frames limits new came piece used is counted all (ap is_done e)
frames_at limits new came piece used ChunkDue is counted within all same e = live_frames limits new came piece used is counted all (ap is_done e)
frames_at limits new came piece used (Digits n v) is counted within all same e = live_frames limits new came piece used is counted all (ap is_done e)
frames_at limits new came piece used (Padding v) is counted within all same e = live_frames limits new came piece used is counted all (ap is_done e)
frames_at limits new came piece used (Data left) is counted within all same e = live_frames limits new came piece used is counted all (ap is_done e)
frames_at limits new came piece used DataEnd is counted within all same e = live_frames limits new came piece used is counted all (ap is_done e)
frames_at limits new came piece used BytesEnd is counted within all same e = live_frames limits new came piece used is counted all (ap is_done e)
frames_at limits new came piece used MessageEnd is counted within all same e = live_frames limits new came piece used is counted all (ap is_done e)

pub frames : (limits : Limits) (new : Decoding) (came piece : List ℕ) (used : ℕ) (step : Step) → new.reading ≡ run limits start (came ++ take used piece) → new.reading.count ≡ length (came ++ take used piece) → used ≤ length piece → (is_done new.reading.phase ≡ false → used ≡ length piece) → Shows new → step ≡ new.standing → Frames limits came piece used step new
frames limits new came piece used step is counted within all shows e = subst (λ (x : Step). Frames limits came piece used x new) (sym (e ∙ shows.standing)) (frames_at limits new came piece used new.reading.phase is counted within all shows.segments refl)

-- the bytes that a decoder took, and those that it read after them
pub took_on : (old new : Decoding) (came piece : List ℕ) (used : ℕ) → used ≤ length piece → Took old came → Advances used piece old new → Shows new → Took new (came ++ take used piece)
took_on old new came piece used within took read shows =
    let more = took_more old.limits old.reading new.reading came piece used within took.reading took.count read.reading read.count in
    record { reading = subst (λ (l : Limits). new.reading ≡ run l start (came ++ take used piece)) (sym read.limits) more.0; count = more.1; shows = shows }

-- what a decoder that took these bytes holds
pub took_reads : (old new : Decoding) (bytes : List ℕ) → new.limits ≡ old.limits → Took new bytes → new.reading ≡ run old.limits start bytes
took_reads old new bytes same took = subst (λ (l : Limits). new.reading ≡ run l start bytes) same took.reading

-- what stands in a decoder is what the bytes since its last message are
pub stands_framed : (d : Decoding) (came : List ℕ) → Took d came → Frames d.limits came [] 0 d.standing d
stands_framed d came took =
    let same = append-nil came in
    frames d.limits d came [] 0 d.standing (took.reading ∙ ap (run d.limits start) (sym same)) (took.count ∙ ap length (sym same)) (omega arith) (λ live. refl) took.shows refl

-- a message that stands came in at least one byte
pub standing_some : (d : Decoding) (came : List ℕ) → Took d came → IsStanding d → 0 < length came
standing_some d came took stands =
    let spelt = subst (λ (step : Step). Frames d.limits came [] 0 step d) stands (stands_framed d came took) in
    let some = spelling_some (came ++ take 0 []) d.segments spelt.spelling in
    omega (arith, some, length-append came (take 0 []))
