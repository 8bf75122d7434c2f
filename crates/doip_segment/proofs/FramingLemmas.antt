-- What a reading says of the bytes that it took: a message, a fault, or neither.
use Rattle.std.proofs.Common.{◌≡◌, ◌≢◌, ℕ, zero, suc, ◌+◌, ◌-◌, ◌≤◌, ◌<◌, ◌⊎◌, inl, inr, List, [], ◌∷◌, ◌++◌, length, Bool, true, false, cond, Some, None, refl, sym, ap, ◌∙◌, subst, arith, append_assoc, length-append, leb, ltb, ◌&&◌}
use Rattle.std.proofs.lemmas.List.{append-nil}
use Rattle.std.proofs.lemmas.Bool.{leb-false}
use borrow.Author.Tests.{ltb-true, leb-true}
use Rattle.doip_segment.specs.declared.outcome.Limits.{Limits}
use Rattle.doip_segment.specs.declared.outcome.Reason.{Reason}
use Rattle.doip_segment.specs.declared.outcome.Reason.TheVariants as reasons
use Rattle.doip_segment.specs.declared.class.Class.{Class}
use Rattle.doip_segment.specs.declared.class.Class.TheVariants.{LineFeed, Blank, Hash, At, Digit, Other}
use Rattle.doip_segment.specs.declared.phase.Phase.{Phase}
use Rattle.doip_segment.specs.declared.phase.Phase.TheVariants.{Due, Text, LineStart, JsonEnd, BytesStart, ChunkDue, Digits, Padding, Data, DataEnd, BytesEnd, MessageEnd, Whole, Stuck}
use Rattle.doip_segment.specs.Segments.{Segment}
use Rattle.doip_segment.specs.Grammar.{IsWhite, IsSpelling}
use Rattle.doip_segment.specs.Advance.{opened}
use Rattle.doip_segment.specs.Framing.{AtSegment, Spelt, IsTooLong, IsJsonTooLong, IsTooMany, IsUngrammatical, BreaksGrammar, IsFault, AfterData, ChunkIsDue, AfterDigits, Broken, IsUnfinished}
use Rattle.doip_segment.specs.Machine.{class_of, data_due, next_phase, marker, after_digits, limit_fault, passes_json, begins, run, is_done, Reading, start}
use Rattle.doip_segment.proofs.ClassLemmas.{Classified, classified, classified_as}
use Rattle.doip_segment.proofs.FitLemmas.{none_left, IsLetIn}
use Rattle.doip_segment.proofs.WalkLemmas.{Core, core, moved, walk, outset, walk-append, spelling_walk, stuck_walk, text_phase, waiting, text_step, is_feed, unless_feed, length_phase}
use Rattle.doip_segment.proofs.TellLemmas.{whole_spelling, digit_begins, other_begins, at_not_white}
use Rattle.doip_segment.proofs.PositionLemmas.{due_phase, digits_phase, data_phase, too_long_passes, too_many_begins, due_at, text_at, chunk_at, digits_at, padding_at, data_at, prefix_of_spelling, ends_of}
use Rattle.doip_segment.proofs.CleanLemmas.{go, core_of, core_go, count_go, go-append, Clean, reach, clean_prefix, clean_at, clean_live, HoldsPending, Bounded, bounded_start}

-- the machine on lists, after these bytes
walk_go : (prefix : List ℕ) → walk outset prefix ≡ core_of (go start prefix)
walk_go prefix = sym (core_go start prefix)

-- A byte that is let in breaks no limit.
record KeepsLimits (limits : Limits) (prefix : List ℕ) (b : ℕ) : Type 0 where
  total : ¬ IsTooLong limits prefix
  json : ¬ IsJsonTooLong limits prefix b
  count : ¬ IsTooMany prefix b

not_both : (t : Bool) → t ≡ true → t ≡ false → ⊥
not_both t is isnt = let h : true ≡ false = sym is ∙ isnt in cc

no_long : (limits : Limits) (prefix : List ℕ) (b : ℕ) → passes_json limits.json (go start prefix).phase (class_of b) (length (go start prefix).pending) ≡ false → IsJsonTooLong limits prefix b → ⊥
no_long limits prefix b fits long =
    let passes = subst (λ (s : Core). passes_json limits.json s.phase (class_of b) (length s.pending) ≡ true) (walk_go prefix) (too_long_passes limits prefix b long) in not_both _ passes fits

no_many : (limits : Limits) (prefix : List ℕ) (b : ℕ) → (begins (go start prefix).phase (class_of b) ≡ true → length (go start prefix).segments < 2048) → IsTooMany prefix b → ⊥
no_many limits prefix b few many =
    let at = subst (λ (s : Core). (begins s.phase (class_of b) ≡ true) × (length s.segments ≡ 2048)) (walk_go prefix) (too_many_begins prefix b many) in
    omega (arith, few at.0, at.1)

keeps_limits : (limits : Limits) (prefix : List ℕ) (b : ℕ) → IsLetIn limits (go start prefix) (class_of b) → KeepsLimits limits prefix b
keeps_limits limits prefix b let_in = record {
  total = λ e. omega (arith, e, let_in.total, count_go start prefix);
  json = no_long limits prefix b let_in.json;
  count = no_many limits prefix b let_in.few;
}

-- Where a byte leads on, no spelling ends.
goes_on_by : (prefix : List ℕ) (b : ℕ) → is_done (go start (prefix ++ b ∷ [])).phase ≡ false → IsUngrammatical prefix b → ⊥
goes_on_by prefix b live none =
    let more = prefix_of_spelling (prefix ++ b ∷ []) (ap (λ (s : Core). is_done s.phase) (walk_go (prefix ++ b ∷ [])) ∙ live) in
    none more.0 more.1 (subst (λ (x : List ℕ). IsSpelling x more.1) (append_assoc prefix (b ∷ []) more.0) more.2)

-- No fault is where a byte is let in and leads on.
pub no_fault_at : (limits : Limits) (prefix : List ℕ) (b : ℕ) (reason : Reason) → limit_fault limits (go start prefix) (class_of b) ≡ None → is_done (go start (prefix ++ b ∷ [])).phase ≡ false → IsFault limits prefix b reason → ⊥
no_fault_at limits prefix b reasons.TooLong none live fault = (keeps_limits limits prefix b (none_left limits (go start prefix) (class_of b) none)).total fault
no_fault_at limits prefix b reasons.JsonTooLong none live fault = (keeps_limits limits prefix b (none_left limits (go start prefix) (class_of b) none)).json fault.1
no_fault_at limits prefix b reasons.TooMany none live fault = (keeps_limits limits prefix b (none_left limits (go start prefix) (class_of b) none)).count fault.2
no_fault_at limits prefix b reasons.ChunkEnd none live fault = goes_on_by prefix b live fault.0.grammar
no_fault_at limits prefix b reasons.Length none live fault = goes_on_by prefix b live fault.0.grammar
no_fault_at limits prefix b reasons.Marker none live fault = goes_on_by prefix b live fault.0.grammar

-- after each clean byte but the last there is another
clean_next : (limits : Limits) (r : Reading) (prefix : List ℕ) (b : ℕ) (after : List ℕ) → Clean limits r (prefix ++ b ∷ after) → is_done (go r (prefix ++ b ∷ after)).phase ≡ false → is_done (go r (prefix ++ b ∷ [])).phase ≡ false
clean_next limits r prefix b [] clean live = live
clean_next limits r prefix b (c ∷ cs) clean live = clean_live limits r (prefix ++ b ∷ []) c cs (subst (Clean limits r) (sym (append_assoc prefix (b ∷ []) (c ∷ cs))) clean)

pub no_fault_inside : (limits : Limits) (prefix : List ℕ) (b : ℕ) (after : List ℕ) (reason : Reason) → Clean limits start (prefix ++ b ∷ after) → is_done (go start (prefix ++ b ∷ after)).phase ≡ false → IsFault limits prefix b reason → ⊥
no_fault_inside limits prefix b after reason clean live fault = no_fault_at limits prefix b reason (clean_at limits start prefix b after clean).1 (clean_next limits start prefix b after clean live) fault

-- what a grammar fault is, by the place before it
marker_stuck : (p after : Phase) (c : Class) (reason : Reason) → (after ≡ Stuck reason → ⊥) → (p ≡ Stuck reason → ⊥) → marker p c after ≡ Stuck reason → reason ≡ reasons.Marker
marker_stuck p after LineFeed reason other here e = absurd (other e)
marker_stuck p after Blank reason other here e = absurd (here e)
marker_stuck p after Hash reason other here e = cc
marker_stuck p after At reason other here e = cc
marker_stuck p after (Digit d) reason other here e = cc
marker_stuck p after Other reason other here e = cc

data_not_stuck : (left : ℕ) (reason : Reason) → data_due left ≡ Stuck reason → ⊥
data_not_stuck zero reason e = cc
data_not_stuck (suc left) reason e = cc

cond_stuck : (more : Bool) (n v : ℕ) (reason : Reason) → cond more (Digits n v) (Stuck reasons.Length) ≡ Stuck reason → reason ≡ reasons.Length
cond_stuck true n v reason e = absurd (cc)
cond_stuck false n v reason e = cc

digits_stuck : (n v : ℕ) (c : Class) (reason : Reason) → after_digits n v c ≡ Stuck reason → reason ≡ reasons.Length
digits_stuck n v LineFeed reason e = absurd (data_not_stuck v reason e)
digits_stuck n v Blank reason e = absurd (cc)
digits_stuck n v (Digit d) reason e = cond_stuck (ltb n 10) _ _ reason e
digits_stuck n v Hash reason e = cc
digits_stuck n v At reason e = cc
digits_stuck n v Other reason e = cc

padding_stuck : (v : ℕ) (c : Class) (reason : Reason) → next_phase (Padding v) c ≡ Stuck reason → reason ≡ reasons.Length
padding_stuck v LineFeed reason e = absurd (data_not_stuck v reason e)
padding_stuck v Blank reason e = absurd (cc)
padding_stuck v (Digit d) reason e = cc
padding_stuck v Hash reason e = cc
padding_stuck v At reason e = cc
padding_stuck v Other reason e = cc

chunk_stuck : (c : Class) (reason : Reason) → next_phase ChunkDue c ≡ Stuck reason → reason ≡ reasons.Length
chunk_stuck LineFeed reason e = cc
chunk_stuck Blank reason e = cc
chunk_stuck (Digit d) reason e = absurd (cc)
chunk_stuck Hash reason e = absurd (cc)
chunk_stuck At reason e = cc
chunk_stuck Other reason e = cc

end_stuck : (c : Class) (reason : Reason) → next_phase DataEnd c ≡ Stuck reason → reason ≡ reasons.ChunkEnd
end_stuck LineFeed reason e = absurd (cc)
end_stuck Blank reason e = cc
end_stuck (Digit d) reason e = cc
end_stuck Hash reason e = cc
end_stuck At reason e = cc
end_stuck Other reason e = cc

due_not_stuck : (c : Class) (reason : Reason) → next_phase Due c ≡ Stuck reason → ⊥
due_not_stuck LineFeed reason e = cc
due_not_stuck Blank reason e = cc
due_not_stuck (Digit d) reason e = cc
due_not_stuck Hash reason e = cc
due_not_stuck At reason e = cc
due_not_stuck Other reason e = cc

text_not_stuck : (c : Class) (reason : Reason) → next_phase Text c ≡ Stuck reason → ⊥
text_not_stuck LineFeed reason e = cc
text_not_stuck Blank reason e = cc
text_not_stuck (Digit d) reason e = cc
text_not_stuck Hash reason e = cc
text_not_stuck At reason e = cc
text_not_stuck Other reason e = cc

line_not_stuck : (c : Class) (reason : Reason) → next_phase LineStart c ≡ Stuck reason → ⊥
line_not_stuck LineFeed reason e = cc
line_not_stuck Blank reason e = cc
line_not_stuck (Digit d) reason e = cc
line_not_stuck Hash reason e = cc
line_not_stuck At reason e = cc
line_not_stuck Other reason e = cc

-- the place that only digits and blanks lead to
abbrev IsLengthPhase : Phase → Type 0
IsLengthPhase (Digits n v) = Unit {0}
IsLengthPhase (Padding v) = Unit {0}
IsLengthPhase _ = ⊥

length_is : (n v : ℕ) (bs : List ℕ) → IsLengthPhase (length_phase n v bs)
length_is n v [] = tt
length_is n v (b ∷ bs) = tt

after_digits_is : (prefix : List ℕ) (p : Phase) → (walk outset prefix).phase ≡ p → AfterDigits prefix → IsLengthPhase p
after_digits_is prefix p at after = let w = digits_phase prefix after in subst IsLengthPhase (sym w.3 ∙ at) (length_is w.0 w.1 w.2)

abbrev IsDataEnd : Phase → Type 0
IsDataEnd DataEnd = Unit {0}
IsDataEnd _ = ⊥

after_data_is : (prefix : List ℕ) (p : Phase) → (walk outset prefix).phase ≡ p → AfterData prefix → IsDataEnd p
after_data_is prefix p at after = subst IsDataEnd (sym (data_phase prefix after) ∙ at) tt

abbrev IsChunkDue : Phase → Type 0
IsChunkDue ChunkDue = Unit {0}
IsChunkDue _ = ⊥

chunk_due_is : (prefix : List ℕ) (p : Phase) → (walk outset prefix).phase ≡ p → ChunkIsDue prefix → IsChunkDue p
chunk_due_is prefix p at after = subst IsChunkDue (sym (due_phase prefix after) ∙ at) tt

marker_fault : (limits : Limits) (prefix : List ℕ) (b : ℕ) (p : Phase) (reason : Reason) → (walk outset prefix).phase ≡ p → (IsDataEnd p → ⊥) → (IsChunkDue p → ⊥) → (IsLengthPhase p → ⊥) → reason ≡ reasons.Marker → BreaksGrammar limits prefix b → IsFault limits prefix b reason
marker_fault limits prefix b p reason at data_ chunk digits e breaks =
    subst (IsFault limits prefix b) (sym e) (breaks, (λ h. data_ (after_data_is prefix p at h)), (λ h. chunk (chunk_due_is prefix p at h)), (λ h. digits (after_digits_is prefix p at h)))

length_fault : (limits : Limits) (prefix : List ℕ) (b : ℕ) (p : Phase) (reason : Reason) → (walk outset prefix).phase ≡ p → (IsDataEnd p → ⊥) → (ChunkIsDue prefix ⊎ AfterDigits prefix) → reason ≡ reasons.Length → BreaksGrammar limits prefix b → IsFault limits prefix b reason
length_fault limits prefix b p reason at data_ here e breaks = subst (IsFault limits prefix b) (sym e) (breaks, (λ h. data_ (after_data_is prefix p at h)), here)

grammar_reason : (limits : Limits) (prefix : List ℕ) (b : ℕ) (segments : List Segment) (pending : List ℕ) (p : Phase) (c : Class) (reason : Reason) → walk outset prefix ≡ core segments pending p → is_done p ≡ false → next_phase p c ≡ Stuck reason → BreaksGrammar limits prefix b → IsFault limits prefix b reason
grammar_reason limits prefix b segments pending Due c reason at live e breaks = absurd (due_not_stuck c reason e)
grammar_reason limits prefix b segments pending Text c reason at live e breaks = absurd (text_not_stuck c reason e)
grammar_reason limits prefix b segments pending LineStart c reason at live e breaks = absurd (line_not_stuck c reason e)
grammar_reason limits prefix b segments pending JsonEnd c reason at live e breaks = marker_fault limits prefix b JsonEnd reason (ap (λ (s : Core). s.phase) at) (λ h. h) (λ h. h) (λ h. h) (marker_stuck JsonEnd Due c reason (λ h. cc) (λ h. cc) e) breaks
grammar_reason limits prefix b segments pending BytesStart c reason at live e breaks = marker_fault limits prefix b BytesStart reason (ap (λ (s : Core). s.phase) at) (λ h. h) (λ h. h) (λ h. h) (marker_stuck BytesStart ChunkDue c reason (λ h. cc) (λ h. cc) e) breaks
grammar_reason limits prefix b segments pending BytesEnd c reason at live e breaks = marker_fault limits prefix b BytesEnd reason (ap (λ (s : Core). s.phase) at) (λ h. h) (λ h. h) (λ h. h) (marker_stuck BytesEnd Due c reason (λ h. cc) (λ h. cc) e) breaks
grammar_reason limits prefix b segments pending MessageEnd c reason at live e breaks = marker_fault limits prefix b MessageEnd reason (ap (λ (s : Core). s.phase) at) (λ h. h) (λ h. h) (λ h. h) (marker_stuck MessageEnd Whole c reason (λ h. cc) (λ h. cc) e) breaks
grammar_reason limits prefix b segments pending ChunkDue c reason at live e breaks = length_fault limits prefix b ChunkDue reason (ap (λ (s : Core). s.phase) at) (λ h. h) (inl (chunk_at segments pending prefix at)) (chunk_stuck c reason e) breaks
grammar_reason limits prefix b segments pending (Digits n v) c reason at live e breaks = length_fault limits prefix b (Digits n v) reason (ap (λ (s : Core). s.phase) at) (λ h. h) (inr (digits_at segments pending prefix n v at)) (digits_stuck n v c reason e) breaks
grammar_reason limits prefix b segments pending (Padding v) c reason at live e breaks = length_fault limits prefix b (Padding v) reason (ap (λ (s : Core). s.phase) at) (λ h. h) (inr (padding_at segments pending prefix v at)) (padding_stuck v c reason e) breaks
grammar_reason limits prefix b segments pending (Data left) c reason at live e breaks = absurd (data_not_stuck (left - 1) reason e)
grammar_reason limits prefix b segments pending DataEnd c reason at live e breaks = subst (IsFault limits prefix b) (sym (end_stuck c reason e)) (breaks, data_at segments pending prefix at)
grammar_reason limits prefix b segments pending Whole c reason at live e breaks = absurd (let h : true ≡ false = live in cc)
grammar_reason limits prefix b segments pending (Stuck other) c reason at live e breaks = absurd (let h : true ≡ false = live in cc)

-- after a grammar fault no spelling goes on
stuck_ungrammatical : (prefix : List ℕ) (b : ℕ) (reason : Reason) → next_phase (walk outset prefix).phase (class_of b) ≡ Stuck reason → IsUngrammatical prefix b
stuck_ungrammatical prefix b reason e after message is =
    let s = walk outset prefix in
    let next = moved s (class_of b) b in
    let whole = sym (ap (λ (x : Core). x.phase) (spelling_walk (prefix ++ b ∷ after) message is)) ∙ ap (λ (x : Core). x.phase) (walk-append outset prefix (b ∷ after)) in
    let same : next ≡ core next.segments next.pending (Stuck reason) = ap (core next.segments next.pending) e in
    let stuck = ap (λ (x : Core). (walk x after).phase) same ∙ stuck_walk next.segments next.pending after reason in
    let h : Whole ≡ Stuck reason = whole ∙ stuck in cc

pub grammar_fault : (limits : Limits) (prefix : List ℕ) (b : ℕ) (reason : Reason) → is_done (go start prefix).phase ≡ false → limit_fault limits (go start prefix) (class_of b) ≡ None → next_phase (go start prefix).phase (class_of b) ≡ Stuck reason → IsFault limits prefix b reason
grammar_fault limits prefix b reason live none e =
    let r = go start prefix in
    let keeps = keeps_limits limits prefix b (none_left limits r (class_of b) none) in
    let stuck = ap (λ (s : Core). next_phase s.phase (class_of b)) (walk_go prefix) ∙ e in
    grammar_reason limits prefix b r.segments r.pending r.phase (class_of b) reason (walk_go prefix) live e (record { total = keeps.total; json = keeps.json; count = keeps.count; grammar = stuck_ungrammatical prefix b reason stuck })

-- the place at which a JSON segment can be too long
record LongPlace (json : ℕ) (p : Phase) (c : Class) (size : ℕ) : Type 0 where
  line : Bool
  is : p ≡ text_phase line
  other : line ≡ true → c ≡ Hash → ⊥
  low : json + 1 ≤ size + length (waiting line)

long_place : (json : ℕ) (p : Phase) (c : Class) (size : ℕ) → passes_json json p c size ≡ true → LongPlace json p c size
long_place json Text c size e = record { line = false; is = refl; other = λ h f. absurd (let g : false ≡ true = h in cc); low = omega (arith, ltb-true json size e) }
long_place json LineStart LineFeed size e = record { line = true; is = refl; other = λ h f. cc; low = omega (arith, leb-true json size e) }
long_place json LineStart Blank size e = record { line = true; is = refl; other = λ h f. cc; low = omega (arith, leb-true json size e) }
long_place json LineStart Hash size e = absurd (cc)
long_place json LineStart At size e = record { line = true; is = refl; other = λ h f. cc; low = omega (arith, leb-true json size e) }
long_place json LineStart (Digit d) size e = record { line = true; is = refl; other = λ h f. cc; low = omega (arith, leb-true json size e) }
long_place json LineStart Other size e = record { line = true; is = refl; other = λ h f. cc; low = omega (arith, leb-true json size e) }
long_place json Due c size e = absurd (cc)
long_place json JsonEnd c size e = absurd (cc)
long_place json BytesStart c size e = absurd (cc)
long_place json ChunkDue c size e = absurd (cc)
long_place json (Digits n v) c size e = absurd (cc)
long_place json (Padding v) c size e = absurd (cc)
long_place json (Data left) c size e = absurd (cc)
long_place json DataEnd c size e = absurd (cc)
long_place json BytesEnd c size e = absurd (cc)
long_place json MessageEnd c size e = absurd (cc)
long_place json Whole c size e = absurd (cc)
long_place json (Stuck reason) c size e = absurd (cc)

line_high : (json : ℕ) (line : Bool) (size : ℕ) → HoldsPending json (text_phase line) size → size + length (waiting line) ≤ json + 1
line_high json true size h = omega (arith, h)
line_high json false size h = omega (arith, h)

one_more : (feed : Bool) (b : ℕ) → length (unless_feed feed b) + length (waiting feed) ≡ 1
one_more true b = refl
one_more false b = refl

long_text : (limits : Limits) (prefix : List ℕ) (b : ℕ) (segments : List Segment) (pending : List ℕ) (line : Bool) → walk outset prefix ≡ core segments pending (text_phase line) → (line ≡ true → class_of b ≡ Hash → ⊥) → length pending + length (waiting line) ≡ limits.json + 1 → IsJsonTooLong limits prefix b
long_text limits prefix b segments pending line at other size =
    let feed = is_feed (class_of b) in
    let more = pending ++ (waiting line ++ unless_feed feed b) in
    let next = walk-append outset prefix (b ∷ []) ∙ ap (λ s. moved s (class_of b) b) at ∙ text_step segments pending line b (class_of b) (classified_as b LineFeed) other in
    let count = length-append more (waiting feed) in
    let inner = length-append pending (waiting line ++ unless_feed feed b) in
    let last = length-append (waiting line) (unless_feed feed b) in
    (more ++ waiting feed, omega (arith, count, inner, last, one_more feed b, size), text_at segments more (prefix ++ b ∷ []) feed next)

long_fault : (limits : Limits) (prefix : List ℕ) (b : ℕ) (p : Phase) → walk outset prefix ≡ core (go start prefix).segments (go start prefix).pending p → HoldsPending limits.json p (length (go start prefix).pending) → passes_json limits.json p (class_of b) (length (go start prefix).pending) ≡ true → IsJsonTooLong limits prefix b
long_fault limits prefix b p at holds passes =
    let r = go start prefix in
    let place = long_place limits.json p (class_of b) (length r.pending) passes in
    let high = line_high limits.json place.line (length r.pending) (subst (λ (x : Phase). HoldsPending limits.json x (length r.pending)) place.is holds) in
    let size : length r.pending + length (waiting place.line) ≡ limits.json + 1 = omega (arith, high, place.low) in
    long_text limits prefix b r.segments r.pending place.line (at ∙ ap (core r.segments r.pending) place.is) place.other size

-- where a segment begins
begin_class : (b : ℕ) (c : Class) → Classified b c → begins Due c ≡ true → (IsWhite b → ⊥) × (b ≢ 35)
begin_class b LineFeed k e = absurd (cc)
begin_class b Blank k e = absurd (cc)
begin_class b Hash k e = absurd (cc)
begin_class b At k e = (at_not_white b k, (λ h. omega (arith, k, h)))
begin_class b (Digit d) k e = let t = digit_begins b k.0 k.1 in (t.0, t.1)
begin_class b Other k e = let t = other_begins b k in (t.0, t.1)

both_true : (x y : Bool) → (x && y) ≡ true → (x ≡ true) × (y ≡ true)
both_true true y e = (refl, e)
both_true false y e = absurd (let h : false ≡ true = e in cc)

many_fault : (limits : Limits) (prefix : List ℕ) (b : ℕ) (p : Phase) → walk outset prefix ≡ core (go start prefix).segments (go start prefix).pending p → length (go start prefix).segments + opened p ≤ 2048 → (begins p (class_of b) && leb 2048 (length (go start prefix).segments)) ≡ true → IsTooMany prefix b
many_fault limits prefix b Due at few e =
    let r = go start prefix in
    let both = both_true (begins Due (class_of b)) (leb 2048 (length r.segments)) e in
    let count : length r.segments ≡ 2048 = omega (arith, few, leb-true 2048 (length r.segments) both.1) in
    let kind = begin_class b (class_of b) (classified b) both.0 in
    (subst (AtSegment prefix) count (due_at r.segments r.pending prefix at), kind.0, kind.1)
many_fault limits prefix b Text at few e = absurd (let h : false ≡ true = e in cc)
many_fault limits prefix b LineStart at few e = absurd (let h : false ≡ true = e in cc)
many_fault limits prefix b JsonEnd at few e = absurd (let h : false ≡ true = e in cc)
many_fault limits prefix b BytesStart at few e = absurd (let h : false ≡ true = e in cc)
many_fault limits prefix b ChunkDue at few e = absurd (let h : false ≡ true = e in cc)
many_fault limits prefix b (Digits n v) at few e = absurd (let h : false ≡ true = e in cc)
many_fault limits prefix b (Padding v) at few e = absurd (let h : false ≡ true = e in cc)
many_fault limits prefix b (Data left) at few e = absurd (let h : false ≡ true = e in cc)
many_fault limits prefix b DataEnd at few e = absurd (let h : false ≡ true = e in cc)
many_fault limits prefix b BytesEnd at few e = absurd (let h : false ≡ true = e in cc)
many_fault limits prefix b MessageEnd at few e = absurd (let h : false ≡ true = e in cc)
many_fault limits prefix b Whole at few e = absurd (let h : false ≡ true = e in cc)
many_fault limits prefix b (Stuck reason) at few e = absurd (let h : false ≡ true = e in cc)

-- the limit that a byte breaks, by the tests before it
limit_by : (limits : Limits) (prefix : List ℕ) (b : ℕ) (t j m : Bool) (reason : Reason) → Bounded limits (go start prefix) → leb limits.total (go start prefix).count ≡ t → passes_json limits.json (go start prefix).phase (class_of b) (length (go start prefix).pending) ≡ j → (begins (go start prefix).phase (class_of b) && leb 2048 (length (go start prefix).segments)) ≡ m → cond t (Some reasons.TooLong) (cond j (Some reasons.JsonTooLong) (cond m (Some reasons.TooMany) None)) ≡ Some reason → IsFault limits prefix b reason
limit_by limits prefix b true j m reason bounded et ej em e =
    let is : reason ≡ reasons.TooLong = cc in
    let at : length prefix ≡ limits.total = omega (arith, bounded.total, count_go start prefix, leb-true limits.total (go start prefix).count et) in
    subst (IsFault limits prefix b) (sym is) at
limit_by limits prefix b false true m reason bounded et ej em e =
    let is : reason ≡ reasons.JsonTooLong = cc in
    let low = leb-false limits.total (go start prefix).count et in
    subst (IsFault limits prefix b) (sym is) ((λ h. omega (arith, h, low, count_go start prefix)), long_fault limits prefix b (go start prefix).phase (walk_go prefix) bounded.pending ej)
limit_by limits prefix b false false true reason bounded et ej em e =
    let is : reason ≡ reasons.TooMany = cc in
    let low = leb-false limits.total (go start prefix).count et in
    subst (IsFault limits prefix b) (sym is) ((λ h. omega (arith, h, low, count_go start prefix)), no_long limits prefix b ej, many_fault limits prefix b (go start prefix).phase (walk_go prefix) bounded.segments em)
limit_by limits prefix b false false false reason bounded et ej em e = absurd (cc)

pub limit_is_fault : (limits : Limits) (prefix : List ℕ) (b : ℕ) (reason : Reason) → Clean limits start prefix → limit_fault limits (go start prefix) (class_of b) ≡ Some reason → IsFault limits prefix b reason
limit_is_fault limits prefix b reason clean e =
    let r = go start prefix in
    limit_by limits prefix b (leb limits.total r.count) (passes_json limits.json r.phase (class_of b) (length r.pending)) (begins r.phase (class_of b) && leb 2048 (length r.segments)) reason (bounded_start limits prefix clean) refl refl refl e

-- lists cut at two places
split_prefix : (prefix rest f : List ℕ) (b : ℕ) (g : List ℕ) → prefix ++ rest ≡ f ++ b ∷ g → length f < length prefix → (h : List ℕ) × (prefix ≡ f ++ b ∷ h)
split_prefix [] rest f b g e low = absurd (omega arith)
split_prefix (x ∷ prefix) rest [] b g e low = (prefix, (let h : x ≡ b = cc in ap (λ y. y ∷ prefix) h))
split_prefix (x ∷ prefix) rest (y ∷ f) b g e low =
    let tails : prefix ++ rest ≡ f ++ b ∷ g = cc in
    let heads : x ≡ y = cc in
    let later = split_prefix prefix rest f b g tails (omega arith) in
    (later.0, ap (λ z. z ∷ prefix) heads ∙ ap (λ t. y ∷ t) later.1)

-- A fault after clean bytes is where the bytes break.
pub fault_breaks : (limits : Limits) (prefix : List ℕ) (b : ℕ) (more : List ℕ) (reason : Reason) → Clean limits start prefix → is_done (go start prefix).phase ≡ false → IsFault limits prefix b reason → Broken limits (prefix ++ b ∷ more) (length prefix + 1) reason
fault_breaks limits prefix b more reason clean live fault = record {
  prefix = prefix;
  byte = b;
  after = more;
  is = refl;
  at = refl;
  fault = fault;
  first = λ before x rest other e low here.
      let cut = split_prefix prefix (b ∷ more) before x rest e low in
      no_fault_inside limits before x cut.0 other (subst (Clean limits start) cut.1 clean) (subst (λ (y : List ℕ). is_done (go start y).phase ≡ false) cut.1 live) here;
}

-- the bytes, by all but the last and the last
at_last : (limits : Limits) (bytes prefix : List ℕ) (b : ℕ) (more : List ℕ) (reason : Reason) → bytes ≡ prefix ++ b ∷ [] → Broken limits (prefix ++ b ∷ more) (length prefix + 1) reason → Broken limits (bytes ++ more) (length bytes) reason
at_last limits bytes prefix b more reason e broken =
    let joined : bytes ++ more ≡ prefix ++ b ∷ more = ap (λ x. x ++ more) e ∙ append_assoc prefix (b ∷ []) more in
    let size : length bytes ≡ length prefix + 1 = ap length e ∙ length-append prefix (b ∷ []) in
    subst (λ (x : List ℕ). Broken limits x (length bytes) reason) (sym joined) (subst (λ (n : ℕ). Broken limits (prefix ++ b ∷ more) n reason) (sym size) broken)

clean_stuck : (limits : Limits) (bytes more : List ℕ) (reason : Reason) → Clean limits start bytes → (go start bytes).phase ≡ Stuck reason → Broken limits (bytes ++ more) (length bytes) reason
clean_stuck limits [] more reason clean stuck = absurd (cc)
clean_stuck limits (x ∷ xs) more reason clean stuck =
    let cut = ends_of x xs in
    let clean' = subst (Clean limits start) cut.is clean in
    let here = clean_at limits start cut.prefix cut.last [] clean' in
    let step = sym (ap (λ (r : Reading). r.phase) (go-append start cut.prefix (cut.last ∷ []))) ∙ sym (ap (λ (y : List ℕ). (go start y).phase) cut.is) ∙ stuck in
    let fault = grammar_fault limits cut.prefix cut.last reason here.0 here.1 step in
    at_last limits (x ∷ xs) cut.prefix cut.last more reason cut.is (fault_breaks limits cut.prefix cut.last more reason (clean_prefix limits start cut.prefix (cut.last ∷ []) clean') here.0 fault)

-- before clean bytes no message is whole
no_message : (limits : Limits) (prefix after : List ℕ) (message : List Segment) → Clean limits start (prefix ++ after) → is_done (go start (prefix ++ after)).phase ≡ false → IsSpelling prefix message → ⊥
no_message limits prefix [] message clean live is =
    let at : is_done (go start prefix).phase ≡ false = subst (λ (y : List ℕ). is_done (go start y).phase ≡ false) (append-nil prefix) live in
    let whole = ap (λ (s : Core). is_done s.phase) (sym (walk_go prefix) ∙ spelling_walk prefix message is) in
    let h : true ≡ false = sym whole ∙ at in cc
no_message limits prefix (b ∷ bs) message clean live is =
    let at = clean_live limits start prefix b bs clean in
    let whole = ap (λ (s : Core). is_done s.phase) (sym (walk_go prefix) ∙ spelling_walk prefix message is) in
    let h : true ≡ false = sym whole ∙ at in cc

-- a reading that stands at a fault
pub stuck_broken : (limits : Limits) (bytes more : List ℕ) (reason : Reason) → (run limits start bytes).count ≡ length bytes → (run limits start bytes).phase ≡ Stuck reason → Broken limits (bytes ++ more) (length bytes) reason
stuck_broken limits bytes more reason counted stuck =
    elim (reach limits start bytes (counted ∙ (let e : length bytes ≡ 0 + length bytes = omega arith in e))) [
      | inl clean ↦ clean_stuck limits bytes more reason clean.0 (sym (ap (λ (x : Reading). x.phase) clean.1) ∙ stuck)
      | inr broke ↦ (
          let same : Stuck broke.reason ≡ Stuck reason = sym broke.phase ∙ stuck in
          let is : broke.reason ≡ reason = cc in
          let fault = limit_is_fault limits broke.prefix broke.byte reason broke.clean (broke.fault ∙ ap Some is) in
          at_last limits bytes broke.prefix broke.byte more reason broke.is (fault_breaks limits broke.prefix broke.byte more reason broke.clean broke.live fault)
          )
    ]

-- a reading whose message is whole
pub whole_spelt : (limits : Limits) (bytes : List ℕ) → (run limits start bytes).count ≡ length bytes → (run limits start bytes).phase ≡ Whole → Spelt limits bytes (run limits start bytes).segments
whole_spelt limits bytes counted whole =
    elim (reach limits start bytes (counted ∙ (let e : length bytes ≡ 0 + length bytes = omega arith in e))) [
      | inl clean ↦ (
          let r = go start bytes in
          let bounded = bounded_start limits bytes clean.0 in
          let at : r.phase ≡ Whole = sym (ap (λ (x : Reading). x.phase) clean.1) ∙ whole in
          let spelling = whole_spelling r.segments r.pending bytes (walk_go bytes ∙ ap (core r.segments r.pending) at) in
          subst (λ (x : Reading). Spelt limits bytes x.segments) (sym clean.1) (record {
            spelling = spelling;
            within = record { total = omega (arith, bounded.total, count_go start bytes); count = omega (arith, bounded.segments); json = bounded.json };
          })
          )
      | inr broke ↦ absurd (let h : Stuck broke.reason ≡ Whole = sym broke.phase ∙ whole in cc)
    ]

-- a reading that can go on
pub live_unfinished : (limits : Limits) (bytes : List ℕ) → (run limits start bytes).count ≡ length bytes → is_done (run limits start bytes).phase ≡ false → IsUnfinished limits bytes
live_unfinished limits bytes counted live =
    elim (reach limits start bytes (counted ∙ (let e : length bytes ≡ 0 + length bytes = omega arith in e))) [
      | inl clean ↦ (
          let at : is_done (go start bytes).phase ≡ false = sym (ap (λ (x : Reading). is_done x.phase) clean.1) ∙ live in
          record {
            unspelt = λ prefix after message e spelt. no_message limits prefix after message (subst (Clean limits start) e clean.0) (subst (λ (y : List ℕ). is_done (go start y).phase ≡ false) e at) spelt.spelling;
            unbroken = λ place reason broken. no_fault_inside limits broken.prefix broken.byte broken.after reason (subst (Clean limits start) broken.is clean.0) (subst (λ (y : List ℕ). is_done (go start y).phase ≡ false) broken.is at) broken.fault;
          }
          )
      | inr broke ↦ absurd (let h : true ≡ false = sym (ap is_done broke.phase) ∙ live in cc)
    ]
