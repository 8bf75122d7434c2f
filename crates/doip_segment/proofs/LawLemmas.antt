-- Laws of spellings, of framings and of faults.
use Rattle.std.proofs.Common.{◌≡◌, ℕ, zero, suc, ◌+◌, ◌≤◌, ◌<◌, ◌⊎◌, inl, inr, List, [], ◌∷◌, ◌++◌, length, Bool, true, false, Option, Some, None, refl, sym, ap, ◌∙◌, subst, arith, length-append}
use Rattle.std.proofs.lemmas.List.{append-nil, append_cancel_left}
use Rattle.std.proofs.lemmas.Bool.{cases_lt}
use Rattle.doip_segment.specs.declared.outcome.Limits.{Limits}
use Rattle.doip_segment.specs.declared.outcome.Reason.{Reason}
use Rattle.doip_segment.specs.declared.outcome.Reason.TheVariants as reasons
use Rattle.doip_segment.specs.declared.phase.Phase.{Phase}
use Rattle.doip_segment.specs.declared.phase.Phase.TheVariants.{Due, Text, LineStart, JsonEnd, BytesStart, ChunkDue, Digits, Padding, Data, DataEnd, BytesEnd, MessageEnd, Whole, Stuck}
use Rattle.doip_segment.specs.Segments.{Segment}
use Rattle.doip_segment.specs.Grammar.{IsSpelling}
use Rattle.doip_segment.specs.Framing.{Spelt, NothingSpelt, Framed, IsFault, Broken}
use Rattle.doip_segment.specs.declared.class.Class.{Class}
use Rattle.doip_segment.specs.Machine.{run, is_done, Reading, start, advanced, stepped_within, limit_fault, class_of}
use Rattle.doip_segment.proofs.WalkLemmas.{Core, walk, outset, walk-append, spelling_walk, whole_walk}
use Rattle.doip_segment.proofs.CleanLemmas.{live_step}
use Rattle.doip_segment.proofs.FramingLemmas.{whole_spelt, live_unfinished}
use Rattle.doip_segment.proofs.SpeltLemmas.{spelt_run, run_after}

-- No spelling begins another, and each has one message.
pub one_spelling : (bytes after : List ℕ) (message other : List Segment) → IsSpelling bytes message → IsSpelling (bytes ++ after) other → (after ≡ []) × (message ≡ other)
one_spelling bytes [] message other first second =
    let joined = subst (λ (x : List ℕ). IsSpelling x other) (append-nil bytes) second in
    (refl, ap (λ (s : Core). s.segments) (sym (spelling_walk bytes message first) ∙ spelling_walk bytes other joined))
one_spelling bytes (b ∷ bs) message other first second =
    let one = spelling_walk bytes message first in
    let two = sym (walk-append outset bytes (b ∷ bs)) ∙ spelling_walk (bytes ++ b ∷ bs) other second in
    let stuck = ap (λ s. (walk s (b ∷ bs)).phase) one ∙ whole_walk message [] b bs in
    let h : Stuck reasons.Marker ≡ Whole = sym stuck ∙ ap (λ (s : Core). s.phase) two in absurd (cc)

-- of two prefixes of one list, one begins the other
pub record Longer (prefix other : List ℕ) : Type 0 where
  pub more : List ℕ
  pub is : other ≡ prefix ++ more

pub two_prefixes : (prefix after other rest : List ℕ) → prefix ++ after ≡ other ++ rest → Longer prefix other ⊎ Longer other prefix
two_prefixes [] after other rest e = inl (record { more = other; is = refl })
two_prefixes (x ∷ prefix) after [] rest e = inr (record { more = x ∷ prefix; is = refl })
two_prefixes (x ∷ prefix) after (y ∷ other) rest e =
    let tails : prefix ++ after ≡ other ++ rest = cc in
    let heads : x ≡ y = cc in
    elim (two_prefixes prefix after other rest tails) [
      | inl longer ↦ inl (record { more = longer.more; is = ap (λ z. z ∷ other) (sym heads) ∙ ap (λ t. x ∷ t) longer.is })
      | inr longer ↦ inr (record { more = longer.more; is = ap (λ z. z ∷ prefix) heads ∙ ap (λ t. y ∷ t) longer.is })
    ]

-- the message that a list begins with is one
pub one_prefix : (prefix after other rest : List ℕ) (message second : List Segment) → prefix ++ after ≡ other ++ rest → IsSpelling prefix message → IsSpelling other second → (prefix ≡ other) × (message ≡ second) × (after ≡ rest)
one_prefix prefix after other rest message second e is as_ =
    elim (two_prefixes prefix after other rest e) [
      | inl longer ↦ (
          let one = one_spelling prefix longer.more message second is (subst (λ (x : List ℕ). IsSpelling x second) longer.is as_) in
          let same : prefix ≡ other = sym (longer.is ∙ ap (λ x. prefix ++ x) one.0 ∙ append-nil prefix) in
          (same, one.1, append_cancel_left prefix after rest (e ∙ ap (λ x. x ++ rest) (sym same)))
          )
      | inr longer ↦ (
          let one = one_spelling other longer.more second message as_ (subst (λ (x : List ℕ). IsSpelling x message) longer.is is) in
          let same : prefix ≡ other = longer.is ∙ ap (λ x. other ++ x) one.0 ∙ append-nil other in
          (same, sym one.1, append_cancel_left prefix after rest (e ∙ ap (λ x. x ++ rest) (sym same)))
          )
    ]

-- bytes in which a fault stands begin with no message
pub stuck_unspelt : (limits : Limits) (bytes more : List ℕ) (reason : Reason) → (run limits start bytes).phase ≡ Stuck reason → NothingSpelt limits (bytes ++ more)
stuck_unspelt limits bytes more reason stuck prefix after message e spelt =
    let reads = spelt_run limits prefix message spelt in
    let done = ap is_done reads.phase in
    let stuck_done = ap is_done stuck in
    elim (two_prefixes bytes more prefix after e) [
      | inl longer ↦ (
          let same = ap (run limits start) longer.is ∙ run_after limits bytes longer.more stuck_done in
          let h : Whole ≡ Stuck reason = sym reads.phase ∙ ap (λ (r : Reading). r.phase) same ∙ stuck in cc
          )
      | inr longer ↦ (
          let same = ap (run limits start) longer.is ∙ run_after limits prefix longer.more done in
          let h : Whole ≡ Stuck reason = sym reads.phase ∙ sym (ap (λ (r : Reading). r.phase) same) ∙ stuck in cc
          )
    ]

-- the bytes up to where something is done, or all
pub record Cut (limits : Limits) (r : Reading) (bytes : List ℕ) : Type 0 where
  pub prefix : List ℕ
  pub after : List ℕ
  pub is : bytes ≡ prefix ++ after
  pub count : (run limits r prefix).count ≡ r.count + length prefix
  pub ends : (is_done (run limits r prefix).phase ≡ true) ⊎ (after ≡ [])

-- a byte is counted
counts : (limits : Limits) (r : Reading) (c : Class) (b : ℕ) (fault : Option Reason) → (stepped_within fault r c b).count ≡ r.count + 1
counts limits r c b None = refl
counts limits r c b (Some reason) = refl

counts_one : (limits : Limits) (r : Reading) (b : ℕ) → is_done r.phase ≡ false → (advanced limits r b).count ≡ r.count + 1
counts_one limits r b live = ap (λ (x : Reading). x.count) (live_step limits r b live) ∙ counts limits r (class_of b) b (limit_fault limits r (class_of b))

cut_by : (limits : Limits) (r : Reading) (b : ℕ) (bs : List ℕ) (done : Bool) → is_done r.phase ≡ done → Cut limits (advanced limits r b) bs → Cut limits r (b ∷ bs)
cut_by limits r b bs true done later = record { prefix = []; after = b ∷ bs; is = refl; count = omega arith; ends = inl done }
cut_by limits r b bs false live later =
    let one = counts_one limits r b live in
    record { prefix = b ∷ later.prefix; after = later.after; is = ap (λ x. b ∷ x) later.is; count = omega (arith, later.count, one); ends = later.ends }

pub cut : (limits : Limits) (r : Reading) (bytes : List ℕ) → Cut limits r bytes
cut limits r [] = record { prefix = []; after = []; is = refl; count = omega arith; ends = inr refl }
cut limits r (b ∷ bs) = cut_by limits r b bs (is_done r.phase) refl (cut limits (advanced limits r b) bs)

-- whether bytes begin with a message
pub record Begins (limits : Limits) (bytes : List ℕ) : Type 0 where
  pub prefix : List ℕ
  pub after : List ℕ
  pub message : List Segment
  pub is : bytes ≡ prefix ++ after
  pub spelt : Spelt limits prefix message

pub never_done : (p : Phase) → is_done p ≡ false → (after : List ℕ) → (is_done p ≡ true) ⊎ (after ≡ []) → after ≡ []
never_done p live after (inl done) = absurd (let h : false ≡ true = sym live ∙ done in cc)
never_done p live after (inr none) = none

live_unspelt : (limits : Limits) (prefix after : List ℕ) → (run limits start prefix).count ≡ length prefix → is_done (run limits start prefix).phase ≡ false → after ≡ [] → NothingSpelt limits (prefix ++ after)
live_unspelt limits prefix after count live none = subst (NothingSpelt limits) (sym (ap (λ x. prefix ++ x) none ∙ append-nil prefix)) (live_unfinished limits prefix count live).unspelt

begins_by : (limits : Limits) (prefix after : List ℕ) (p : Phase) → (run limits start prefix).phase ≡ p → (run limits start prefix).count ≡ length prefix → (is_done p ≡ true) ⊎ (after ≡ []) → Begins limits (prefix ++ after) ⊎ NothingSpelt limits (prefix ++ after)
begins_by limits prefix after Whole at count ends = inl (record { prefix = prefix; after = after; message = (run limits start prefix).segments; is = refl; spelt = whole_spelt limits prefix count at })
begins_by limits prefix after (Stuck reason) at count ends = inr (stuck_unspelt limits prefix after reason at)
begins_by limits prefix after Due at count ends = inr (live_unspelt limits prefix after count (ap is_done at) (never_done Due refl after ends))
begins_by limits prefix after Text at count ends = inr (live_unspelt limits prefix after count (ap is_done at) (never_done Text refl after ends))
begins_by limits prefix after LineStart at count ends = inr (live_unspelt limits prefix after count (ap is_done at) (never_done LineStart refl after ends))
begins_by limits prefix after JsonEnd at count ends = inr (live_unspelt limits prefix after count (ap is_done at) (never_done JsonEnd refl after ends))
begins_by limits prefix after BytesStart at count ends = inr (live_unspelt limits prefix after count (ap is_done at) (never_done BytesStart refl after ends))
begins_by limits prefix after ChunkDue at count ends = inr (live_unspelt limits prefix after count (ap is_done at) (never_done ChunkDue refl after ends))
begins_by limits prefix after (Digits n v) at count ends = inr (live_unspelt limits prefix after count (ap is_done at) (never_done (Digits n v) refl after ends))
begins_by limits prefix after (Padding v) at count ends = inr (live_unspelt limits prefix after count (ap is_done at) (never_done (Padding v) refl after ends))
begins_by limits prefix after (Data left) at count ends = inr (live_unspelt limits prefix after count (ap is_done at) (never_done (Data left) refl after ends))
begins_by limits prefix after DataEnd at count ends = inr (live_unspelt limits prefix after count (ap is_done at) (never_done DataEnd refl after ends))
begins_by limits prefix after BytesEnd at count ends = inr (live_unspelt limits prefix after count (ap is_done at) (never_done BytesEnd refl after ends))
begins_by limits prefix after MessageEnd at count ends = inr (live_unspelt limits prefix after count (ap is_done at) (never_done MessageEnd refl after ends))

pub begins_or_not : (limits : Limits) (bytes : List ℕ) → Begins limits bytes ⊎ NothingSpelt limits bytes
begins_or_not limits bytes =
    let c = cut limits start bytes in
    let count : (run limits start c.prefix).count ≡ length c.prefix = c.count ∙ (let e : 0 + length c.prefix ≡ length c.prefix = omega arith in e) in
    subst (λ (x : List ℕ). Begins limits x ⊎ NothingSpelt limits x) (sym c.is) (begins_by limits c.prefix c.after (run limits start c.prefix).phase refl count c.ends)

-- a spelling has bytes
pub spelling_some : (bytes : List ℕ) (message : List Segment) → IsSpelling bytes message → 0 < length bytes
spelling_some [] message is = absurd (let h : Due ≡ Whole = ap (λ (s : Core). s.phase) (spelling_walk [] message is) in cc)
spelling_some (b ∷ bs) message is = omega arith

pub record Framing (limits : Limits) (bytes : List ℕ) : Type 0 where
  pub messages : List (List Segment)
  pub rest : List ℕ
  pub framed : Framed limits bytes messages rest

framing_by : (limits : Limits) (fuel : ℕ) (bytes : List ℕ) → length bytes ≤ fuel → Begins limits bytes ⊎ NothingSpelt limits bytes → Framing limits bytes
framing_by limits fuel bytes le (inr none) = record { messages = []; rest = bytes; framed = (refl, none) }
framing_by limits zero bytes le (inl begin) = absurd (let some = spelling_some begin.prefix begin.message begin.spelt.spelling in let size = ap length begin.is ∙ length-append begin.prefix begin.after in omega (arith, some, size))
framing_by limits (suc fuel) bytes le (inl begin) =
    let some = spelling_some begin.prefix begin.message begin.spelt.spelling in
    let size = ap length begin.is ∙ length-append begin.prefix begin.after in
    let later = framing_by limits fuel begin.after (omega (arith, some, size)) (begins_or_not limits begin.after) in
    record { messages = begin.message ∷ later.messages; rest = later.rest; framed = (begin.prefix, begin.after, begin.spelt, begin.is, later.framed) }

-- Each list of bytes has a framing.
pub framing : (limits : Limits) (bytes : List ℕ) → Framing limits bytes
framing limits bytes = framing_by limits (length bytes) bytes (omega arith) (begins_or_not limits bytes)

-- It has no other.
pub one_framing : (limits : Limits) (bytes : List ℕ) (messages others : List (List Segment)) (rest remains : List ℕ) → Framed limits bytes messages rest → Framed limits bytes others remains → (messages ≡ others) × (rest ≡ remains)
one_framing limits bytes [] [] rest remains a b = (refl, sym a.0 ∙ b.0)
one_framing limits bytes [] (m ∷ ms) rest remains a b = absurd (a.1 b.0 b.1 m (sym a.0 ∙ b.3) b.2)
one_framing limits bytes (m ∷ ms) [] rest remains a b = absurd (b.1 a.0 a.1 m (sym b.0 ∙ a.3) a.2)
one_framing limits bytes (m ∷ ms) (o ∷ os) rest remains a b =
    let one = one_prefix a.0 a.1 b.0 b.1 m o (sym a.3 ∙ b.3) a.2.spelling b.2.spelling in
    let later = one_framing limits a.1 ms os rest remains a.4 (subst (λ (x : List ℕ). Framed limits x os remains) (sym one.2) b.4) in
    (ap (λ x. x ∷ ms) one.1 ∙ ap (λ x. o ∷ x) later.0, later.1)

-- The reason of a fault is one.
pub one_reason : (limits : Limits) (prefix : List ℕ) (b : ℕ) (x y : Reason) → IsFault limits prefix b x → IsFault limits prefix b y → x ≡ y
one_reason limits prefix b reasons.TooLong reasons.TooLong f g = refl
one_reason limits prefix b reasons.TooLong reasons.JsonTooLong f g = absurd (g.0 f)
one_reason limits prefix b reasons.TooLong reasons.TooMany f g = absurd (g.0 f)
one_reason limits prefix b reasons.TooLong reasons.ChunkEnd f g = absurd (g.0.total f)
one_reason limits prefix b reasons.TooLong reasons.Length f g = absurd (g.0.total f)
one_reason limits prefix b reasons.TooLong reasons.Marker f g = absurd (g.0.total f)
one_reason limits prefix b reasons.JsonTooLong reasons.TooLong f g = absurd (f.0 g)
one_reason limits prefix b reasons.JsonTooLong reasons.JsonTooLong f g = refl
one_reason limits prefix b reasons.JsonTooLong reasons.TooMany f g = absurd (g.1 f.1)
one_reason limits prefix b reasons.JsonTooLong reasons.ChunkEnd f g = absurd (g.0.json f.1)
one_reason limits prefix b reasons.JsonTooLong reasons.Length f g = absurd (g.0.json f.1)
one_reason limits prefix b reasons.JsonTooLong reasons.Marker f g = absurd (g.0.json f.1)
one_reason limits prefix b reasons.TooMany reasons.TooLong f g = absurd (f.0 g)
one_reason limits prefix b reasons.TooMany reasons.JsonTooLong f g = absurd (f.1 g.1)
one_reason limits prefix b reasons.TooMany reasons.TooMany f g = refl
one_reason limits prefix b reasons.TooMany reasons.ChunkEnd f g = absurd (g.0.count f.2)
one_reason limits prefix b reasons.TooMany reasons.Length f g = absurd (g.0.count f.2)
one_reason limits prefix b reasons.TooMany reasons.Marker f g = absurd (g.0.count f.2)
one_reason limits prefix b reasons.ChunkEnd reasons.TooLong f g = absurd (f.0.total g)
one_reason limits prefix b reasons.ChunkEnd reasons.JsonTooLong f g = absurd (f.0.json g.1)
one_reason limits prefix b reasons.ChunkEnd reasons.TooMany f g = absurd (f.0.count g.2)
one_reason limits prefix b reasons.ChunkEnd reasons.ChunkEnd f g = refl
one_reason limits prefix b reasons.ChunkEnd reasons.Length f g = absurd (g.1 f.1)
one_reason limits prefix b reasons.ChunkEnd reasons.Marker f g = absurd (g.1 f.1)
one_reason limits prefix b reasons.Length reasons.TooLong f g = absurd (f.0.total g)
one_reason limits prefix b reasons.Length reasons.JsonTooLong f g = absurd (f.0.json g.1)
one_reason limits prefix b reasons.Length reasons.TooMany f g = absurd (f.0.count g.2)
one_reason limits prefix b reasons.Length reasons.ChunkEnd f g = absurd (f.1 g.1)
one_reason limits prefix b reasons.Length reasons.Length f g = refl
one_reason limits prefix b reasons.Length reasons.Marker f g = absurd (elim f.2 [ inl due ↦ g.2 due | inr digits ↦ g.3 digits ])
one_reason limits prefix b reasons.Marker reasons.TooLong f g = absurd (f.0.total g)
one_reason limits prefix b reasons.Marker reasons.JsonTooLong f g = absurd (f.0.json g.1)
one_reason limits prefix b reasons.Marker reasons.TooMany f g = absurd (f.0.count g.2)
one_reason limits prefix b reasons.Marker reasons.ChunkEnd f g = absurd (f.1 g.1)
one_reason limits prefix b reasons.Marker reasons.Length f g = absurd (elim g.2 [ inl due ↦ f.2 due | inr digits ↦ f.3 digits ])
one_reason limits prefix b reasons.Marker reasons.Marker f g = refl

same_cut : (f : List ℕ) (b : ℕ) (g other : List ℕ) (c : ℕ) (h : List ℕ) → f ++ b ∷ g ≡ other ++ c ∷ h → length f ≡ length other → (f ≡ other) × (b ≡ c)
same_cut [] b g [] c h e size = (refl, (cc))
same_cut [] b g (x ∷ other) c h e size = absurd (omega (arith, size))
same_cut (x ∷ f) b g [] c h e size = absurd (omega (arith, size))
same_cut (x ∷ f) b g (y ∷ other) c h e size =
    let tails : f ++ b ∷ g ≡ other ++ c ∷ h = cc in
    let heads : x ≡ y = cc in
    let later = same_cut f b g other c h tails (omega (arith, size)) in
    (ap (λ z. z ∷ f) heads ∙ ap (λ t. y ∷ t) later.0, later.1)

same_by : (m n : ℕ) → n ≤ m → (n < m → ⊥) → m ≡ n
same_by m n le high = elim (cases_lt n m) [ inl h ↦ absurd (high h) | inr h ↦ (omega arith) ]

same_number : (m n : ℕ) → (m < n → ⊥) → (n < m → ⊥) → m ≡ n
same_number m n low high = elim (cases_lt m n) [ inl h ↦ absurd (low h) | inr h ↦ same_by m n h high ]

-- Bytes break at one place, for one reason.
pub one_broken : (limits : Limits) (bytes : List ℕ) (p q : ℕ) (x y : Reason) → Broken limits bytes p x → Broken limits bytes q y → (p ≡ q) × (x ≡ y)
one_broken limits bytes p q x y a b =
    let low : length a.prefix < length b.prefix → ⊥ = λ h. b.first a.prefix a.byte a.after x a.is h a.fault in
    let high : length b.prefix < length a.prefix → ⊥ = λ h. a.first b.prefix b.byte b.after y b.is h b.fault in
    let size : length a.prefix ≡ length b.prefix = same_number (length a.prefix) (length b.prefix) low high in
    let same = same_cut a.prefix a.byte a.after b.prefix b.byte b.after (sym a.is ∙ b.is) size in
    let fault = subst (λ (z : ℕ). IsFault limits b.prefix z x) same.1 (subst (λ (z : List ℕ). IsFault limits z a.byte x) same.0 a.fault) in
    (a.at ∙ ap (λ n. n + 1) size ∙ sym b.at, one_reason limits b.prefix b.byte x y fault b.fault)

-- A stream that begins with a spelling has its message first.
pub framed_first : (limits : Limits) (prefix after : List ℕ) (message : List Segment) (messages : List (List Segment)) (rest : List ℕ) → Spelt limits prefix message → Framed limits (prefix ++ after) messages rest → (later : List (List Segment)) × (messages ≡ message ∷ later) × Framed limits after later rest
framed_first limits prefix after message [] rest spelt framed = absurd (framed.1 prefix after message (sym framed.0) spelt)
framed_first limits prefix after message (m ∷ ms) rest spelt framed =
    let one = one_prefix prefix after framed.0 framed.1 message m framed.3 spelt.spelling framed.2.spelling in
    (ms, ap (λ x. x ∷ ms) (sym one.1), subst (λ (x : List ℕ). Framed limits x ms rest) (sym one.2) framed.4)
