-- Bytes that break no limit, and what a reading that took each of its bytes says of them.
use Rattle.std.proofs.Common.{◌≡◌, ℕ, zero, suc, ◌+◌, ◌-◌, ◌≤◌, ◌⊎◌, inl, inr, List, [], ◌∷◌, ◌++◌, length, Bool, true, false, cond, Option, Some, None, refl, sym, ap, ◌∙◌, subst, arith, length-append, ltb}
use Rattle.std.specs.List.{AllByRecursion}
use Rattle.std.proofs.lemmas.Bool.{leb-false, ltb-false}
use Rattle.doip_segment.specs.declared.kind.Kind.{Kind}
use Rattle.doip_segment.specs.declared.kind.Kind.TheVariants as kinds
use Rattle.doip_segment.specs.declared.outcome.Limits.{Limits}
use Rattle.doip_segment.specs.declared.outcome.Reason.{Reason}
use Rattle.doip_segment.specs.declared.outcome.Reason.TheVariants as reasons
use Rattle.doip_segment.specs.declared.class.Class.{Class}
use Rattle.doip_segment.specs.declared.class.Class.TheVariants.{LineFeed, Blank, Hash, At, Digit, Other}
use Rattle.doip_segment.specs.declared.phase.Phase.{Phase}
use Rattle.doip_segment.specs.declared.phase.Phase.TheVariants.{Due, Text, LineStart, JsonEnd, BytesStart, ChunkDue, Digits, Padding, Data, DataEnd, BytesEnd, MessageEnd, Whole, Stuck}
use Rattle.doip_segment.specs.Segments.{segment}
use Rattle.doip_segment.specs.Framing.{HoldsLimit}
use Rattle.doip_segment.specs.Machine.{class_of, data_due, next_phase, added, closed, kept, limit_fault, passes_json, stepped, stepped_within, advanced, run, is_done, Reading, start}
use Rattle.doip_segment.specs.Advance.{opened}
use Rattle.doip_segment.proofs.FitLemmas.{closes, opened_step, few_step, none_left, IsLetIn}
use Rattle.doip_segment.proofs.WalkLemmas.{Core, core, walk}
use Rattle.doip_segment.proofs.TellLemmas.{all_push}

-- the bytes, whatever the limits are
abbrev pub go : Reading → List ℕ → Reading
go r [] = r
go r (b ∷ bs) = go (stepped r (class_of b) b) bs

abbrev pub core_of : Reading → Core
core_of r = core r.segments r.pending r.phase

pub core_go : (r : Reading) (bs : List ℕ) → core_of (go r bs) ≡ walk (core_of r) bs
core_go r [] = refl
core_go r (b ∷ bs) = core_go (stepped r (class_of b) b) bs

pub count_go : (r : Reading) (bs : List ℕ) → (go r bs).count ≡ r.count + length bs
count_go r [] = omega arith
count_go r (b ∷ bs) = omega (arith, count_go (stepped r (class_of b) b) bs)

pub go-append : (r : Reading) (xs ys : List ℕ) → go r (xs ++ ys) ≡ go (go r xs) ys
go-append r [] ys = refl
go-append r (x ∷ xs) ys = go-append (stepped r (class_of x) x) xs ys

-- before each of the bytes nothing is done, and each is let in
abbrev pub Clean : Limits → Reading → List ℕ → Type 0
Clean limits r [] = Unit {0}
Clean limits r (b ∷ bs) = (is_done r.phase ≡ false) × (limit_fault limits r (class_of b) ≡ None) × Clean limits (stepped r (class_of b) b) bs

-- all bytes but the last are clean, and the last breaks a limit
pub record Breaks (limits : Limits) (r : Reading) (bytes : List ℕ) (last : Reading) : Type 0 where
  pub prefix : List ℕ
  pub byte : ℕ
  pub reason : Reason
  pub is : bytes ≡ prefix ++ byte ∷ []
  pub clean : Clean limits r prefix
  pub live : is_done (go r prefix).phase ≡ false
  pub fault : limit_fault limits (go r prefix) (class_of byte) ≡ Some reason
  pub phase : last.phase ≡ Stuck reason

pub run_done : (limits : Limits) (r : Reading) (bs : List ℕ) → is_done r.phase ≡ true → run limits r bs ≡ r
run_done limits r [] done = refl
run_done limits r (b ∷ bs) done =
    let same : advanced limits r b ≡ r = ap (λ t. cond t r (stepped_within (limit_fault limits r (class_of b)) r (class_of b) b)) done in
    ap (λ x. run limits x bs) same ∙ run_done limits r bs done

pub live_step : (limits : Limits) (r : Reading) (b : ℕ) → is_done r.phase ≡ false → advanced limits r b ≡ stepped_within (limit_fault limits r (class_of b)) r (class_of b) b
live_step limits r b live = ap (λ t. cond t r (stepped_within (limit_fault limits r (class_of b)) r (class_of b) b)) live

-- a reading that counts each of the bytes took them all
reach_by : (limits : Limits) (r : Reading) (b : ℕ) (bs : List ℕ) (done : Bool) (fault : Option Reason) → is_done r.phase ≡ done → limit_fault limits r (class_of b) ≡ fault → (run limits r (b ∷ bs)).count ≡ r.count + length (b ∷ bs) → ((run limits (stepped r (class_of b) b) bs).count ≡ (stepped r (class_of b) b).count + length bs → (Clean limits (stepped r (class_of b) b) bs × (run limits (stepped r (class_of b) b) bs ≡ go (stepped r (class_of b) b) bs)) ⊎ Breaks limits (stepped r (class_of b) b) bs (run limits (stepped r (class_of b) b) bs)) → (Clean limits r (b ∷ bs) × (run limits r (b ∷ bs) ≡ go r (b ∷ bs))) ⊎ Breaks limits r (b ∷ bs) (run limits r (b ∷ bs))
reach_by limits r b bs true fault done broke counted later =
    let same = ap (λ (x : Reading). x.count) (run_done limits r (b ∷ bs) done) in absurd (omega (arith, same, counted))
reach_by limits r b bs false None live none counted later =
    let on : advanced limits r b ≡ stepped r (class_of b) b = live_step limits r b live ∙ ap (λ o. stepped_within o r (class_of b) b) none in
    let onward : run limits r (b ∷ bs) ≡ run limits (stepped r (class_of b) b) bs = ap (λ x. run limits x bs) on in
    let count : (run limits (stepped r (class_of b) b) bs).count ≡ r.count + 1 + length bs = sym (ap (λ (x : Reading). x.count) onward) ∙ counted ∙ (let e : r.count + length (b ∷ bs) ≡ r.count + 1 + length bs = omega arith in e) in
    elim (later count) [
      | inl clean ↦ inl ((live, none, clean.0), onward ∙ clean.1)
      | inr broke ↦ inr (record {
        prefix = b ∷ broke.prefix;
        byte = broke.byte;
        reason = broke.reason;
        is = ap (λ x. b ∷ x) broke.is;
        clean = (live, none, broke.clean);
        live = broke.live;
        fault = broke.fault;
        phase = ap (λ (x : Reading). x.phase) onward ∙ broke.phase;
      })
    ]
reach_by limits r b [] false (Some reason) live broke counted later =
    let on = live_step limits r b live ∙ ap (λ o. stepped_within o r (class_of b) b) broke in
    inr (record { prefix = []; byte = b; reason = reason; is = refl; clean = tt; live = live; fault = broke; phase = ap (λ (x : Reading). x.phase) on })
reach_by limits r b (c ∷ cs) false (Some reason) live broke counted later =
    let on = live_step limits r b live ∙ ap (λ o. stepped_within o r (class_of b) b) broke in
    let stays = ap (λ x. run limits x (c ∷ cs)) on ∙ run_done limits (stepped_within (Some reason) r (class_of b) b) (c ∷ cs) refl in
    let same = ap (λ (x : Reading). x.count) stays in
    absurd (omega (arith, same, counted))

pub reach : (limits : Limits) (r : Reading) (bs : List ℕ) → (run limits r bs).count ≡ r.count + length bs → (Clean limits r bs × (run limits r bs ≡ go r bs)) ⊎ Breaks limits r bs (run limits r bs)
reach limits r [] counted = inl (tt, refl)
reach limits r (b ∷ bs) counted = reach_by limits r b bs (is_done r.phase) (limit_fault limits r (class_of b)) refl refl counted (reach limits (stepped r (class_of b) b) bs)

-- a clean list, cut somewhere
pub clean_prefix : (limits : Limits) (r : Reading) (xs ys : List ℕ) → Clean limits r (xs ++ ys) → Clean limits r xs
clean_prefix limits r [] ys clean = tt
clean_prefix limits r (x ∷ xs) ys clean = (clean.0, clean.1, clean_prefix limits (stepped r (class_of x) x) xs ys clean.2)

pub clean_at : (limits : Limits) (r : Reading) (xs : List ℕ) (b : ℕ) (ys : List ℕ) → Clean limits r (xs ++ b ∷ ys) → (is_done (go r xs).phase ≡ false) × (limit_fault limits (go r xs) (class_of b) ≡ None)
clean_at limits r [] b ys clean = (clean.0, clean.1)
clean_at limits r (x ∷ xs) b ys clean = clean_at limits (stepped r (class_of x) x) xs b ys clean.2

pub clean_live : (limits : Limits) (r : Reading) (xs : List ℕ) (b : ℕ) (ys : List ℕ) → Clean limits r (xs ++ b ∷ ys) → is_done (go r xs).phase ≡ false
clean_live limits r xs b ys clean = (clean_at limits r xs b ys clean).0

-- what the limits let a place hold
abbrev pub HoldsPending : ℕ → Phase → ℕ → Type 0
HoldsPending json Due size = size ≡ 0
HoldsPending json Text size = size ≤ json + 1
HoldsPending json LineStart size = size ≤ json
HoldsPending json JsonEnd size = size ≤ json
HoldsPending json _ size = Unit {0}

pub record Bounded (limits : Limits) (r : Reading) : Type 0 where
  pub total : r.count ≤ limits.total
  pub segments : length r.segments + opened r.phase ≤ 2048
  pub json : AllByRecursion (λ s. HoldsLimit limits s.kind s.bytes) r.segments
  pub pending : HoldsPending limits.json r.phase (length r.pending)

data_holds : (json left size : ℕ) → HoldsPending json (data_due left) size
data_holds json zero size = tt
data_holds json (suc left) size = tt

cond_holds : (json n v size : ℕ) (more : Bool) → HoldsPending json (cond more (Digits n v) (Stuck reasons.Length)) size
cond_holds json n v size true = tt
cond_holds json n v size false = tt

pending_step : (json : ℕ) (p : Phase) (c : Class) (b size : ℕ) → closed p c ≡ None → passes_json json p c size ≡ false → HoldsPending json p size → HoldsPending json (next_phase p c) (size + length (added p c b))
pending_step json Due LineFeed b size shut fits h = omega (arith, h)
pending_step json Due Blank b size shut fits h = omega (arith, h)
pending_step json Due Hash b size shut fits h = tt
pending_step json Due At b size shut fits h = tt
pending_step json Due (Digit d) b size shut fits h = omega (arith, h)
pending_step json Due Other b size shut fits h = omega (arith, h)
pending_step json Text LineFeed b size shut fits h = let low = ltb-false json size fits in omega (arith, low)
pending_step json Text Blank b size shut fits h = let low = ltb-false json size fits in omega (arith, low)
pending_step json Text Hash b size shut fits h = let low = ltb-false json size fits in omega (arith, low)
pending_step json Text At b size shut fits h = let low = ltb-false json size fits in omega (arith, low)
pending_step json Text (Digit d) b size shut fits h = let low = ltb-false json size fits in omega (arith, low)
pending_step json Text Other b size shut fits h = let low = ltb-false json size fits in omega (arith, low)
pending_step json LineStart LineFeed b size shut fits h = let low = leb-false json size fits in omega (arith, low)
pending_step json LineStart Blank b size shut fits h = let low = leb-false json size fits in omega (arith, low)
pending_step json LineStart Hash b size shut fits h = omega (arith, h)
pending_step json LineStart At b size shut fits h = let low = leb-false json size fits in omega (arith, low)
pending_step json LineStart (Digit d) b size shut fits h = let low = leb-false json size fits in omega (arith, low)
pending_step json LineStart Other b size shut fits h = let low = leb-false json size fits in omega (arith, low)
pending_step json JsonEnd LineFeed b size shut fits h = absurd (cc)
pending_step json JsonEnd Blank b size shut fits h = omega (arith, h)
pending_step json JsonEnd _ b size shut fits h = tt
pending_step json BytesStart LineFeed b size shut fits h = tt
pending_step json BytesStart Blank b size shut fits h = tt
pending_step json BytesStart _ b size shut fits h = tt
pending_step json ChunkDue (Digit d) b size shut fits h = tt
pending_step json ChunkDue Hash b size shut fits h = tt
pending_step json ChunkDue _ b size shut fits h = tt
pending_step json (Digits n v) LineFeed b size shut fits h = data_holds json v (size + 0)
pending_step json (Digits n v) Blank b size shut fits h = tt
pending_step json (Digits n v) (Digit d) b size shut fits h = cond_holds json (n + 1) _ (size + 0) (ltb n 10)
pending_step json (Digits n v) _ b size shut fits h = tt
pending_step json (Padding v) LineFeed b size shut fits h = data_holds json v (size + 0)
pending_step json (Padding v) Blank b size shut fits h = tt
pending_step json (Padding v) _ b size shut fits h = tt
pending_step json (Data left) c b size shut fits h = data_holds json (left - 1) (size + 1)
pending_step json DataEnd LineFeed b size shut fits h = tt
pending_step json DataEnd _ b size shut fits h = tt
pending_step json BytesEnd LineFeed b size shut fits h = absurd (cc)
pending_step json BytesEnd Blank b size shut fits h = tt
pending_step json BytesEnd _ b size shut fits h = tt
pending_step json MessageEnd LineFeed b size shut fits h = tt
pending_step json MessageEnd Blank b size shut fits h = tt
pending_step json MessageEnd _ b size shut fits h = tt
pending_step json Whole _ b size shut fits h = tt
pending_step json (Stuck reason) _ b size shut fits h = tt

-- what a byte closes
closing_step : (limits : Limits) (p : Phase) (c : Class) (kind : Kind) (pending : List ℕ) → closed p c ≡ Some kind → HoldsPending limits.json p (length pending) → HoldsLimit limits kind pending × HoldsPending limits.json (next_phase p c) 0
closing_step limits JsonEnd LineFeed kind pending shut h = let e : kind ≡ kinds.Json = cc in (subst (λ (k : Kind). HoldsLimit limits k pending) (sym e) h, refl)
closing_step limits BytesEnd LineFeed kind pending shut h = let e : kind ≡ kinds.Bytes = cc in (subst (λ (k : Kind). HoldsLimit limits k pending) (sym e) tt, refl)
closing_step limits JsonEnd Blank kind pending shut h = absurd (cc)
closing_step limits JsonEnd Hash kind pending shut h = absurd (cc)
closing_step limits JsonEnd At kind pending shut h = absurd (cc)
closing_step limits JsonEnd (Digit d) kind pending shut h = absurd (cc)
closing_step limits JsonEnd Other kind pending shut h = absurd (cc)
closing_step limits BytesEnd Blank kind pending shut h = absurd (cc)
closing_step limits BytesEnd Hash kind pending shut h = absurd (cc)
closing_step limits BytesEnd At kind pending shut h = absurd (cc)
closing_step limits BytesEnd (Digit d) kind pending shut h = absurd (cc)
closing_step limits BytesEnd Other kind pending shut h = absurd (cc)
closing_step limits Due c kind pending shut h = absurd (cc)
closing_step limits Text c kind pending shut h = absurd (cc)
closing_step limits LineStart c kind pending shut h = absurd (cc)
closing_step limits BytesStart c kind pending shut h = absurd (cc)
closing_step limits ChunkDue c kind pending shut h = absurd (cc)
closing_step limits (Digits n v) c kind pending shut h = absurd (cc)
closing_step limits (Padding v) c kind pending shut h = absurd (cc)
closing_step limits (Data left) c kind pending shut h = absurd (cc)
closing_step limits DataEnd c kind pending shut h = absurd (cc)
closing_step limits MessageEnd c kind pending shut h = absurd (cc)
closing_step limits Whole c kind pending shut h = absurd (cc)
closing_step limits (Stuck reason) c kind pending shut h = absurd (cc)

-- the content after a byte
content_step : (limits : Limits) (r : Reading) (c : Class) (b : ℕ) (shut : Option Kind) → closed r.phase c ≡ shut → passes_json limits.json r.phase c (length r.pending) ≡ false → Bounded limits r → (length (kept r.segments r.pending shut (added r.phase c b)).0 ≡ length r.segments + closes shut) × AllByRecursion (λ s. HoldsLimit limits s.kind s.bytes) (kept r.segments r.pending shut (added r.phase c b)).0 × HoldsPending limits.json (next_phase r.phase c) (length (kept r.segments r.pending shut (added r.phase c b)).1)
content_step limits r c b None shut fits old =
    let held = pending_step limits.json r.phase c b (length r.pending) shut fits old.pending in
    (omega arith, old.json, subst (HoldsPending limits.json (next_phase r.phase c)) (sym (length-append r.pending (added r.phase c b))) held)
content_step limits r c b (Some kind) shut fits old =
    let closing = closing_step limits r.phase c kind r.pending shut old.pending in
    (length-append r.segments (segment kind r.pending ∷ []), all_push _ r.segments (segment kind r.pending) old.json closing.0, closing.1)

pub bounded_step : (limits : Limits) (r : Reading) (b : ℕ) → IsLetIn limits r (class_of b) → Bounded limits r → Bounded limits (stepped r (class_of b) b)
bounded_step limits r b let_in old =
    let c = class_of b in
    let content = content_step limits r c b (closed r.phase c) refl let_in.json old in
    let open_ = opened_step r.phase c in
    let most = few_step r.phase c (length r.segments) old.segments let_in.few in
    record { total = omega (arith, let_in.total); segments = omega (arith, content.0, open_, most); json = content.1; pending = content.2 }

pub bounded_go : (limits : Limits) (r : Reading) (bs : List ℕ) → Clean limits r bs → Bounded limits r → Bounded limits (go r bs)
bounded_go limits r [] clean old = old
bounded_go limits r (b ∷ bs) clean old = bounded_go limits (stepped r (class_of b) b) bs clean.2 (bounded_step limits r b (none_left limits r (class_of b) clean.1) old)

pub bounded_start : (limits : Limits) (bs : List ℕ) → Clean limits start bs → Bounded limits (go start bs)
bounded_start limits bs clean = bounded_go limits start bs clean (record { total = omega arith; segments = omega arith; json = tt; pending = refl })
