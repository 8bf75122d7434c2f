-- A spelling within the limits is read to its end, whatever comes after it.
use Rattle.std.proofs.Common.{◌≡◌, ℕ, zero, suc, ◌+◌, ◌-◌, ◌*◌, ◌≤◌, ◌<◌, List, [], ◌∷◌, ◌++◌, length, Bool, true, false, cond, Option, Some, None, refl, sym, ap, ◌∙◌, subst, arith, length-append, leb, ltb, ◌&&◌}
use Rattle.std.specs.List.{AllByRecursion}
use Rattle.std.proofs.lemmas.Bool.{lt-leb, le-ltb}
use Rattle.doip_segment.specs.declared.kind.Kind.{Kind}
use Rattle.doip_segment.specs.declared.kind.Kind.TheVariants as kinds
use Rattle.doip_segment.specs.declared.outcome.Limits.{Limits}
use Rattle.doip_segment.specs.declared.outcome.Reason.TheVariants as reasons
use Rattle.doip_segment.specs.declared.class.Class.{Class}
use Rattle.doip_segment.specs.declared.class.Class.TheVariants.{LineFeed, Blank, Hash, At, Digit, Other}
use Rattle.doip_segment.specs.declared.phase.Phase.{Phase}
use Rattle.doip_segment.specs.declared.phase.Phase.TheVariants.{Due, Text, LineStart, JsonEnd, BytesStart, ChunkDue, Digits, Padding, Data, DataEnd, BytesEnd, MessageEnd, Whole, Stuck}
use Rattle.doip_segment.specs.Segments.{Segment, segment}
use Rattle.doip_segment.specs.Framing.{HoldsLimit, Spelt}
use Rattle.doip_segment.specs.Machine.{class_of, data_due, next_phase, added, closed, kept, limit_fault, passes_json, begins, stepped, stepped_within, run, is_done, Reading, start}
use Rattle.doip_segment.specs.Advance.{opened}
use Rattle.doip_segment.proofs.RunLemmas.{run-append}
use Rattle.doip_segment.proofs.WalkLemmas.{Core, core, moved, walk, spelling_walk, stuck_walk}
use Rattle.doip_segment.proofs.CleanLemmas.{go, core_of, core_go, count_go, Clean, run_done, live_step}

abbrev HoldsAll : Limits → List Segment → Type 0
HoldsAll limits segments = AllByRecursion (λ s. HoldsLimit limits s.kind s.bytes) segments

-- the most that a place may hold on the way to a message within the limits
abbrev HoldsUp : ℕ → Phase → ℕ → Type 0
HoldsUp json Text size = size ≤ json + 1
HoldsUp json LineStart size = size ≤ json
HoldsUp json JsonEnd size = size ≤ json
HoldsUp json _ size = Unit {0}

record CanEnd (limits : Limits) (s : Core) : Type 0 where
  segments : length s.segments + opened s.phase ≤ 2048
  json : HoldsAll limits s.segments
  pending : HoldsUp limits.json s.phase (length s.pending)

-- no fault
abbrev IsSafe : Phase → Type 0
IsSafe (Stuck reason) = ⊥
IsSafe _ = Unit {0}

-- what a byte shows of the place before it, where the place after it can end within the limits
record Before (limits : Limits) (p : Phase) (c : Class) (n size : ℕ) : Type 0 where
  fits : passes_json limits.json p c size ≡ false
  few : (begins p c && leb 2048 n) ≡ false
  count : n + opened p ≤ 2048
  pending : HoldsUp limits.json p size

data_few : (n v : ℕ) → n + opened (data_due v) ≤ 2048 → n + 1 ≤ 2048
data_few n zero few = few
data_few n (suc v) few = few

cond_few : (n k v : ℕ) (more : Bool) → IsSafe (cond more (Digits k v) (Stuck reasons.Length)) → n + opened (cond more (Digits k v) (Stuck reasons.Length)) ≤ 2048 → n + 1 ≤ 2048
cond_few n k v true safe few = few
cond_few n k v false safe few = absurd safe

before_open : (limits : Limits) (p : Phase) (c : Class) (b n size : ℕ) → closed p c ≡ None → IsSafe (next_phase p c) → n + opened (next_phase p c) ≤ 2048 → HoldsUp limits.json (next_phase p c) (size + length (added p c b)) → Before limits p c n size
before_open limits Due LineFeed b n size shut safe few up = record { fits = refl; few = refl; count = few; pending = tt }
before_open limits Due Blank b n size shut safe few up = record { fits = refl; few = refl; count = few; pending = tt }
before_open limits Due Hash b n size shut safe few up = record { fits = refl; few = refl; count = few; pending = tt }
before_open limits Due At b n size shut safe few up = record { fits = refl; few = lt-leb 2048 n (omega (arith, few)); count = omega (arith, few); pending = tt }
before_open limits Due (Digit d) b n size shut safe few up = record { fits = refl; few = lt-leb 2048 n (omega (arith, few)); count = omega (arith, few); pending = tt }
before_open limits Due Other b n size shut safe few up = record { fits = refl; few = lt-leb 2048 n (omega (arith, few)); count = omega (arith, few); pending = tt }
before_open limits Text LineFeed b n size shut safe few up = record { fits = le-ltb limits.json size (omega (arith, up)); few = refl; count = few; pending = omega (arith, up) }
before_open limits Text Blank b n size shut safe few up = record { fits = le-ltb limits.json size (omega (arith, up)); few = refl; count = few; pending = omega (arith, up) }
before_open limits Text Hash b n size shut safe few up = record { fits = le-ltb limits.json size (omega (arith, up)); few = refl; count = few; pending = omega (arith, up) }
before_open limits Text At b n size shut safe few up = record { fits = le-ltb limits.json size (omega (arith, up)); few = refl; count = few; pending = omega (arith, up) }
before_open limits Text (Digit d) b n size shut safe few up = record { fits = le-ltb limits.json size (omega (arith, up)); few = refl; count = few; pending = omega (arith, up) }
before_open limits Text Other b n size shut safe few up = record { fits = le-ltb limits.json size (omega (arith, up)); few = refl; count = few; pending = omega (arith, up) }
before_open limits LineStart LineFeed b n size shut safe few up = record { fits = lt-leb limits.json size (omega (arith, up)); few = refl; count = few; pending = omega (arith, up) }
before_open limits LineStart Blank b n size shut safe few up = record { fits = lt-leb limits.json size (omega (arith, up)); few = refl; count = few; pending = omega (arith, up) }
before_open limits LineStart Hash b n size shut safe few up = record { fits = refl; few = refl; count = few; pending = omega (arith, up) }
before_open limits LineStart At b n size shut safe few up = record { fits = lt-leb limits.json size (omega (arith, up)); few = refl; count = few; pending = omega (arith, up) }
before_open limits LineStart (Digit d) b n size shut safe few up = record { fits = lt-leb limits.json size (omega (arith, up)); few = refl; count = few; pending = omega (arith, up) }
before_open limits LineStart Other b n size shut safe few up = record { fits = lt-leb limits.json size (omega (arith, up)); few = refl; count = few; pending = omega (arith, up) }
before_open limits JsonEnd LineFeed b n size shut safe few up = absurd (cc)
before_open limits JsonEnd Blank b n size shut safe few up = record { fits = refl; few = refl; count = few; pending = omega (arith, up) }
before_open limits JsonEnd Hash b n size shut safe few up = absurd safe
before_open limits JsonEnd At b n size shut safe few up = absurd safe
before_open limits JsonEnd (Digit d) b n size shut safe few up = absurd safe
before_open limits JsonEnd Other b n size shut safe few up = absurd safe
before_open limits BytesStart LineFeed b n size shut safe few up = record { fits = refl; few = refl; count = few; pending = tt }
before_open limits BytesStart Blank b n size shut safe few up = record { fits = refl; few = refl; count = few; pending = tt }
before_open limits BytesStart _ b n size shut safe few up = absurd safe
before_open limits ChunkDue (Digit d) b n size shut safe few up = record { fits = refl; few = refl; count = few; pending = tt }
before_open limits ChunkDue Hash b n size shut safe few up = record { fits = refl; few = refl; count = few; pending = tt }
before_open limits ChunkDue _ b n size shut safe few up = absurd safe
before_open limits (Digits k v) LineFeed b n size shut safe few up = record { fits = refl; few = refl; count = data_few n v few; pending = tt }
before_open limits (Digits k v) Blank b n size shut safe few up = record { fits = refl; few = refl; count = few; pending = tt }
before_open limits (Digits k v) (Digit d) b n size shut safe few up = record { fits = refl; few = refl; count = cond_few n (k + 1) (10 * v + d) (ltb k 10) safe few; pending = tt }
before_open limits (Digits k v) _ b n size shut safe few up = absurd safe
before_open limits (Padding v) LineFeed b n size shut safe few up = record { fits = refl; few = refl; count = data_few n v few; pending = tt }
before_open limits (Padding v) Blank b n size shut safe few up = record { fits = refl; few = refl; count = few; pending = tt }
before_open limits (Padding v) _ b n size shut safe few up = absurd safe
before_open limits (Data left) c b n size shut safe few up = record { fits = refl; few = refl; count = data_few n (left - 1) few; pending = tt }
before_open limits DataEnd LineFeed b n size shut safe few up = record { fits = refl; few = refl; count = few; pending = tt }
before_open limits DataEnd _ b n size shut safe few up = absurd safe
before_open limits BytesEnd LineFeed b n size shut safe few up = absurd (cc)
before_open limits BytesEnd Blank b n size shut safe few up = record { fits = refl; few = refl; count = few; pending = tt }
before_open limits BytesEnd _ b n size shut safe few up = absurd safe
before_open limits MessageEnd LineFeed b n size shut safe few up = record { fits = refl; few = refl; count = few; pending = tt }
before_open limits MessageEnd Blank b n size shut safe few up = record { fits = refl; few = refl; count = few; pending = tt }
before_open limits MessageEnd _ b n size shut safe few up = absurd safe
before_open limits Whole c b n size shut safe few up = absurd safe
before_open limits (Stuck reason) c b n size shut safe few up = absurd safe

all_prefix : {X : Type 0} (P : X → Type 0) (xs : List X) (x : X) → AllByRecursion P (xs ++ x ∷ []) → AllByRecursion P xs × P x
all_prefix P [] x all = (tt, all.0)
all_prefix P (y ∷ xs) x all = let later = all_prefix P xs x all.1 in ((all.0, later.0), later.1)

-- the byte that closes a segment
before_closed : (limits : Limits) (p : Phase) (c : Class) (n : ℕ) (pending : List ℕ) (kind : Kind) → closed p c ≡ Some kind → n + 1 ≤ 2048 → HoldsLimit limits kind pending → Before limits p c n (length pending)
before_closed limits JsonEnd LineFeed n pending kind shut few holds = let e : kind ≡ kinds.Json = cc in record { fits = refl; few = refl; count = few; pending = subst (λ (k : Kind). HoldsLimit limits k pending) e holds }
before_closed limits BytesEnd LineFeed n pending kind shut few holds = record { fits = refl; few = refl; count = few; pending = tt }
before_closed limits JsonEnd Blank n pending kind shut few holds = absurd (cc)
before_closed limits JsonEnd Hash n pending kind shut few holds = absurd (cc)
before_closed limits JsonEnd At n pending kind shut few holds = absurd (cc)
before_closed limits JsonEnd (Digit d) n pending kind shut few holds = absurd (cc)
before_closed limits JsonEnd Other n pending kind shut few holds = absurd (cc)
before_closed limits BytesEnd Blank n pending kind shut few holds = absurd (cc)
before_closed limits BytesEnd Hash n pending kind shut few holds = absurd (cc)
before_closed limits BytesEnd At n pending kind shut few holds = absurd (cc)
before_closed limits BytesEnd (Digit d) n pending kind shut few holds = absurd (cc)
before_closed limits BytesEnd Other n pending kind shut few holds = absurd (cc)
before_closed limits Due c n pending kind shut few holds = absurd (cc)
before_closed limits Text c n pending kind shut few holds = absurd (cc)
before_closed limits LineStart c n pending kind shut few holds = absurd (cc)
before_closed limits BytesStart c n pending kind shut few holds = absurd (cc)
before_closed limits ChunkDue c n pending kind shut few holds = absurd (cc)
before_closed limits (Digits k v) c n pending kind shut few holds = absurd (cc)
before_closed limits (Padding v) c n pending kind shut few holds = absurd (cc)
before_closed limits (Data left) c n pending kind shut few holds = absurd (cc)
before_closed limits DataEnd c n pending kind shut few holds = absurd (cc)
before_closed limits MessageEnd c n pending kind shut few holds = absurd (cc)
before_closed limits Whole c n pending kind shut few holds = absurd (cc)
before_closed limits (Stuck reason) c n pending kind shut few holds = absurd (cc)

before_step : (limits : Limits) (segments : List Segment) (pending : List ℕ) (p : Phase) (c : Class) (b : ℕ) (shut : Option Kind) → closed p c ≡ shut → IsSafe (next_phase p c) → CanEnd limits (core (kept segments pending shut (added p c b)).0 (kept segments pending shut (added p c b)).1 (next_phase p c)) → Before limits p c (length segments) (length pending) × HoldsAll limits segments
before_step limits segments pending p c b None is safe can =
    (before_open limits p c b (length segments) (length pending) is safe can.segments (subst (HoldsUp limits.json (next_phase p c)) (length-append pending (added p c b)) can.pending), can.json)
before_step limits segments pending p c b (Some kind) is safe can =
    let all = all_prefix (λ (s : Segment). HoldsLimit limits s.kind s.bytes) segments (segment kind pending) can.json in
    let size = length-append segments (segment kind pending ∷ []) in
    (before_closed limits p c (length segments) pending kind is (omega (arith, can.segments, size)) all.1, all.0)

-- the tests of the limits, where none breaks
none_by : (limits : Limits) (r : Reading) (c : Class) → r.count < limits.total → passes_json limits.json r.phase c (length r.pending) ≡ false → (begins r.phase c && leb 2048 (length r.segments)) ≡ false → limit_fault limits r c ≡ None
none_by limits r c low fits few =
    ap (λ t. cond t (Some reasons.TooLong) (cond (passes_json limits.json r.phase c (length r.pending)) (Some reasons.JsonTooLong) (cond (begins r.phase c && leb 2048 (length r.segments)) (Some reasons.TooMany) None))) (lt-leb limits.total r.count low)
    ∙ ap (λ t. cond t (Some reasons.JsonTooLong) (cond (begins r.phase c && leb 2048 (length r.segments)) (Some reasons.TooMany) None)) fits
    ∙ ap (λ t. cond t (Some reasons.TooMany) None) few

-- a place from which bytes lead to a whole message is no fault
safe_from : (s : Core) (bytes : List ℕ) (p : Phase) → s.phase ≡ p → (walk s bytes).phase ≡ Whole → IsSafe p
safe_from s bytes (Stuck reason) at whole = let same = ap (λ q. (walk (core s.segments s.pending q) bytes).phase) at ∙ stuck_walk s.segments s.pending bytes reason in let h : Whole ≡ Stuck reason = sym whole ∙ same in cc
safe_from s bytes Due at whole = tt
safe_from s bytes Text at whole = tt
safe_from s bytes LineStart at whole = tt
safe_from s bytes JsonEnd at whole = tt
safe_from s bytes BytesStart at whole = tt
safe_from s bytes ChunkDue at whole = tt
safe_from s bytes (Digits n v) at whole = tt
safe_from s bytes (Padding v) at whole = tt
safe_from s bytes (Data left) at whole = tt
safe_from s bytes DataEnd at whole = tt
safe_from s bytes BytesEnd at whole = tt
safe_from s bytes MessageEnd at whole = tt
safe_from s bytes Whole at whole = tt

-- before a byte that is no fault nothing was done
live_before : (p : Phase) (c : Class) → IsSafe (next_phase p c) → is_done p ≡ false
live_before Whole c safe = absurd safe
live_before (Stuck reason) c safe = absurd safe
live_before Due c safe = refl
live_before Text c safe = refl
live_before LineStart c safe = refl
live_before JsonEnd c safe = refl
live_before BytesStart c safe = refl
live_before ChunkDue c safe = refl
live_before (Digits n v) c safe = refl
live_before (Padding v) c safe = refl
live_before (Data left) c safe = refl
live_before DataEnd c safe = refl
live_before BytesEnd c safe = refl
live_before MessageEnd c safe = refl

clean_back : (limits : Limits) (r : Reading) (bytes : List ℕ) (message : List Segment) (pending : List ℕ) → walk (core_of r) bytes ≡ core message pending Whole → HoldsAll limits message → length message ≤ 2048 → r.count + length bytes ≤ limits.total → Clean limits r bytes × CanEnd limits (core_of r)
clean_back limits r [] message pending is holds few room =
    (tt, subst (CanEnd limits) (sym is) (record { segments = omega (arith, few); json = holds; pending = tt }))
clean_back limits r (b ∷ bs) message pending is holds few room =
    let c = class_of b in
    let later = clean_back limits (stepped r c b) bs message pending is holds few (omega (arith, room)) in
    let next = moved (core_of r) c b in
    let safe = safe_from next bs (next_phase r.phase c) refl (ap (λ (s : Core). s.phase) is) in
    let before = before_step limits r.segments r.pending r.phase c b (closed r.phase c) refl safe later.1 in
    let none = none_by limits r c (omega (arith, room)) before.0.fits before.0.few in
    ((live_before r.phase c safe, none, later.0), record { segments = before.0.count; json = before.1; pending = before.0.pending })

-- The bytes of a spelling within the limits are let in.
pub spelt_clean : (limits : Limits) (bytes : List ℕ) (message : List Segment) → Spelt limits bytes message → Clean limits start bytes
spelt_clean limits bytes message spelt = (clean_back limits start bytes message [] (spelling_walk bytes message spelt.spelling) spelt.within.json spelt.within.count (omega (arith, spelt.within.total))).0

pub clean_run : (limits : Limits) (r : Reading) (bytes : List ℕ) → Clean limits r bytes → run limits r bytes ≡ go r bytes
clean_run limits r [] clean = refl
clean_run limits r (b ∷ bs) clean =
    ap (λ x. run limits x bs) (live_step limits r b clean.0 ∙ ap (λ o. stepped_within o r (class_of b) b) clean.1) ∙ clean_run limits (stepped r (class_of b) b) bs clean.2

-- a reading at the end of a spelling
pub record ReadsTo (r : Reading) (bytes : List ℕ) (message : List Segment) : Type 0 where
  pub phase : r.phase ≡ Whole
  pub segments : r.segments ≡ message
  pub count : r.count ≡ length bytes

pub spelt_run : (limits : Limits) (bytes : List ℕ) (message : List Segment) → Spelt limits bytes message → ReadsTo (run limits start bytes) bytes message
spelt_run limits bytes message spelt =
    let same = clean_run limits start bytes (spelt_clean limits bytes message spelt) in
    let at = core_go start bytes ∙ spelling_walk bytes message spelt.spelling in
    subst (λ (r : Reading). ReadsTo r bytes message) (sym same) (record { phase = ap (λ (s : Core). s.phase) at; segments = ap (λ (s : Core). s.segments) at; count = count_go start bytes ∙ (let e : 0 + length bytes ≡ length bytes = omega arith in e) })

-- nothing is read after it
pub run_after : (limits : Limits) (bytes after : List ℕ) → is_done (run limits start bytes).phase ≡ true → run limits start (bytes ++ after) ≡ run limits start bytes
run_after limits bytes after done = run-append limits start bytes after ∙ run_done limits (run limits start bytes) after done
