-- A byte leaves the decoder's buffers large enough.
use Rattle.std.proofs.Common.{◌≡◌, ℕ, zero, suc, ◌+◌, ◌-◌, ◌*◌, ◌≤◌, ◌<◌, ◌^◌, length, Bool, true, false, Option, Some, None, refl, ap, ◌∙◌, arith, cond, ltb, leb, ◌&&◌}
use Rattle.std.proofs.Math.Nat.{pow-suc, pow-le-pow_right}
use Rattle.doip_segment.specs.declared.kind.Kind.{Kind}
use Rattle.doip_segment.specs.declared.class.Class.{Class}
use Rattle.doip_segment.specs.declared.class.Class.TheVariants.{LineFeed, Blank, Hash, At, Digit, Other}
use Rattle.doip_segment.specs.declared.outcome.Limits.{Limits}
use Rattle.doip_segment.specs.declared.outcome.Reason.TheVariants as reasons
use Rattle.doip_segment.specs.declared.phase.Phase.{Phase}
use Rattle.doip_segment.specs.declared.phase.Phase.TheVariants.{Due, Text, LineStart, JsonEnd, BytesStart, ChunkDue, Digits, Padding, Data, DataEnd, BytesEnd, MessageEnd, Whole, Stuck}
use Rattle.doip_segment.specs.Segments.{Held}
use Rattle.std.proofs.lemmas.Bool.{leb-false}
use borrow.Author.Tests.{ltb-true}
use Rattle.doip_segment.specs.Machine.{Reading, limit_fault, passes_json, data_due, next_phase, added, closed, begins, IsInRange}
use Rattle.doip_segment.specs.Advance.{held_back, opened, Fits}

-- one for a segment that is closed or begun
abbrev pub closes : Option Kind → ℕ
closes None = 0
closes (Some kind) = 1

abbrev pub starts : Bool → ℕ
starts true = 1
starts false = 0

data_held : (v : ℕ) → held_back (data_due v) ≡ 0
data_held zero = refl
data_held (suc v) = refl

data_opened : (v : ℕ) → opened (data_due v) ≡ 1
data_opened zero = refl
data_opened (suc v) = refl

digits_held : (more : Bool) (n v : ℕ) → held_back (cond more (Digits n v) (Stuck reasons.Length)) ≡ 0
digits_held true n v = refl
digits_held false n v = refl

digits_opened : (more : Bool) (n v : ℕ) → opened (cond more (Digits n v) (Stuck reasons.Length)) ≤ 1
digits_opened true n v = omega arith
digits_opened false n v = omega arith

-- what a byte adds, and holds back, is one byte and what was held back before
pub held_step : (p : Phase) (c : Class) (b : ℕ) → length (added p c b) + held_back (next_phase p c) ≤ held_back p + 1
held_step (Digits n v) LineFeed b = omega (arith, data_held v)
held_step (Digits n v) (Digit d) b = omega (arith, digits_held (ltb n 10) (n + 1) (10 * v + d))
held_step (Padding v) LineFeed b = omega (arith, data_held v)
held_step (Data left) c b = omega (arith, data_held (left - 1))
held_step Due LineFeed b = omega arith
held_step Due Blank b = omega arith
held_step Due Hash b = omega arith
held_step Due At b = omega arith
held_step Due (Digit d) b = omega arith
held_step Due Other b = omega arith
held_step Text LineFeed b = omega arith
held_step Text Blank b = omega arith
held_step Text Hash b = omega arith
held_step Text At b = omega arith
held_step Text (Digit d) b = omega arith
held_step Text Other b = omega arith
held_step LineStart LineFeed b = omega arith
held_step LineStart Blank b = omega arith
held_step LineStart Hash b = omega arith
held_step LineStart At b = omega arith
held_step LineStart (Digit d) b = omega arith
held_step LineStart Other b = omega arith
held_step JsonEnd LineFeed b = omega arith
held_step JsonEnd Blank b = omega arith
held_step JsonEnd _ b = omega arith
held_step BytesStart LineFeed b = omega arith
held_step BytesStart Blank b = omega arith
held_step BytesStart _ b = omega arith
held_step ChunkDue LineFeed b = omega arith
held_step ChunkDue Hash b = omega arith
held_step ChunkDue (Digit d) b = omega arith
held_step ChunkDue _ b = omega arith
held_step (Digits n v) _ b = omega arith
held_step (Padding v) _ b = omega arith
held_step DataEnd LineFeed b = omega arith
held_step DataEnd _ b = omega arith
held_step BytesEnd LineFeed b = omega arith
held_step BytesEnd Blank b = omega arith
held_step BytesEnd _ b = omega arith
held_step MessageEnd LineFeed b = omega arith
held_step MessageEnd Blank b = omega arith
held_step MessageEnd _ b = omega arith
held_step Whole _ b = omega arith
held_step (Stuck reason) _ b = omega arith

-- a segment is open until it is closed
pub opened_step : (p : Phase) (c : Class) → opened (next_phase p c) + closes (closed p c) ≤ opened p + starts (begins p c)
opened_step (Digits n v) LineFeed = omega (arith, data_opened v)
opened_step (Digits n v) (Digit d) = omega (arith, digits_opened (ltb n 10) (n + 1) (10 * v + d))
opened_step (Padding v) LineFeed = omega (arith, data_opened v)
opened_step (Data left) c = omega (arith, data_opened (left - 1))
opened_step Due LineFeed = omega arith
opened_step Due Blank = omega arith
opened_step Due Hash = omega arith
opened_step Due At = omega arith
opened_step Due (Digit d) = omega arith
opened_step Due Other = omega arith
opened_step Text LineFeed = omega arith
opened_step Text _ = omega arith
opened_step LineStart LineFeed = omega arith
opened_step LineStart Hash = omega arith
opened_step LineStart _ = omega arith
opened_step JsonEnd LineFeed = omega arith
opened_step JsonEnd Blank = omega arith
opened_step JsonEnd _ = omega arith
opened_step BytesStart LineFeed = omega arith
opened_step BytesStart Blank = omega arith
opened_step BytesStart _ = omega arith
opened_step ChunkDue LineFeed = omega arith
opened_step ChunkDue Hash = omega arith
opened_step ChunkDue (Digit d) = omega arith
opened_step ChunkDue _ = omega arith
opened_step (Digits n v) _ = omega arith
opened_step (Padding v) _ = omega arith
opened_step DataEnd LineFeed = omega arith
opened_step DataEnd _ = omega arith
opened_step BytesEnd LineFeed = omega arith
opened_step BytesEnd Blank = omega arith
opened_step BytesEnd _ = omega arith
opened_step MessageEnd LineFeed = omega arith
opened_step MessageEnd Blank = omega arith
opened_step MessageEnd _ = omega arith
opened_step Whole _ = omega arith
opened_step (Stuck reason) _ = omega arith

power_step : (n v d : ℕ) → v < 10 ^ n → d ≤ 9 → 10 * v + d < 10 ^ (n + 1)
power_step n v d low small =
    let next : 10 ^ (n + 1) ≡ 10 ^ n * 10 = ap (λ k. 10 ^ k) (let e : n + 1 ≡ suc n = omega arith in e) ∙ pow-suc 10 n in
    omega (arith, next)

power_low : (n v : ℕ) → n ≤ 10 → v < 10 ^ n → v < 10 ^ 10
power_low n v most low = let more : 10 ^ n ≤ 10 ^ 10 = pow-le-pow_right (omega arith) most in omega (arith, more)

data_range : (v : ℕ) → v < 10 ^ 10 → IsInRange (data_due v)
data_range zero low = tt
data_range (suc v) low = (omega arith, low)

digits_range : (n v d : ℕ) (more : Bool) → ltb n 10 ≡ more → v < 10 ^ n → d ≤ 9 → IsInRange (cond more (Digits (n + 1) (10 * v + d)) (Stuck reasons.Length))
digits_range n v d false e low small = tt
digits_range n v d true e low small = (omega (arith, ltb-true n 10 e), power_step n v d low small)

pub range_step : (p : Phase) (c : Class) → IsInRange p → ((d : ℕ) → c ≡ Digit d → d ≤ 9) → IsInRange (next_phase p c)
range_step (Digits n v) LineFeed is small = data_range v (power_low n v is.0 is.1)
range_step (Digits n v) Blank is small = power_low n v is.0 is.1
range_step (Digits n v) (Digit d) is small = digits_range n v d (ltb n 10) refl is.1 (small d refl)
range_step (Digits n v) _ is small = tt
range_step (Padding v) LineFeed is small = data_range v is
range_step (Padding v) Blank is small = is
range_step (Padding v) _ is small = tt
range_step (Data left) c is small = data_range (left - 1) (omega (arith, is.1))
range_step Due LineFeed is small = tt
range_step Due Blank is small = tt
range_step Due Hash is small = tt
range_step Due At is small = tt
range_step Due (Digit d) is small = tt
range_step Due Other is small = tt
range_step Text LineFeed is small = tt
range_step Text _ is small = tt
range_step LineStart LineFeed is small = tt
range_step LineStart Hash is small = tt
range_step LineStart _ is small = tt
range_step JsonEnd LineFeed is small = tt
range_step JsonEnd Blank is small = tt
range_step JsonEnd _ is small = tt
range_step BytesStart LineFeed is small = tt
range_step BytesStart Blank is small = tt
range_step BytesStart _ is small = tt
range_step ChunkDue (Digit d) is small = let one : d < 10 = omega (arith, small d refl) in (omega arith, one)
range_step ChunkDue Hash is small = tt
range_step ChunkDue _ is small = tt
range_step DataEnd LineFeed is small = tt
range_step DataEnd _ is small = tt
range_step BytesEnd LineFeed is small = tt
range_step BytesEnd Blank is small = tt
range_step BytesEnd _ is small = tt
range_step MessageEnd LineFeed is small = tt
range_step MessageEnd Blank is small = tt
range_step MessageEnd _ is small = tt
range_step Whole _ is small = tt
range_step (Stuck reason) _ is small = tt

pub few_step : (p : Phase) (c : Class) (n : ℕ) → n + opened p ≤ 2048 → (begins p c ≡ true → n < 2048) → n + opened p + starts (begins p c) ≤ 2048
few_step Due At n le few = omega (arith, few refl)
few_step Due (Digit d) n le few = omega (arith, few refl)
few_step Due Other n le few = omega (arith, few refl)
few_step Due LineFeed n le few = omega arith
few_step Due Blank n le few = omega arith
few_step Due Hash n le few = omega arith
few_step Text _ n le few = omega arith
few_step LineStart _ n le few = omega arith
few_step JsonEnd _ n le few = omega arith
few_step BytesStart _ n le few = omega arith
few_step ChunkDue _ n le few = omega arith
few_step (Digits k v) _ n le few = omega arith
few_step (Padding v) _ n le few = omega arith
few_step (Data v) _ n le few = omega arith
few_step DataEnd _ n le few = omega arith
few_step BytesEnd _ n le few = omega arith
few_step MessageEnd _ n le few = omega arith
few_step Whole _ n le few = omega arith
few_step (Stuck reason) _ n le few = omega arith

-- a byte that breaks no limit
pub record IsLetIn (limits : Limits) (r : Reading) (c : Class) : Type 0 where
  pub total : r.count < limits.total
  pub json : passes_json limits.json r.phase c (length r.pending) ≡ false
  pub few : begins r.phase c ≡ true → length r.segments < 2048

few_of : (b m : Bool) (n : ℕ) → leb 2048 n ≡ m → (b && m) ≡ false → b ≡ true → n < 2048
few_of true false n e both is = leb-false 2048 n e
few_of true true n e both is = absurd (let h : true ≡ false = both in cc)
few_of false m n e both is = absurd (let h : false ≡ true = is in cc)

let_in : (limits : Limits) (r : Reading) (c : Class) (t j m : Bool) → leb limits.total r.count ≡ t → passes_json limits.json r.phase c (length r.pending) ≡ j → (begins r.phase c && leb 2048 (length r.segments)) ≡ m → cond t (Some reasons.TooLong) (cond j (Some reasons.JsonTooLong) (cond m (Some reasons.TooMany) None)) ≡ None → IsLetIn limits r c
let_in limits r c true j m et ej em is = absurd (cc)
let_in limits r c false true m et ej em is = absurd (cc)
let_in limits r c false false true et ej em is = absurd (cc)
let_in limits r c false false false et ej em is = record {
  total = leb-false limits.total r.count et;
  json = ej;
  few = few_of (begins r.phase c) (leb 2048 (length r.segments)) (length r.segments) refl em;
}

pub none_left : (limits : Limits) (r : Reading) (c : Class) → limit_fault limits r c ≡ None → IsLetIn limits r c
none_left limits r c is = let_in limits r c (leb limits.total r.count) (passes_json limits.json r.phase c (length r.pending)) (begins r.phase c && leb 2048 (length r.segments)) refl refl refl is

pub fits_step : (limits : Limits) (old new : Held) (p : Phase) (n : ℕ) (c : Class) (b : ℕ) → Fits limits old p n → n < limits.total → (begins p c ≡ true → length old.segments < 2048) → ((d : ℕ) → c ≡ Digit d → d ≤ 9) → old.capacity ≤ new.capacity → old.slots ≤ new.slots → new.used ≡ old.used + length (added p c b) → length new.segments ≡ length old.segments + closes (closed p c) → Fits limits new (next_phase p c) (n + 1)
fits_step limits old new p n c b fits room few small capacity slots used segments =
    let held = held_step p c b in
    let open_ = opened_step p c in
    let most = few_step p c (length old.segments) fits.segments few in
    record {
      total = fits.total;
      capacity = omega (arith, fits.capacity);
      slots = omega (arith, fits.slots);
      used = omega (arith, held, fits.used);
      count = omega arith;
      segments = omega (arith, open_, most);
      range = range_step p c fits.range small;
    }

-- the byte that closes a segment is no content
pub closed_adds : (p : Phase) (c : Class) (b : ℕ) (k : Kind) → closed p c ≡ Some k → length (added p c b) ≡ 0
closed_adds JsonEnd LineFeed b k is = refl
closed_adds BytesEnd LineFeed b k is = refl
closed_adds JsonEnd Blank b k is = refl
closed_adds JsonEnd Hash b k is = refl
closed_adds JsonEnd At b k is = refl
closed_adds JsonEnd (Digit d) b k is = refl
closed_adds JsonEnd Other b k is = refl
closed_adds BytesEnd Blank b k is = refl
closed_adds BytesEnd Hash b k is = refl
closed_adds BytesEnd At b k is = refl
closed_adds BytesEnd (Digit d) b k is = refl
closed_adds BytesEnd Other b k is = refl
closed_adds Due c b k is = absurd (cc)
closed_adds Text c b k is = absurd (cc)
closed_adds LineStart c b k is = absurd (cc)
closed_adds BytesStart c b k is = absurd (cc)
closed_adds ChunkDue c b k is = absurd (cc)
closed_adds (Digits n v) c b k is = absurd (cc)
closed_adds (Padding v) c b k is = absurd (cc)
closed_adds (Data v) c b k is = absurd (cc)
closed_adds DataEnd c b k is = absurd (cc)
closed_adds MessageEnd c b k is = absurd (cc)
closed_adds Whole c b k is = absurd (cc)
closed_adds (Stuck reason) c b k is = absurd (cc)
