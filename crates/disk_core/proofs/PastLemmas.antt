-- One more call in a log.
use Rattle.base_core.specs.Causes.{HasCause}
use Rattle.std.specs.Option.{ForSome}
use Rattle.std.specs.Prelude.{IsErr, if◌then◌else◌, ◌==◌, None}
use Rattle.std.proofs.Common.{Option, Some, Result, Ok, Err, ◌≡◌, ◌≢◌, ℕ, ◌+◌, ◌≤◌, Bool, true, false, List, [], ◌∷◌, ◌++◌, length, reverse, take, refl, sym, ◌∙◌, ap, subst, arith, length-append}
use Rattle.std.proofs.lemmas.List.{take-append-le, take_all, reverse-append}
use Rattle.disk_core.specs.Disk.{DiskState, Torn, Same, Passes, Syncs, Never, Moves, ReadsAt}
use Rattle.disk_core.specs.Past.{past_of, Leaves, LeavesBy, file_after, IsImage, IsImageAt, EndsInSync}
use Rattle.disk_core.specs.PastLaws.{reads}
use Rattle.disk_core.specs.declared.calls.DiskCall.{DiskCall}
use Rattle.disk_core.specs.declared.calls.DiskCall.TheVariants.{Length, ReadAt, WriteAt, Sync}
use Rattle.disk_core.specs.declared.calls.Noted.{Noted}

-- what a call other than a write leaves is an image from before it
pub leaves_same : (call : DiskCall) (done : Bool) (place : ℕ) (piece file : List ℕ) (images : List ℕ → Type 0) (image : List ℕ)
    → call ≢ WriteAt → images file → Leaves call done place piece file images image → images image
leaves_same Length done place piece file images image other here left = left
leaves_same ReadAt done place piece file images image other here left = left
leaves_same WriteAt done place piece file images image other here left = absurd (other refl)
leaves_same Sync true place piece file images image other here left = subst images (sym left) here
leaves_same Sync false place piece file images image other here left = left

module _ (start : List ℕ) (calls : List Noted) (noted : Noted) where
  abbrev more : List Noted
  more = calls ++ noted ∷ []

  whole : take (length calls + 1) more ≡ more
  whole = take_all (length calls + 1) more (omega (arith, length-append calls (noted ∷ [])))

  newest : reverse (take (length calls + 1) more) ≡ noted ∷ reverse calls
  newest = ap reverse whole ∙ reverse-append calls (noted ∷ [])

  -- at the moment of the call, an image is what it leaves
  at_end : (image : List ℕ) → IsImageAt start more (length calls + 1) image
      → LeavesBy noted (file_after start (reverse calls)) (IsImage start (reverse calls)) image
  at_end image left = subst (λ (l : List Noted). IsImage start l image) newest left

  before_end : (image : List ℕ) → IsImage start (reverse calls) image → IsImageAt start calls (length calls) image
  before_end image left = subst (λ (l : List Noted). IsImage start (reverse l) image) (sym (take_all (length calls) calls (omega arith))) left

  pub passes_by : {content content-2 : Option (List ℕ)} {faults faults-2 : ℕ} (Makes : List ℕ → List ℕ → Type 0)
      → ((image : List ℕ) → LeavesBy noted (file_after start (reverse calls)) (IsImage start (reverse calls)) image
      → (old : List ℕ) × IsImage start (reverse calls) old × Makes old image)
      → Passes (past_of content faults start calls) (past_of content-2 faults-2 start more) Makes
  passes_by Makes makes =
      let long : length more ≡ length calls + 1 = length-append calls (noted ∷ []) in
      let stays : (moment : ℕ) → moment ≤ length calls → take moment more ≡ take moment calls =
      λ moment le. take-append-le moment calls (noted ∷ []) le in
      record {
        later = omega (arith, long);
        same = λ moment image le. (
          (λ left. subst (λ (l : List Noted). IsImage start (reverse l) image) (sym (stays moment le)) left),
          (λ left. subst (λ (l : List Noted). IsImage start (reverse l) image) (stays moment le) left),
        );
        inside = λ moment image after le left.
            let last : moment ≡ length calls + 1 = omega (arith, long) in
            let from = makes image (at_end image (subst (λ (m : ℕ). IsImageAt start more m image) last left)) in
            (from.0, before_end from.0 from.1, from.2);
      }

-- of a log that is known to be one call longer: a call that isn't a write
pub passes_same_in : {content content-2 : Option (List ℕ)} {faults faults-2 : ℕ} (start : List ℕ) (calls later : List Noted)
    (noted : Noted) → later ≡ calls ++ noted ∷ [] → noted.call ≢ WriteAt
    → Passes (past_of content faults start calls) (past_of content-2 faults-2 start later) Same
passes_same_in {content = content} {content-2 = content-2} {faults = faults} {faults-2 = faults-2} start calls later noted is other =
    let before : List ℕ = file_after start (reverse calls) in
    let images : List ℕ → Type 0 = IsImage start (reverse calls) in
    subst (λ (l : List Noted). Passes (past_of content faults start calls) (past_of content-2 faults-2 start l) Same) (sym is)
    (passes_by start calls noted Same (λ image left.
    (image, leaves_same noted.call noted.done noted.place noted.bytes before images image other (reads start (reverse calls)) left, refl)))

-- a write
pub passes_torn_in : {content content-2 : Option (List ℕ)} {faults faults-2 : ℕ} (start : List ℕ) (calls later : List Noted)
    (done : Bool) (place : ℕ) (piece : List ℕ)
    → later ≡ calls ++ (record { call = WriteAt; done = done; place = place; bytes = piece }) ∷ []
    → Passes (past_of content faults start calls) (past_of content-2 faults-2 start later) (Torn place (length piece))
passes_torn_in {content = content} {content-2 = content-2} {faults = faults} {faults-2 = faults-2} start calls later done place piece is =
    let Makes : List ℕ → List ℕ → Type 0 = Torn place (length piece) in
    subst (λ (l : List Noted). Passes (past_of content faults start calls) (past_of content-2 faults-2 start l) Makes) (sym is)
    (passes_by start calls (record { call = WriteAt; done = done; place = place; bytes = piece }) Makes (λ image left. left))

-- a sync that was done is one at the log's new end, and nothing else changes
pub syncs_in : {content content-2 : Option (List ℕ)} {faults faults-2 : ℕ} {start : List ℕ} (calls later : List Noted)
    (noted : Noted) → later ≡ calls ++ noted ∷ []
    → Syncs (past_of content faults start calls) (past_of content-2 faults-2 start later)
    (λ moment. (EndsInSync (noted ∷ [])) × (moment ≡ length later))
syncs_in calls later noted is =
    let long : length later ≡ length calls + 1 = ap length is ∙ length-append calls (noted ∷ []) in
    let stays : (moment : ℕ) → moment ≤ length calls → take moment later ≡ take moment calls =
    λ moment le. ap (take moment) is ∙ take-append-le moment calls (noted ∷ []) le in
    let last : reverse (take (length later) later) ≡ noted ∷ reverse calls =
    ap reverse (take_all (length later) later (omega arith) ∙ is) ∙ reverse-append calls (noted ∷ []) in
    record {
      same = λ moment le. (
        (λ synced. (omega (arith, long, le), subst (λ (l : List Noted). EndsInSync (reverse l)) (sym (stays moment le)) synced.1)),
        (λ synced. (le, subst (λ (l : List Noted). EndsInSync (reverse l)) (stays moment le) synced.1)),
      );
      since = λ moment after. (
        (λ synced.
            let here : moment ≡ length later = omega (arith, long, synced.0) in
            (subst EndsInSync last (subst (λ (m : ℕ). EndsInSync (reverse (take m later))) here synced.1), here)),
        (λ ends. (
          omega (arith, ends.1),
          subst (λ (m : ℕ). EndsInSync (reverse (take m later))) (sym ends.1) (subst EndsInSync (sym last) ends.0),
        )),
      );
    }

-- any other call is no sync that was done
pub syncs_none_in : {content content-2 : Option (List ℕ)} {faults faults-2 : ℕ} {start : List ℕ} (calls later : List Noted)
    (noted : Noted) → later ≡ calls ++ noted ∷ [] → (EndsInSync (noted ∷ []) → ⊥)
    → Syncs (past_of content faults start calls) (past_of content-2 faults-2 start later) Never
syncs_none_in {content = content} {content-2 = content-2} {faults = faults} {faults-2 = faults-2} {start = start} calls later noted is none =
    let all = syncs_in {content = content} {content-2 = content-2} {faults = faults} {faults-2 = faults-2} {start = start} calls later noted is in
    record {
      same = all.same;
      since = λ moment after. ((λ synced. none ((all.since moment after).0 synced).0), (λ never. absurd never));
    }

-- the clock of a log that is one call longer
pub clock_in : (calls later : List Noted) (noted : Noted) → later ≡ calls ++ noted ∷ [] → length calls ≤ length later
clock_in calls later noted is = omega (arith, ap length is, length-append calls (noted ∷ []))

-- a call other than a sync, of a disk that need not report its content
pub moves_none : {content content-2 : Option (List ℕ)} {faults faults-2 : ℕ} {start start-2 : List ℕ} (calls later : List Noted)
    (noted : Noted) → length calls ≤ length later
    → ForSome content-2 (λ _. Passes (past_of content faults start calls) (past_of content-2 faults-2 start-2 later) Same)
    → ForSome content-2 (λ _. later ≡ calls ++ noted ∷ []) → (EndsInSync (noted ∷ []) → ⊥)
    → Moves (past_of content faults start calls) (past_of content-2 faults-2 start-2 later) Same Never
moves_none {content = content} {content-2 = content-2} {faults = faults} {faults-2 = faults-2} {start = start} calls later noted le passes is none = record {
  clock = le;
  crash = passes;
  syncs = λ file reported.
      let quiet = syncs_none_in {content = content} {content-2 = content-2} {faults = faults} {faults-2 = faults-2} {start = start} calls later noted (is file reported) none in
      record { same = quiet.same; since = quiet.since };
}

-- a read that failed
pub reads_failed : {U E : Type 0} (old new : DiskState) (place : ℕ) (into : List ℕ) (result : Result ℕ E) (fault : E)
    → IsErr result → ForSome new.content (λ file. old.content ≡ Some file) → Moves old new Same Never
    → HasCause {T = U} {E = E} old.faults new.faults (Err fault) → ReadsAt old new place into result
reads_failed old new place into (Ok n) fault is reported moves cause = absurd (cc)
reads_failed old new place into (Err other) fault is reported moves cause = record {
  bound = tt;
  bytes = tt;
  within = tt;
  ended = tt;
  reads = record { same = tt; reported = reported; moves = moves; cause = record { later = cause.later; failed = cause.failed } };
}

-- what is reported of one file by one count
pub content_same : (n m : ℕ) (file other : List ℕ) → n ≡ m → file ≡ other
    → (if n == 0 then Some file else None) ≡ (if m == 0 then Some other else None)
content_same n m file other first second =
    ap (λ (k : ℕ). if k == 0 then Some file else None) first ∙ ap (λ (l : List ℕ). if m == 0 then Some l else None) second
