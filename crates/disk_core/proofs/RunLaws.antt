-- How a run of calls goes on, one call or one run at a time.
use Rattle.std.proofs.Common.{◌≡◌, inl, inr, ℕ, ◌+◌, ◌≤◌, ◌<◌, length, List, Option, Some, None, is_some, refl, sym, ◌∙◌, ap, subst, arith, IsSome}
use Rattle.std.proofs.lemmas.Bool.{cases_lt}
use Rattle.std.specs.Option.{ForSome}
use Rattle.std.specs.Prelude.{Result}
use Rattle.disk_core.specs.Disk.{DiskState, IsImageNow, SamePast, SameSyncs, Same, Passes, Syncs, Never, OnlyReads, Torn, WritesAt}
use Rattle.disk_core.specs.PastLaws.{torn_same}
use Rattle.disk_core.proofs.TornLaws.{torn_part}
use Rattle.disk_core.specs.Runs.{Spans, LeavesOnly, Run, LeavesAlone}

-- what a disk reports, if it reports something
pub reported : {A : Type 0} (o : Option A) → IsSome o → (x : A) × (o ≡ Some x)
reported (Some x) is = (x, refl)
reported None is = absurd (cc)

pub reports : {A : Type 0} (o : Option A) (x : A) → o ≡ Some x → IsSome o
reports o x is = ap is_some is

pub past_then : (old mid new : DiskState) → old.moment ≤ mid.moment → SamePast old mid → SamePast mid new → SamePast old new
past_then old mid new later first second = λ moment image le.
    let le_mid : moment ≤ mid.moment = omega (arith, later) in (
      (λ left. (second moment image le_mid).0 ((first moment image le).0 left)),
      (λ left. (first moment image le).1 ((second moment image le_mid).1 left)),
    )

pub syncs_same_then : (old mid new : DiskState) → old.moment ≤ mid.moment → SameSyncs old mid → SameSyncs mid new → SameSyncs old new
syncs_same_then old mid new later first second = λ moment le.
    let le_mid : moment ≤ mid.moment = omega (arith, later) in (
      (λ is. (second moment le_mid).0 ((first moment le).0 is)),
      (λ is. (first moment le).1 ((second moment le_mid).1 is)),
    )

-- a call in which no sync succeeded, and then one: syncs at the end of the second alone
pub syncs_then : (old mid new : DiskState) (Ends : ℕ → Type 0) → old.moment ≤ mid.moment
    → ((moment : ℕ) → Ends moment → mid.moment < moment) → Syncs old mid Never → Syncs mid new Ends → Syncs old new Ends
syncs_then old mid new Ends le later first second = record {
  same = syncs_same_then old mid new le first.same second.same;
  since = λ moment after. (
    (λ is. elim (cases_lt mid.moment moment) [
      | inl late ↦ (second.since moment late).0 is
      | inr early ↦ absurd ((first.since moment after).0 ((second.same moment early).1 is))
    ]),
    (λ ends. (second.since moment (later moment ends)).1 ends),
  );
}

-- before any call
pub started : (state : DiskState) (M : List ℕ → List ℕ → Type 0) → ((file : List ℕ) → M file file) → Run state state M
started state M same file is = (
  reports state.content file is,
  record {
    later = omega arith;
    same = λ moment image le. ((λ left. left), (λ left. left));
    inside = λ moment image from to left.
        let now : moment ≡ state.moment = omega arith in
        (image, subst (λ (m : ℕ). state.image_at m image) now left, same image);
  },
)

-- a call is a run
pub passes_span : (old new : DiskState) (M : List ℕ → List ℕ → Type 0) → ((file : List ℕ) → M file file) → Passes old new M → Spans old new M
passes_span old new M same passes = record {
  later = omega (arith, passes.later);
  same = passes.same;
  inside = λ moment image from to left. elim (cases_lt old.moment moment) [
    | inl after ↦ passes.inside moment image after to left
    | inr upto ↦
        let here : moment ≡ old.moment = omega arith in
        (image, subst (λ (m : ℕ). old.image_at m image) here ((passes.same moment image upto).1 left), same image)
  ];
}

-- one run after another
pub spans_then : (old mid new : DiskState) (M N : List ℕ → List ℕ → Type 0) → ((a b c : List ℕ) → M a b → N b c → M a c)
    → Spans old mid M → Spans mid new N → Spans old new M
spans_then old mid new M N joins first second = record {
  later = omega (arith, first.later, second.later);
  same = past_then old mid new first.later first.same second.same;
  inside = λ moment image from to left. elim (cases_lt mid.moment moment) [
    | inl after ↦
        let at = second.inside moment image (omega arith) to left in
        let start = first.inside mid.moment at.0 first.later (omega arith) at.1 in
        (start.0, start.1, joins start.0 at.0 image start.2 at.2)
    | inr upto ↦ first.inside moment image from upto ((second.same moment image upto).1 left)
  ];
}

pub joined : (old mid new : DiskState) (M N : List ℕ → List ℕ → Type 0) → ((a b c : List ℕ) → M a b → N b c → M a c)
    → Run old mid M → Run mid new N → Run old new M
joined old mid new M N joins first second file is =
    let later = second file is in
    let was = reported mid.content later.0 in
    let before = first was.0 was.1 in
    (before.0, spans_then old mid new M N joins before.1 later.1)

-- one call more
pub goes_on : (old mid new : DiskState) (M N : List ℕ → List ℕ → Type 0) → ((a b c : List ℕ) → M a b → N b c → M a c)
    → ((file : List ℕ) → N file file) → Run old mid M → ForSome new.content (λ _. IsSome mid.content)
    → ForSome new.content (λ _. Passes mid new N) → Run old new M
goes_on old mid new M N joins same so_far reports_on passes =
    joined old mid new M N joins so_far (λ file is. (reports_on file is, passes_span mid new N same (passes file is)))

-- one call more, which leaves the images as they are
pub goes_on_same : (old mid new : DiskState) (M : List ℕ → List ℕ → Type 0) → Run old mid M
    → ForSome new.content (λ _. IsSome mid.content) → ForSome new.content (λ _. Passes mid new Same) → Run old new M
goes_on_same old mid new M so_far reports_on passes =
    goes_on old mid new M Same (λ a b c first same. subst (λ (l : List ℕ). M a l) (sym same) first) (λ file. refl) so_far reports_on passes

-- one write more, inside the range that may be torn
pub tears_on : {T E : Type 0} (old mid new : DiskState) (place n at : ℕ) (piece : List ℕ) (result : Result T E) → place ≤ at
    → at + length piece ≤ place + n → Run old mid (Torn place n) → WritesAt mid new at piece result → Run old new (Torn place n)
tears_on old mid new place n at piece result low high so_far writes =
    goes_on old mid new (Torn place n) (Torn at (length piece)) (torn_part place n at (length piece) low high)
    (torn_same at (length piece)) so_far writes.reported writes.moves.crash

-- of a run that began settled, all that a crash leaves
pub leaves : (old new : DiskState) (M : List ℕ → List ℕ → Type 0) (P : List ℕ → Type 0) (file : List ℕ)
    → ((image : List ℕ) → IsImageNow old image → image ≡ file) → ((image : List ℕ) → M file image → P image)
    → Spans old new M → LeavesOnly old new P
leaves old new M P file settled makes span = record {
  later = span.later;
  same = span.same;
  each = λ moment image from to left.
      let at = span.inside moment image from to left in
      makes image (subst (λ (f : List ℕ). M f image) (settled at.0 at.1) at.2);
}

-- one after another
pub leaves_on : (old mid new : DiskState) (P : List ℕ → Type 0) → LeavesOnly old mid P → LeavesOnly mid new P → LeavesOnly old new P
leaves_on old mid new P first second = record {
  later = omega (arith, first.later, second.later);
  same = past_then old mid new first.later first.same second.same;
  each = λ moment image from to left. elim (cases_lt mid.moment moment) [
    | inl after ↦ second.each moment image (omega arith) to left
    | inr upto ↦ first.each moment image from upto ((second.same moment image upto).1 left)
  ];
}

-- before any call
pub alone_started : (state : DiskState) → LeavesAlone state state
alone_started state = record {
  reported = λ file is. is;
  crash = started state Same (λ file. refl);
  clock = omega arith;
  count = omega arith;
}

-- a call that only reads
pub alone_call : {T E : Type 0} (old new : DiskState) (result : Result T E) → OnlyReads old new result → LeavesAlone old new
alone_call old new result reads = record {
  reported = reads.reported;
  crash = λ file is. (
    reports old.content file (reads.reported file is),
    passes_span old new Same (λ image. refl) (reads.moves.crash file is),
  );
  clock = reads.moves.clock;
  count = reads.cause.later;
}

-- one after another
pub alone_then : (old mid new : DiskState) → LeavesAlone old mid → LeavesAlone mid new → LeavesAlone old new
alone_then old mid new first second = record {
  reported = λ file is. first.reported file (second.reported file is);
  crash = joined old mid new Same Same (λ a b c one other. other ∙ one) first.crash second.crash;
  clock = omega (arith, first.clock, second.clock);
  count = omega (arith, first.count, second.count);
}
