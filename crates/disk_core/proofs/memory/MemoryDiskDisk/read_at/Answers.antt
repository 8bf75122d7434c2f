use Rattle.std.proofs.Common.{◌≡◌, arith, ap, ◌∙◌, Some, drop, take, length, length-drop, List, ℕ}
use Rattle.disk_core.specs.Memory.{content_of}
use Rattle.disk_core.specs.PastLaws.{reported_by}
use Rattle.disk_core.proofs.PastLemmas.{content_same, moves_none, reads_failed}
use Rattle.disk_core.proofs.memory.MemoryDiskDisk.read_at.Goals as goal

pub returns-in_err-pass-clause-disk : goal.returns-in_err-pass-clause-disk
returns-in_err-pass-clause-disk c =
    let pass = c.in_err-pass.ensures in
    reads_failed _ _ _ _ _ c.in_err-pass.field-0.0 c.from_residual.ensures.0 pass.reported
    (moves_none _ _ _ pass.clock pass.crash pass.listed.noted_last (λ ends. absurd (cc))) pass.cause

pub returns-clause-disk : goal.returns-clause-disk
returns-clause-disk c =
    let pass = c.in_ok-pass.ensures in
    let was = c.args.self.now in
    let now = c.pass.new.self in
    let same : (file : List ℕ) → content_of was ≡ Some file → c.deref.result.now ≡ file = λ file reported.
    c.deref.ensures.value ∙ ap (λ v. v.items) pass.file ∙ (reported_by _ was.file.items file reported).1 in
    let count = c.copy_from.ensures.count in
    record {
      bound = omega (arith, count);
      bytes = λ file reported.
          c.copy_from.ensures.bytes ∙ ap (λ (l : List ℕ). take c.copy_from.result (drop c.args.place l)) (same file reported);
      within = λ file reported. omega (arith, count, ap length (same file reported), length-drop c.args.place file);
      ended = λ file reported. omega (arith, count, ap length (same file reported));
      reads = record {
        same = content_same now.starved was.starved now.file.items was.file.items pass.ok (ap (λ v. v.items) pass.file);
        reported = pass.reported;
        moves = moves_none _ _ _ pass.clock pass.crash pass.listed.noted_last (λ ends. absurd (cc));
        cause = record { later = pass.cause.later; failed = tt };
      };
    }
