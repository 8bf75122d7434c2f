use Rattle.std.proofs.Common.{◌≡◌, ◌≢◌, ℕ, ◌-◌, ◌<◌, length, List, Some, sym, ap, subst, arith}
use Rattle.std.specs.Prelude.{slice_get}
use Rattle.std.proofs.lemmas.List.{nil_from_length}
use Rattle.disk_core.specs.Disk.{Torn}
use Rattle.disk_core.specs.Runs.{Run}
use Rattle.disk_core.specs.PastLaws.{torn_same}
use Rattle.disk_core.proofs.RunLaws.{started}
use Rattle.journal_core.specs.File.{staged_records}
use Rattle.journal_core.specs.Journal.{room_for}
use Rattle.journal_core.specs.Steps.{staged}
use Rattle.journal_core.proofs.Staging.{room_within, stage_next, stage_end}
use Rattle.journal_core.proofs.Writing.{made_none, tears_in, durably_failed}
use Rattle.journal_core.proofs.Written.{length-staged, length-staged_records, room_next}
use Rattle.journal_core.proofs.steps.stage_all.Goals as goal

pub entries-init : goal.entries-init
entries-init g c =
    let state = g.D.Disk.state in
    let place = c.args.place in
    let n : ℕ = room_for c.args.entries.now in
    record {
      at = omega arith;
      made = made_none (state c.args.disk.now) place;
      crash = started _ (Torn place n) (torn_same place n);
      clock = omega arith;
      count = omega arith;
    }

pub stage-requires : goal.stage-requires
stage-requires g c =
    let rs = c.args.entries.now in
    let entry = c.item-entry.result.now in
    let within : c.entries.index < length rs = omega (arith, c.entries-test.true, c.len-last.ensures) in
    omega (arith, c.requires.room, c.entries.invariant.at, room_within rs c.entries.index entry within c.item-entry.ensures, ap length c.get.ensures)

pub returns-in_err-stage : goal.returns-in_err-stage
returns-in_err-stage g c =
    let state = g.D.Disk.state in
    let rs = c.args.entries.now in
    let place = c.args.place in
    let entry = c.item-entry.result.now in
    let inv = c.entries.invariant in
    let within : c.entries.index < length rs = omega (arith, c.entries-test.true, c.len-last.ensures) in
    let room = room_within rs c.entries.index entry within c.item-entry.ensures in
    let size = length-staged_records rs c.requires.some in
    let piece : List ℕ = staged entry.stamp c.get.result.now 1 in
    let run = tears_in _ _ _ place (room_for rs) c.entries.place (length piece) (omega (arith, inv.at))
    (omega (arith, inv.at, room, length-staged entry.stamp c.get.result.now 1, ap length c.get.ensures)) inv.crash c.stage.ensures.crash in
    durably_failed (state c.args.disk.now) (state c.stage.new.disk) place (staged_records rs) _ c.from_residual.ensures.0
    (subst (λ (n : ℕ). Run (state c.args.disk.now) (state c.stage.new.disk) (Torn place n)) (sym size) run)
    (omega (arith, inv.clock, c.stage.ensures.clock)) (omega (arith, inv.count, c.stage.ensures.cause.later)) (omega (arith, inv.count, c.in_err-stage.ensures.cause.failed))

pub entries-preserved : goal.entries-preserved
entries-preserved g c =
    let state = g.D.Disk.state in
    let rs = c.args.entries.now in
    let place = c.args.place in
    let entry = c.item-entry.result.now in
    let inv = c.entries.invariant in
    let within : c.entries.index < length rs = omega (arith, c.entries-test.true, c.len-last.ensures) in
    let room = room_within rs c.entries.index entry within c.item-entry.ensures in
    let piece : List ℕ = staged entry.stamp c.get.result.now 1 in
    let same : length c.get-in-entries.result.now ≡ length c.get.result.now = omega (arith, ap length c.get-in-entries.ensures, ap length c.get.ensures) in
    record {
      at = omega (arith, inv.at, room_next rs c.entries.index entry within c.item-entry.ensures, ap length c.get-in-entries.ensures);
      made = rw same (stage_next (state c.args.disk.now) (state c.entries.disk) (state c.stage.new.disk) place c.entries.place c.entries.index rs entry c.get.result.now within c.item-entry.ensures c.get.ensures inv.made c.in_ok-stage.ensures.puts);
      crash = tears_in _ _ _ place (room_for rs) c.entries.place (length piece) (omega (arith, inv.at))
          (omega (arith, inv.at, room, length-staged entry.stamp c.get.result.now 1, ap length c.get.ensures)) inv.crash c.in_ok-stage.ensures.crash;
      clock = omega (arith, inv.clock, c.stage.ensures.clock);
      count = omega (arith, inv.count, c.stage.ensures.cause.later);
    }

pub stage_one-requires : goal.stage_one-requires
stage_one-requires g c =
    let rs = c.args.entries.now in
    let entry = c.item-entry-2.result.now in
    let inv = c.entries.invariant in
    let some : length rs ≢ 0 = λ none. c.requires.some (nil_from_length rs none) in
    let last : c.entries.index ≡ length rs - 1 = omega (arith, c.entries-test.false, c.entries.auto.index-end, c.len-last.ensures) in
    let within : c.entries.index < length rs = omega (arith, some, last) in
    let here : c.entries.index ≡ c.len-last.result - 1 = omega (arith, last, c.len-last.ensures) in
    let is : slice_get rs c.entries.index ≡ Some entry = rw here c.item-entry-2.ensures in
    omega (arith, c.requires.room, inv.at, ap length c.get-2.ensures, room_within rs c.entries.index entry within is)

pub returns : goal.returns
returns g c =
    let state = g.D.Disk.state in
    let rs = c.args.entries.now in
    let entry = c.item-entry-2.result.now in
    let inv = c.entries.invariant in
    let some : length rs ≢ 0 = λ none. c.requires.some (nil_from_length rs none) in
    let last : c.entries.index ≡ length rs - 1 = omega (arith, c.entries-test.false, c.entries.auto.index-end, c.len-last.ensures) in
    let here : c.entries.index ≡ c.len-last.result - 1 = omega (arith, last, c.len-last.ensures) in
    let is : slice_get rs c.entries.index ≡ Some entry = rw here c.item-entry-2.ensures in
    stage_end (state c.args.disk.now) (state c.entries.disk) (state c.stage_one.new.disk) c.args.place c.entries.place c.entries.index rs entry c.get-2.result.now c.stage_one.result
    (omega (arith, last, some)) is c.get-2.ensures inv.at inv.made inv.crash inv.clock inv.count c.stage_one.ensures
