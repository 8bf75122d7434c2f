use Rattle.std.proofs.Common.{◌≡◌, ℕ, ◌-◌, ◌*◌, ◌≤◌, List, Some, IsSome, arith}
use Rattle.disk_core.proofs.RunLaws.{reported}
use Rattle.journal_core.proofs.Turning.{turn_writing, turn_siding, turns_by}
use Rattle.journal_core.proofs.Writing.{cause_then}
use Rattle.journal_core.proofs.compact.turn.Goals as goal

pub write_list-requires : goal.write_list-requires
write_list-requires g c =
    let within : (1 - c.args.side) * c.args.area ≤ 268435456 = grind (arith, c.requires.either, c.requires.most) in
    omega (arith, within, c.requires.most, c.requires.fits)

pub returns-in_err-write_list-clause-crash : goal.returns-in_err-write_list-clause-crash
returns-in_err-write_list-clause-crash g c =
    let state = g.D.Disk.state in
    let old = state c.args.disk.now in
    let area = c.args.area in
    let side = c.args.side in
    let rs = c.args.entries.now in
    let fits = c.requires.fits in
    let numbered = c.requires.stamps in
    let mid = state c.write_list.new.disk in
    let wrote = c.write_list.ensures in
    λ format. turn_writing format old area side rs fits numbered mid c.write_list.result wrote

pub returns-in_err-write_list-clause-reported : goal.returns-in_err-write_list-clause-reported
returns-in_err-write_list-clause-reported g c = λ last now. (c.write_list.ensures.writes.crash last now).0

pub returns-clause-crash : goal.returns-clause-crash
returns-clause-crash g c =
    let state = g.D.Disk.state in
    let old = state c.args.disk.now in
    let area = c.args.area in
    let side = c.args.side in
    let rs = c.args.entries.now in
    let fits = c.requires.fits in
    let numbered = c.requires.stamps in
    let mid = state c.write_list.new.disk in
    let wrote = c.write_list.ensures in
    let ok = c.in_ok-write_list.ensures in
    let new = state c.write_durably.new.disk in
    let last = c.write_durably.ensures.writes in
    let reports : (file : List ℕ) → new.content ≡ Some file → IsSome mid.content × IsSome old.content = λ file now.
    let between = (last.writes.crash file now).0 in
    let found = reported mid.content between in
    (between, (wrote.writes.crash found.0 found.1).0) in
    λ format. turn_siding format old area side rs fits numbered mid new ok.writes.puts ok.settled c.write_list.result c.write_durably.result wrote last

pub returns-clause-turned : goal.returns-clause-turned
returns-clause-turned g c =
    let state = g.D.Disk.state in
    let old = state c.args.disk.now in
    let area = c.args.area in
    let side = c.args.side in
    let rs = c.args.entries.now in
    let fits = c.requires.fits in
    let numbered = c.requires.stamps in
    let mid = state c.write_list.new.disk in
    let wrote = c.write_list.ensures in
    let ok = c.in_ok-write_list.ensures in
    let new = state c.write_durably.new.disk in
    let last = c.write_durably.ensures.writes in
    let reports : (file : List ℕ) → new.content ≡ Some file → IsSome mid.content × IsSome old.content = λ file now.
    let between = (last.writes.crash file now).0 in
    let found = reported mid.content between in
    (between, (wrote.writes.crash found.0 found.1).0) in
    turns_by old area side rs fits numbered mid new ok.writes.puts ok.settled c.write_durably.result reports last

pub returns-clause-reported : goal.returns-clause-reported
returns-clause-reported g c =
    let state = g.D.Disk.state in
    let old = state c.args.disk.now in
    let area = c.args.area in
    let side = c.args.side in
    let rs = c.args.entries.now in
    let fits = c.requires.fits in
    let numbered = c.requires.stamps in
    let mid = state c.write_list.new.disk in
    let wrote = c.write_list.ensures in
    let ok = c.in_ok-write_list.ensures in
    let new = state c.write_durably.new.disk in
    let last = c.write_durably.ensures.writes in
    let reports : (file : List ℕ) → new.content ≡ Some file → IsSome mid.content × IsSome old.content = λ file now.
    let between = (last.writes.crash file now).0 in
    let found = reported mid.content between in
    (between, (wrote.writes.crash found.0 found.1).0) in
    λ file now. (reports file now).1

pub returns-clause-clock : goal.returns-clause-clock
returns-clause-clock g c = omega (arith, c.write_list.ensures.writes.clock, c.write_durably.ensures.writes.writes.clock)

pub returns-clause-cause : goal.returns-clause-cause
returns-clause-cause g c = cause_then _ _ _ c.write_durably.result c.write_list.ensures.writes.cause.later c.write_durably.ensures.writes.writes.cause
