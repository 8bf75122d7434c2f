use Rattle.std.proofs.Common.{◌≢◌, refl, ◌+◌, ◌≤◌, List, [], arith}
use Rattle.std.specs.List.{All}
use Rattle.std.proofs.lemmas.List.Elements.{All-cons, All-nil}
use Rattle.disk_core.proofs.RunLaws.{reported}
use Rattle.journal_core.specs.File.{Fits}
use Rattle.journal_core.specs.Journal.{area_of, used_of, gate_of, one, room_for}
use Rattle.journal_core.specs.declared.layout.Format.TheVariants.{Second}
use Rattle.journal_core.specs.declared.records.Record.{Record}
use Rattle.journal_core.proofs.Adding.{survives_idle, survives_staging, survives_opening, adds, at_gate, of_gate, some_one}
use Rattle.journal_core.proofs.journal.Journal.commit.Goals as goal

pub returns-then-self-room-clause-crash : goal.returns-then-self-room-clause-crash
returns-then-self-room-clause-crash g c = survives_idle c.args.self.now (one c.args.stamp c.args.body.now)

pub returns-in_err-stage_one-clause-crash : goal.returns-in_err-stage_one-clause-crash
returns-in_err-stage_one-clause-crash g c =
    let was = c.args.self.now in
    let state = g.D.Disk.state in
    let more : List Record = one c.args.stamp c.args.body.now in
    let is = c.gate-gate.ensures in
    survives_staging was more (state c.stage_one.new.disk) c.stage_one.result (at_gate (state was.disk) (state c.stage_one.new.disk) _ (gate_of was) _ _ is c.stage_one.ensures)

pub returns-in_err-write_durably-clause-crash : goal.returns-in_err-write_durably-clause-crash
returns-in_err-write_durably-clause-crash g c =
    let was = c.args.self.now in
    let state = g.D.Disk.state in
    let more : List Record = one c.args.stamp c.args.body.now in
    let is = c.gate-gate.ensures in
    let some : more ≢ [] = some_one c.args.stamp c.args.body.now in
    let numbered : All (Fits Second) more = All-cons (Fits Second) _ [] (c.requires.number, c.room_of_one-room.ensures.time) (All-nil (Fits Second)) in
    let fits : used_of was + (room_for more + 1) ≤ area_of was = omega (arith, c.if-self-room.false, c.room_of_one-room.ensures.room) in
    let staged = at_gate _ _ _ (gate_of was) _ _ is c.in_ok-stage_one.ensures in
    survives_opening was more (state c.stage_one.new.disk) some numbered fits staged.writes.puts staged.settled (state c.write_durably.new.disk) _ c.write_durably.result staged
    (of_gate (state c.stage_one.new.disk) (state c.write_durably.new.disk) _ (gate_of was) _ _ is c.write_durably.ensures.writes)

pub returns-clause-crash : goal.returns-clause-crash
returns-clause-crash g c =
    let was = c.args.self.now in
    let state = g.D.Disk.state in
    let more : List Record = one c.args.stamp c.args.body.now in
    let is = c.gate-gate.ensures in
    let some : more ≢ [] = some_one c.args.stamp c.args.body.now in
    let numbered : All (Fits Second) more = All-cons (Fits Second) _ [] (c.requires.number, c.room_of_one-room.ensures.time) (All-nil (Fits Second)) in
    let fits : used_of was + (room_for more + 1) ≤ area_of was = omega (arith, c.if-self-room.false, c.room_of_one-room.ensures.room) in
    let staged = at_gate _ _ _ (gate_of was) _ _ is c.in_ok-stage_one.ensures in
    survives_opening was more (state c.stage_one.new.disk) some numbered fits staged.writes.puts staged.settled (state c.write_durably.new.disk) _ c.write_durably.result staged
    (of_gate (state c.stage_one.new.disk) (state c.write_durably.new.disk) _ (gate_of was) _ _ is c.write_durably.ensures.writes)

pub returns-clause-added : goal.returns-clause-added
returns-clause-added g c =
    let was = c.args.self.now in
    let state = g.D.Disk.state in
    let more : List Record = one c.args.stamp c.args.body.now in
    let is = c.gate-gate.ensures in
    let some : more ≢ [] = some_one c.args.stamp c.args.body.now in
    let numbered : All (Fits Second) more = All-cons (Fits Second) _ [] (c.requires.number, c.room_of_one-room.ensures.time) (All-nil (Fits Second)) in
    let fits : used_of was + (room_for more + 1) ≤ area_of was = omega (arith, c.if-self-room.false, c.room_of_one-room.ensures.room) in
    let staged = at_gate _ _ _ (gate_of was) _ _ is c.in_ok-stage_one.ensures in
    let opened = of_gate _ _ _ (gate_of was) _ _ is c.in_ok-write_durably.ensures.writes in
    adds was more (state c.stage_one.new.disk) some numbered fits staged.writes.puts staged.settled _
    (λ last now.
    let later = opened.writes.crash last now in
    let mid = reported (state c.stage_one.new.disk).content later.0 in
    (later.0, (staged.writes.crash mid.0 mid.1).0))
    opened.writes.puts opened.settled c.of.result.number c.of.ensures refl refl (omega (arith, c.room_of_one-room.ensures.room, fits))
