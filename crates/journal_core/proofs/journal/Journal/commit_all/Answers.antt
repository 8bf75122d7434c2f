use Rattle.std.proofs.Common.{◌≡◌, ◌≢◌, ◌↔◌, refl, ◌+◌, ◌≤◌, Bool, true, false, List, [], arith}
use Rattle.std.specs.Prelude.{IsTrue}
use Rattle.std.specs.List.{All}
use Rattle.disk_core.proofs.RunLaws.{reported}
use Rattle.journal_core.specs.File.{Fits}
use Rattle.journal_core.specs.Journal.{area_of, used_of, gate_of, one, room_for}
use Rattle.journal_core.specs.declared.layout.Format.TheVariants.{Second}
use Rattle.journal_core.specs.declared.records.Record.{Record}
use Rattle.journal_core.proofs.Adding.{survives_idle, survives_staging, survives_opening, adds, adds_none, at_gate, of_gate, fitting_all}
use Rattle.journal_core.proofs.journal.Journal.commit_all.Goals as goal

not_empty : (empty : Bool) (P : Type 0) → IsTrue empty ↔ P → empty ≡ false → P → ⊥
not_empty empty P is none p = both empty (is.1 p) none
  where
    both : (b : Bool) → b ≡ true → b ≡ false → ⊥
    both b one other = absurd (cc)

pub returns-then-is_empty-clause-crash : goal.returns-then-is_empty-clause-crash
returns-then-is_empty-clause-crash g c = survives_idle c.args.self.now c.args.entries.now

pub returns-then-is_empty-clause-added : goal.returns-then-is_empty-clause-added
returns-then-is_empty-clause-added g c = adds_none c.args.self.now c.args.entries.now c.of.result.number (c.is_empty.ensures.0 c.if-is_empty.true) c.of.ensures

pub returns-then-self-room-clause-crash : goal.returns-then-self-room-clause-crash
returns-then-self-room-clause-crash g c = survives_idle c.args.self.now (c.args.entries.now)

pub returns-in_err-stage_all-clause-crash : goal.returns-in_err-stage_all-clause-crash
returns-in_err-stage_all-clause-crash g c =
    let was = c.args.self.now in
    let state = g.D.Disk.state in
    let more : List Record = c.args.entries.now in
    let is = c.gate-gate.ensures in
    survives_staging was more (state c.stage_all.new.disk) c.stage_all.result (at_gate (state was.disk) (state c.stage_all.new.disk) _ (gate_of was) _ _ is c.stage_all.ensures)

pub returns-in_err-write_durably-clause-crash : goal.returns-in_err-write_durably-clause-crash
returns-in_err-write_durably-clause-crash g c =
    let was = c.args.self.now in
    let state = g.D.Disk.state in
    let more : List Record = c.args.entries.now in
    let is = c.gate-gate.ensures in
    let some : more ≢ [] = (λ none. absurd (not_empty c.is_empty.result _ c.is_empty.ensures c.if-is_empty.false none)) in
    let numbered : All (Fits Second) more = fitting_all c.args.entries.now c.requires.numbers c.room_of-room.ensures.times in
    let fits : used_of was + (room_for more + 1) ≤ area_of was = omega (arith, c.if-self-room.false, c.room_of-room.ensures.room) in
    let staged = at_gate _ _ _ (gate_of was) _ _ is c.in_ok-stage_all.ensures in
    survives_opening was more (state c.stage_all.new.disk) some numbered fits staged.writes.puts staged.settled (state c.write_durably.new.disk) _ c.write_durably.result staged
    (of_gate (state c.stage_all.new.disk) (state c.write_durably.new.disk) _ (gate_of was) _ _ is c.write_durably.ensures.writes)

pub returns-clause-crash : goal.returns-clause-crash
returns-clause-crash g c =
    let was = c.args.self.now in
    let state = g.D.Disk.state in
    let more : List Record = c.args.entries.now in
    let is = c.gate-gate.ensures in
    let some : more ≢ [] = (λ none. absurd (not_empty c.is_empty.result _ c.is_empty.ensures c.if-is_empty.false none)) in
    let numbered : All (Fits Second) more = fitting_all c.args.entries.now c.requires.numbers c.room_of-room.ensures.times in
    let fits : used_of was + (room_for more + 1) ≤ area_of was = omega (arith, c.if-self-room.false, c.room_of-room.ensures.room) in
    let staged = at_gate _ _ _ (gate_of was) _ _ is c.in_ok-stage_all.ensures in
    survives_opening was more (state c.stage_all.new.disk) some numbered fits staged.writes.puts staged.settled (state c.write_durably.new.disk) _ c.write_durably.result staged
    (of_gate (state c.stage_all.new.disk) (state c.write_durably.new.disk) _ (gate_of was) _ _ is c.write_durably.ensures.writes)

pub returns-clause-added : goal.returns-clause-added
returns-clause-added g c =
    let was = c.args.self.now in
    let state = g.D.Disk.state in
    let more : List Record = c.args.entries.now in
    let is = c.gate-gate.ensures in
    let some : more ≢ [] = (λ none. absurd (not_empty c.is_empty.result _ c.is_empty.ensures c.if-is_empty.false none)) in
    let numbered : All (Fits Second) more = fitting_all c.args.entries.now c.requires.numbers c.room_of-room.ensures.times in
    let fits : used_of was + (room_for more + 1) ≤ area_of was = omega (arith, c.if-self-room.false, c.room_of-room.ensures.room) in
    let staged = at_gate _ _ _ (gate_of was) _ _ is c.in_ok-stage_all.ensures in
    let opened = of_gate _ _ _ (gate_of was) _ _ is c.in_ok-write_durably.ensures.writes in
    adds was more (state c.stage_all.new.disk) some numbered fits staged.writes.puts staged.settled _
    (λ last now.
    let later = opened.writes.crash last now in
    let mid = reported (state c.stage_all.new.disk).content later.0 in
    (later.0, (staged.writes.crash mid.0 mid.1).0))
    opened.writes.puts opened.settled c.of-2.result.number c.of-2.ensures refl refl (omega (arith, c.room_of-room.ensures.room, fits))
