use Rattle.std.proofs.Common.{◌≡◌, ℕ, ◌+◌, ◌∷◌, ◌++◌, ◌<◌, List, [], length, take, Ok, refl, sym, ap, subst, arith, length-append}
use Rattle.std.proofs.lemmas.List.{append-nil, take_all}
use Rattle.std.specs.List.{flat_map}
use Rattle.base_core.specs.declared.failed.Failed.{Failed}
use Rattle.disk_core.specs.Disk.{Torn}
use Rattle.disk_core.specs.PastLaws.{torn_same}
use Rattle.disk_core.proofs.RunLaws.{started}
use Rattle.journal_core.specs.Buffer.{held_in, Gathered, Gathers}
use Rattle.journal_core.specs.File.{opened, written_list}
use Rattle.journal_core.specs.Journal.{room_for}
use Rattle.journal_core.specs.declared.layout.Format.TheVariants.{Second}
use Rattle.journal_core.specs.declared.records.Record.{Record}
use Rattle.journal_core.proofs.Gathering.{length-held, wider, gathered_keep, gathers_then, flushed, flat_more}
use Rattle.journal_core.proofs.Staging.{room_within}
use Rattle.journal_core.proofs.Turning.{length-written_list}
use Rattle.journal_core.proofs.Writing.{durably_failed, tears_in, then_sync}
use Rattle.journal_core.proofs.Written.{length-opened, room_is}
use Rattle.journal_core.proofs.compact.write_list.Goals as goal

pub returns-in_err-add : goal.returns-in_err-add
returns-in_err-add g c =
    let state = g.D.Disk.state in
    let old = state c.args.disk.now in
    let place = c.args.place in
    let rs = c.args.entries.now in
    let whole : List ℕ = written_list rs in
    let long : length whole ≡ 2 + room_for rs = length-written_list rs in
    let b0 = c.begin.new.self in
    let start = c.begin.ensures.start in
    let none = c.begin.ensures.count in
    let s1 = state c.add.new.disk in
    let b1 = c.add.new.self in
    durably_failed old s1 place whole _ c.from_residual.ensures.0 (wider old s1 place (length whole) b0.start (b0.count + length {A = ℕ} (2 ∷ [])) (omega (arith, start)) (omega (arith, start, none, long)) c.add.ensures.crash)
    c.add.ensures.clock c.add.ensures.cause.later c.in_err-add.ensures.cause.failed

pub entries-init : goal.entries-init
entries-init g c =
    let s1 = g.D.Disk.state c.add.new.disk in
    let b1 = c.add.new.self in
    record {
      gathered = gathered_keep s1 b1 b1 [] refl (omega arith) (sym (append-nil (held_in b1)));
      crash = started s1 (Torn b1.start (b1.count + 0)) (torn_same b1.start (b1.count + 0));
      clock = omega arith;
      count = omega arith;
    }

pub add_record-requires : goal.add_record-requires
add_record-requires g c =
    let rs = c.args.entries.now in
    let entry = c.item-entry.result.now in
    let within : c.entries.index < length rs = omega (arith, c.entries-test.true, c.len-index-end.ensures) in
    omega (
      arith,
      c.requires,
      c.entries.invariant.gathered.end,
      c.in_ok-add.ensures.gathered.end,
      c.begin.ensures.start,
      c.begin.ensures.count,
      room_is (take c.entries.index rs),
      room_within rs c.entries.index entry within c.item-entry.ensures,
      ap length c.get.ensures,
    )

pub returns-in_err-add_record : goal.returns-in_err-add_record
returns-in_err-add_record g c =
    let state = g.D.Disk.state in
    let old = state c.args.disk.now in
    let place = c.args.place in
    let rs = c.args.entries.now in
    let whole : List ℕ = written_list rs in
    let long : length whole ≡ 2 + room_for rs = length-written_list rs in
    let b0 = c.begin.new.self in
    let start = c.begin.ensures.start in
    let none = c.begin.ensures.count in
    let s1 = state c.add.new.disk in
    let b1 = c.add.new.self in
    let g1 = c.in_ok-add.ensures in
    let inv = c.entries.invariant in
    let s2 = state c.entries.disk in
    let b2 = c.entries.buffer in
    let done : List ℕ = flat_map (opened Second) (take c.entries.index rs) in
    let size : length done ≡ room_for (take c.entries.index rs) = room_is (take c.entries.index rs) in
    let part : Gathers {T = Unit {0}} {E = Failed} s1 s2 b1 b2 done (Ok tt) = record { gathered = inv.gathered; crash = inv.crash; clock = inv.clock; cause = record { later = inv.count; failed = tt } } in
    let g2 = gathers_then old s1 s2 b0 b1 b2 (2 ∷ []) done (Ok tt) g1.gathered g1.crash g1.clock g1.cause.later part in
    let entry = c.item-entry.result.now in
    let within : c.entries.index < length rs = omega (arith, c.entries-test.true, c.len-index-end.ensures) in
    let r : Record = record { stamp = entry.stamp; body = c.get.result.now } in
    let s3 = state c.add_record.new.disk in
    let b3 = c.add_record.new.self in
    let e = gathers_then old s2 s3 b0 b2 b3 ((2 ∷ []) ++ done) (opened Second r) c.add_record.result g2.gathered g2.crash g2.clock g2.cause.later c.add_record.ensures in
    durably_failed old s3 place whole _ c.from_residual-in_err-add_record.ensures.0
    (wider old s3 place (length whole) b0.start (b0.count + length (((2 ∷ []) ++ done) ++ opened Second r)) (omega (arith, start))
    (omega (arith, start, none, long, length-append ((2 ∷ []) ++ done) (opened Second r), size, length-opened r, room_within rs c.entries.index entry within c.item-entry.ensures, ap length c.get.ensures)) e.crash)
    e.clock e.cause.later (omega (arith, g2.cause.later, c.in_err-add_record.ensures.cause.failed))

pub entries-preserved : goal.entries-preserved
entries-preserved g c =
    let state = g.D.Disk.state in
    let old = state c.args.disk.now in
    let place = c.args.place in
    let rs = c.args.entries.now in
    let whole : List ℕ = written_list rs in
    let long : length whole ≡ 2 + room_for rs = length-written_list rs in
    let b0 = c.begin.new.self in
    let start = c.begin.ensures.start in
    let none = c.begin.ensures.count in
    let s1 = state c.add.new.disk in
    let b1 = c.add.new.self in
    let g1 = c.in_ok-add.ensures in
    let inv = c.entries.invariant in
    let s2 = state c.entries.disk in
    let b2 = c.entries.buffer in
    let done : List ℕ = flat_map (opened Second) (take c.entries.index rs) in
    let size : length done ≡ room_for (take c.entries.index rs) = room_is (take c.entries.index rs) in
    let part : Gathers {T = Unit {0}} {E = Failed} s1 s2 b1 b2 done (Ok tt) = record { gathered = inv.gathered; crash = inv.crash; clock = inv.clock; cause = record { later = inv.count; failed = tt } } in
    let g2 = gathers_then old s1 s2 b0 b1 b2 (2 ∷ []) done (Ok tt) g1.gathered g1.crash g1.clock g1.cause.later part in
    let entry = c.item-entry.result.now in
    let within : c.entries.index < length rs = omega (arith, c.entries-test.true, c.len-index-end.ensures) in
    let r : Record = record { stamp = entry.stamp; body = c.get.result.now } in
    let s3 = state c.add_record.new.disk in
    let b3 = c.add_record.new.self in
    let more = flat_more rs c.entries.index entry c.get.result.now within c.item-entry.ensures c.get.ensures in
    let next = gathers_then s1 s2 s3 b1 b2 b3 done (opened Second r) _ inv.gathered inv.crash inv.clock inv.count c.in_ok-add_record.ensures in
    let moved = subst (λ (l : List ℕ). Gathers {T = Unit {0}} {E = Failed} s1 s3 b1 b3 l (Ok tt)) more next in
    record { gathered = moved.gathered; crash = moved.crash; clock = moved.clock; count = moved.cause.later }

pub add-requires-2 : goal.add-requires-2
add-requires-2 g c =
    let rs = c.args.entries.now in
    let all : take c.entries.index rs ≡ rs = take_all c.entries.index rs (omega (arith, c.entries-test.false, c.len-index-end.ensures)) in
    omega (arith, c.requires, c.entries.invariant.gathered.end, c.in_ok-add.ensures.gathered.end, c.begin.ensures.start, c.begin.ensures.count, room_is (take c.entries.index rs), ap room_for all)

pub returns-in_err-add-2 : goal.returns-in_err-add-2
returns-in_err-add-2 g c =
    let state = g.D.Disk.state in
    let old = state c.args.disk.now in
    let place = c.args.place in
    let rs = c.args.entries.now in
    let whole : List ℕ = written_list rs in
    let long : length whole ≡ 2 + room_for rs = length-written_list rs in
    let b0 = c.begin.new.self in
    let start = c.begin.ensures.start in
    let none = c.begin.ensures.count in
    let s1 = state c.add.new.disk in
    let b1 = c.add.new.self in
    let g1 = c.in_ok-add.ensures in
    let inv = c.entries.invariant in
    let s2 = state c.entries.disk in
    let b2 = c.entries.buffer in
    let done : List ℕ = flat_map (opened Second) (take c.entries.index rs) in
    let size : length done ≡ room_for (take c.entries.index rs) = room_is (take c.entries.index rs) in
    let part : Gathers {T = Unit {0}} {E = Failed} s1 s2 b1 b2 done (Ok tt) = record { gathered = inv.gathered; crash = inv.crash; clock = inv.clock; cause = record { later = inv.count; failed = tt } } in
    let g2 = gathers_then old s1 s2 b0 b1 b2 (2 ∷ []) done (Ok tt) g1.gathered g1.crash g1.clock g1.cause.later part in
    let all : take c.entries.index rs ≡ rs = take_all c.entries.index rs (omega (arith, c.entries-test.false, c.len-index-end.ensures)) in
    let s3 = state c.add-2.new.disk in
    let b3 = c.add-2.new.self in
    let e = gathers_then old s2 s3 b0 b2 b3 ((2 ∷ []) ++ done) (0 ∷ []) c.add-2.result g2.gathered g2.crash g2.clock g2.cause.later c.add-2.ensures in
    durably_failed old s3 place whole _ c.from_residual-in_err-add-2.ensures.0
    (wider old s3 place (length whole) b0.start (b0.count + length (((2 ∷ []) ++ done) ++ 0 ∷ [])) (omega (arith, start))
    (omega (arith, start, none, long, length-append ((2 ∷ []) ++ done) (0 ∷ []), size, ap room_for all)) e.crash)
    e.clock e.cause.later (omega (arith, g2.cause.later, c.in_err-add-2.ensures.cause.failed))

pub flush-requires : goal.flush-requires
flush-requires g c =
    let rs = c.args.entries.now in
    let all : take c.entries.index rs ≡ rs = take_all c.entries.index rs (omega (arith, c.entries-test.false, c.len-index-end.ensures)) in
    omega (arith, c.requires, c.in_ok-add-2.ensures.gathered.end, c.entries.invariant.gathered.end, c.in_ok-add.ensures.gathered.end, c.begin.ensures.start, c.begin.ensures.count, room_is (take c.entries.index rs), ap room_for all)

pub returns-in_err-flush : goal.returns-in_err-flush
returns-in_err-flush g c =
    let state = g.D.Disk.state in
    let old = state c.args.disk.now in
    let place = c.args.place in
    let rs = c.args.entries.now in
    let whole : List ℕ = written_list rs in
    let long : length whole ≡ 2 + room_for rs = length-written_list rs in
    let b0 = c.begin.new.self in
    let start = c.begin.ensures.start in
    let none = c.begin.ensures.count in
    let s1 = state c.add.new.disk in
    let b1 = c.add.new.self in
    let g1 = c.in_ok-add.ensures in
    let inv = c.entries.invariant in
    let s2 = state c.entries.disk in
    let b2 = c.entries.buffer in
    let done : List ℕ = flat_map (opened Second) (take c.entries.index rs) in
    let size : length done ≡ room_for (take c.entries.index rs) = room_is (take c.entries.index rs) in
    let part : Gathers {T = Unit {0}} {E = Failed} s1 s2 b1 b2 done (Ok tt) = record { gathered = inv.gathered; crash = inv.crash; clock = inv.clock; cause = record { later = inv.count; failed = tt } } in
    let g2 = gathers_then old s1 s2 b0 b1 b2 (2 ∷ []) done (Ok tt) g1.gathered g1.crash g1.clock g1.cause.later part in
    let all : take c.entries.index rs ≡ rs = take_all c.entries.index rs (omega (arith, c.entries-test.false, c.len-index-end.ensures)) in
    let s3 = state c.add-2.new.disk in
    let b3 = c.add-2.new.self in
    let pieces : ((2 ∷ []) ++ done) ++ 0 ∷ [] ≡ whole = ap (λ (l : List Record). 2 ∷ (flat_map (opened Second) l ++ 0 ∷ [])) all in
    let g3 = gathers_then old s2 s3 b0 b2 b3 ((2 ∷ []) ++ done) (0 ∷ []) _ g2.gathered g2.crash g2.clock g2.cause.later c.in_ok-add-2.ensures in
    let s4 = state c.flush.new.disk in
    let flush = c.flush.ensures.writes in
    let run = tears_in old s3 s4 place (length whole) b3.start (length (held_in b3)) (omega (arith, start, g3.gathered.low)) (omega (arith, start, none, g3.gathered.end, length-held b3, ap length pieces))
    (wider old s3 place (length whole) b0.start (b0.count + length (((2 ∷ []) ++ done) ++ 0 ∷ [])) (omega (arith, start)) (omega (arith, start, none, ap length pieces)) g3.crash) flush.crash in
    durably_failed old s4 place whole _ c.from_residual-in_err-flush.ensures.0 run (omega (arith, g3.clock, flush.clock)) (omega (arith, g3.cause.later, flush.cause.later))
    (omega (arith, g3.cause.later, c.in_err-flush.ensures.writes.cause.failed))

pub returns : goal.returns
returns g c =
    let state = g.D.Disk.state in
    let old = state c.args.disk.now in
    let place = c.args.place in
    let rs = c.args.entries.now in
    let whole : List ℕ = written_list rs in
    let long : length whole ≡ 2 + room_for rs = length-written_list rs in
    let b0 = c.begin.new.self in
    let start = c.begin.ensures.start in
    let none = c.begin.ensures.count in
    let s1 = state c.add.new.disk in
    let b1 = c.add.new.self in
    let g1 = c.in_ok-add.ensures in
    let inv = c.entries.invariant in
    let s2 = state c.entries.disk in
    let b2 = c.entries.buffer in
    let done : List ℕ = flat_map (opened Second) (take c.entries.index rs) in
    let size : length done ≡ room_for (take c.entries.index rs) = room_is (take c.entries.index rs) in
    let part : Gathers {T = Unit {0}} {E = Failed} s1 s2 b1 b2 done (Ok tt) = record { gathered = inv.gathered; crash = inv.crash; clock = inv.clock; cause = record { later = inv.count; failed = tt } } in
    let g2 = gathers_then old s1 s2 b0 b1 b2 (2 ∷ []) done (Ok tt) g1.gathered g1.crash g1.clock g1.cause.later part in
    let all : take c.entries.index rs ≡ rs = take_all c.entries.index rs (omega (arith, c.entries-test.false, c.len-index-end.ensures)) in
    let s3 = state c.add-2.new.disk in
    let b3 = c.add-2.new.self in
    let pieces : ((2 ∷ []) ++ done) ++ 0 ∷ [] ≡ whole = ap (λ (l : List Record). 2 ∷ (flat_map (opened Second) l ++ 0 ∷ [])) all in
    let g3 = gathers_then old s2 s3 b0 b2 b3 ((2 ∷ []) ++ done) (0 ∷ []) _ g2.gathered g2.crash g2.clock g2.cause.later c.in_ok-add-2.ensures in
    let s4 = state c.flush.new.disk in
    let flush = c.flush.ensures.writes in
    let run = tears_in old s3 s4 place (length whole) b3.start (length (held_in b3)) (omega (arith, start, g3.gathered.low)) (omega (arith, start, none, g3.gathered.end, length-held b3, ap length pieces))
    (wider old s3 place (length whole) b0.start (b0.count + length (((2 ∷ []) ++ done) ++ 0 ∷ [])) (omega (arith, start)) (omega (arith, start, none, ap length pieces)) g3.crash) flush.crash in
    let gathered = subst (Gathered old s3 b0 b3) pieces g3.gathered in
    then_sync old s4 (state c.sync.new.self) place whole c.sync.result (flushed old s3 s4 b0 b3 place whole gathered start none c.in_ok-flush.ensures.writes.puts) run
    (omega (arith, g3.clock, flush.clock)) (omega (arith, g3.cause.later, flush.cause.later)) c.sync.ensures
