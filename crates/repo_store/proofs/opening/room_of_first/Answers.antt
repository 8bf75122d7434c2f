use Rattle.std.proofs.Common.{◌≡◌, length, Some, ap, arith}
use Rattle.std.specs.Prelude.{slice_get}
use Rattle.repo_store.proofs.Opened.{room_next}
use Rattle.repo_store.proofs.opening.room_of_first.Goals as goal

pub records-preserved : goal.records-preserved
records-preserved c =
    let rs = c.args.records.now in
    let i = c.records.index in
    let entry = c.item.result.now in
    let is : slice_get rs i ≡ Some entry = c.item.ensures in
    omega (arith, room_next rs i entry is, c.records.invariant, c.saturating_add-room.ensures, ap length c.get.ensures)
