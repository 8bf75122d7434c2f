use Rattle.std.proofs.Common.{◌≡◌, length, Some, ap, arith}
use Rattle.std.specs.Prelude.{slice_get}
use Rattle.store_files.proofs.Places.{list_next}
use Rattle.store_files.proofs.place.list_length.Goals as goal

pub records-preserved : goal.records-preserved
records-preserved c =
    let rs = c.args.records.now in
    let i = c.records.index in
    let entry = c.item.result.now in
    let is : slice_get rs i ≡ Some entry = c.item.ensures in
    omega (arith, list_next rs i entry is, c.records.invariant, c.saturating_add-room.ensures, ap length c.get.ensures)
