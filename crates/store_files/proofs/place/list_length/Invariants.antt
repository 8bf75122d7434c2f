use Rattle.std.proofs.Common.{◌≡◌, length, take}
use Rattle.journal_core.specs.File.{listed}
use Rattle.journal_core.specs.Journal.{told}
use Rattle.journal_core.specs.declared.layout.Format.TheVariants.{First}
use Rattle.store_files.proofs.place.list_length.Given as goal

abbrev pub invariant-records : goal.invariant-records
invariant-records l = l.room ≡ told (length (listed First (take l.index l.records)))
