-- The contents that an image stands for.
use Rattle.std.specs.Prelude.{◌≡◌, ◌⊎◌, ℕ, List}
use Rattle.journal_core.specs.declared.layout.Format.TheVariants.{Second}
use Rattle.journal_core.specs.declared.records.Record.{Record}
use Rattle.journal_core.specs.File.{Holds}
use Rattle.record_core.specs.declared.format.Format.TheVariants as bodies
use Rattle.repo_state.specs.Contents.{Contents, Stamped, replay}
use Rattle.repo_state.specs.Recorded.{AreRecordsOf}
use Rattle.repo_state.specs.Sound.{IsConsistent}
use Rattle.repo_step.specs.declared.outcome.Outcome.{Outcome}
use Rattle.repo_step.specs.declared.outcome.Outcome.TheVariants.{Done, NoMemory, DiskFault, Closed}

-- records of changes that give these contents, which are consistent
pub record GiveContents (records : List Record) (c : Contents) : Type 0 where
  pub changes : List Stamped
  pub are : AreRecordsOf bodies.Second records changes
  pub gives : replay changes ≡ c
  pub consistent : IsConsistent c

-- the image holds records that give these contents
pub record Stands (image : List ℕ) (c : Contents) : Type 0 where
  pub records : List Record
  pub holds : Holds Second image records
  pub give : GiveContents records c

-- The image stands for the contents before a turn, or for those after its change.
abbrev pub StandsEither : Contents → Contents → List ℕ → Type 0
StandsEither before after image = Stands image before ⊎ Stands image after

-- What a crash during a turn of this outcome may leave: one that is neither done nor met a disk fault left the disk alone.
abbrev pub LeftBy : Outcome → Contents → Contents → List ℕ → Type 0
LeftBy Done before after image = StandsEither before after image
LeftBy DiskFault before after image = StandsEither before after image
LeftBy NoMemory before after image = Stands image before
LeftBy Closed before after image = Stands image before
