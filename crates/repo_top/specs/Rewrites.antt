-- What `compact` and `migrate` do with the file at a path, and what they print.
use Rattle.std.specs.Prelude.{◌≡◌, ℕ, List, ◌++◌, codes, decimal, Option, Result, Ok, Err}
use Rattle.disk_core.specs.Disk.{DiskState}
use Rattle.journal_core.specs.Journal.{told}
use Rattle.journal_core.specs.declared.journal.Room.{Room}
use Rattle.link_core.specs.Link.{SinkState}
use Rattle.repo_store.specs.declared.fault.StoreFault.TheVariants as store_faults
use Rattle.store_files.specs.declared.fault.RewriteFault.{RewriteFault}
use Rattle.store_files.specs.declared.fault.RewriteFault.TheVariants as rewrites
use Rattle.store_files.specs.declared.migration.Migration.{Migration}
use Rattle.store_files.specs.declared.migration.Migration.TheVariants as migrations
use Rattle.repo_top.specs.declared.file_run.FileEnd.{FileEnd}
use Rattle.repo_top.specs.declared.file_run.FileEnd.TheVariants as ends
use Rattle.repo_top.specs.Files.{HandsBack, IsOfBytes, Prints, end_of_store}

-- the line that `compact` prints
abbrev pub used_line : Room → List ℕ
used_line room = codes "used " ++ (decimal room.used ++ (codes " of " ++ (decimal room.area ++ codes "\n")))

-- the line that `migrate` prints
abbrev pub migrated_line : Migration → List ℕ
migrated_line (migrations.Done objects) = codes "migrated " ++ (decimal objects ++ codes "\n")
migrated_line migrations.Already = codes "already 2\n"

-- the end of a run whose file was not written anew, at a disk with this count of faults
abbrev pub end_of_rewrite : ℕ → RewriteFault → FileEnd
end_of_rewrite count (rewrites.Store fault) = end_of_store count fault
end_of_rewrite count (rewrites.Full used asked) = ends.Full used asked

module _ {T : Type 0} (Does : DiskState → DiskState → Result T RewriteFault → Type 0) where
  -- What a command that writes a file anew leaves of it, by its end. It was done, also where the line was not printed; or
  -- it was not, and the disk has failed so often.
  abbrev pub RewriteLeaves : T → FileEnd → DiskState → DiskState → Type 0
  RewriteLeaves done ends.Done before after = Does before after (Ok done)
  RewriteLeaves done ends.Out before after = Does before after (Ok done)
  RewriteLeaves done (ends.Store fault) before after = IsOfBytes fault × Does before after (Err (rewrites.Store fault))
  RewriteLeaves done (ends.Full used asked) before after = Does before after (Err (rewrites.Full used asked))
  RewriteLeaves done (ends.Disk count) before after =
      Does before after (Err (rewrites.Store store_faults.DiskFault)) × (count ≡ told after.faults)
  RewriteLeaves done ends.Memory before after = Does before after (Err (rewrites.Store store_faults.Memory))
  RewriteLeaves done end before after = ⊥

  -- The file is written anew, and a line is printed of it.
  pub record Rewrites {D : Type 0} (state : D → DiskState) (line : T → List ℕ) (opened disk : Option D) (end : FileEnd)
      (old new : SinkState) : Type 0 where
    pub done : T
    pub file : HandsBack state (RewriteLeaves done) end opened disk
    pub out : Prints end (line done) old new
