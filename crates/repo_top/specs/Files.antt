-- What `init` and `check` do with the file at a path, and what they print.
use Rattle.std.specs.Prelude.{◌≡◌, ◌≤◌, ℕ, List, ◌++◌, length, take, codes, decimal, Option, None, Some, Result, Ok, Err}
use Rattle.std.specs.FinMap as finite
use Rattle.std.specs.Option.{ForSome}
use Rattle.std.specs.Io.KnownBytes.{Appends}
use Rattle.base_core.specs.Causes.{Rose}
use Rattle.disk_core.specs.Disk.{DiskState}
use Rattle.disk_core.specs.Runs.{LeavesAlone}
use Rattle.journal_core.specs.File.{HoldsAt, listed}
use Rattle.journal_core.specs.Init.{MakesFile, IsInitRefused}
use Rattle.journal_core.specs.Journal.{told}
use Rattle.journal_core.specs.declared.create.InitFault.{InitFault}
use Rattle.journal_core.specs.declared.create.InitFault.TheVariants as init_faults
use Rattle.journal_core.specs.declared.layout.Format.TheVariants.{Second}
use Rattle.journal_core.specs.declared.records.Record.{Record}
use Rattle.link_core.specs.Link.{SinkState}
use Rattle.link_core.specs.declared.host.HostFault.{HostFault}
use Rattle.link_core.specs.declared.host.HostFault.TheVariants as host_faults
use Rattle.repo_state.specs.Contents.{Contents}
use Rattle.repo_store.specs.Opening.{IsRefusedFor}
use Rattle.repo_store.specs.Stands.{GiveContents}
use Rattle.repo_store.specs.declared.fault.StoreFault.{StoreFault}
use Rattle.repo_store.specs.declared.fault.StoreFault.TheVariants as store_faults
use Rattle.repo_top.specs.declared.check.Numbers.{Numbers}
use Rattle.repo_top.specs.declared.file_run.FileEnd.{FileEnd}
use Rattle.repo_top.specs.declared.file_run.FileEnd.TheVariants as ends

-- all of the text was printed on a sink
pub record PrintsAll (text : List ℕ) (old new : SinkState) : Type 0 where
  pub written : Appends old.written new.written text
  pub later : old.faults ≤ new.faults

-- a prefix of the text was printed, and the sink's count of faults rose
pub record PrintsPart (text : List ℕ) (old new : SinkState) : Type 0 where
  pub count : ℕ
  pub within : count ≤ length text
  pub written : Appends old.written new.written (take count text)
  pub later : old.faults ≤ new.faults
  pub rose : Rose old.faults new.faults

-- What a run prints by its end: all of its text, at a fault of the sink a prefix of it, and else nothing.
abbrev pub Prints : FileEnd → List ℕ → SinkState → SinkState → Type 0
Prints ends.Done text old new = PrintsAll text old new
Prints ends.Out text old new = PrintsPart text old new
Prints end text old new = new ≡ old

-- the work of the run was done, and then its text was printed or not
abbrev pub IsOfPrinting : FileEnd → Type 0
IsOfPrinting ends.Done = Unit {0}
IsOfPrinting ends.Out = Unit {0}
IsOfPrinting end = ⊥

-- the end of a run whose host handed no disk out
abbrev pub end_of_host : HostFault → FileEnd
end_of_host host_faults.Failed = ends.Host
end_of_host host_faults.Memory = ends.Memory

-- What the host's call `disk` returned in a run of this end: the disk that was handed out, or why there was none.
abbrev pub handed : {D : Type 0} → Option D → FileEnd → Result D HostFault
handed (Some disk) end = Ok disk
handed None ends.Host = Err host_faults.Failed
handed None end = Err host_faults.Memory

-- the run ended for its host, which failed or was out of memory
abbrev pub IsOfHost : FileEnd → Type 0
IsOfHost ends.Host = Unit {0}
IsOfHost ends.Memory = Unit {0}
IsOfHost end = ⊥

-- The disk that was handed out is handed back, left as the end says. Without one the run ended for its host.
abbrev pub HandsBack : {D : Type 0} → (D → DiskState) → (FileEnd → DiskState → DiskState → Type 0) → FileEnd → Option D
    → Option D → Type 0
HandsBack state Leaves end (Some opened) (Some disk) = Leaves end (state opened) (state disk)
HandsBack state Leaves end None None = IsOfHost end
HandsBack state Leaves end opened disk = ⊥

-- the line that `init` prints
abbrev pub made_line : ℕ → List ℕ
made_line area = codes "made " ++ (decimal area ++ codes "\n")

-- the end of a run in which no file was made, at a disk with this count of faults
abbrev pub end_of_init : ℕ → InitFault → FileEnd
end_of_init count (init_faults.NotEmpty n) = ends.NotEmpty n
end_of_init count init_faults.DiskFault = ends.Disk count

-- What `init` leaves of a file, by its end. It made a file, also where the line was not printed. Or it made none: the
-- file has so many bytes, or the disk has failed so often.
abbrev pub InitLeaves : ℕ → FileEnd → DiskState → DiskState → Type 0
InitLeaves area ends.Done before after = MakesFile before after area
InitLeaves area ends.Out before after = MakesFile before after area
InitLeaves area (ends.NotEmpty n) before after = IsInitRefused before after (init_faults.NotEmpty n)
InitLeaves area (ends.Disk count) before after =
    IsInitRefused before after init_faults.DiskFault × (count ≡ told after.faults)
InitLeaves area end before after = ⊥

-- the five lines that `check` prints
abbrev pub number_lines : Numbers → List ℕ
number_lines n =
    codes "objects " ++ (decimal n.objects ++ (codes "\ncounter " ++ (decimal n.counter ++ (codes "\nused "
    ++ (decimal n.used ++ (codes " of " ++ (decimal n.area ++ (codes "\nside " ++ (decimal n.side
    ++ (codes "\nnumber " ++ (decimal n.number ++ codes "\n")))))))))))

-- The file stands for contents of these numbers, and its records use so many bytes of the area of this side.
pub record StandsWith (file : List ℕ) (n : Numbers) : Type 0 where
  pub contents : Contents
  pub objects : n.objects ≡ finite.len contents.objects
  pub counter : n.counter ≡ contents.counter
  pub number : n.number ≡ contents.number
  pub records : List Record
  pub give : GiveContents records contents
  pub holds : HoldsAt Second file n.area n.side records
  pub used : n.used ≡ length (listed Second records)

-- a file of these numbers was read, and is left alone
pub record IsChecked (n : Numbers) (before after : DiskState) : Type 0 where
  pub stands : ForSome before.content (λ file. StandsWith file n)
  pub alone : LeavesAlone before after

-- the end of a run whose file was refused, at a disk with this count of faults
abbrev pub end_of_store : ℕ → StoreFault → FileEnd
end_of_store count store_faults.DiskFault = ends.Disk count
end_of_store count store_faults.Memory = ends.Memory
end_of_store count fault = ends.Store fault

-- a refusal for what the bytes say
abbrev pub IsOfBytes : StoreFault → Type 0
IsOfBytes store_faults.DiskFault = ⊥
IsOfBytes store_faults.Memory = ⊥
IsOfBytes fault = Unit {0}

-- What `check` leaves of a file, by its end: it is as it was. Its numbers were read, also where they were not printed; or
-- it is refused for what its bytes say; or the disk has failed so often.
abbrev pub CheckLeaves : Numbers → FileEnd → DiskState → DiskState → Type 0
CheckLeaves n ends.Done before after = IsChecked n before after
CheckLeaves n ends.Out before after = IsChecked n before after
CheckLeaves n (ends.Store fault) before after = IsOfBytes fault × IsRefusedFor before after fault
CheckLeaves n (ends.Disk count) before after =
    IsRefusedFor before after store_faults.DiskFault × (count ≡ told after.faults)
CheckLeaves n ends.Memory before after = LeavesAlone before after
CheckLeaves n end before after = ⊥

-- `check` reads the numbers of the file, and prints them.
pub record Checks {D : Type 0} (state : D → DiskState) (opened disk : Option D) (end : FileEnd)
    (old new : SinkState) : Type 0 where
  pub numbers : Numbers
  pub file : HandsBack state (CheckLeaves numbers) end opened disk
  pub out : Prints end (number_lines numbers) old new
