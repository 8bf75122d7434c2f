-- The start of `answer`: its accounts, its disk and its store.
use Rattle.std.specs.Prelude.{◌≡◌, ◌≤◌, ◌-◌, ◌^◌, ◌⊎◌, ℕ, min, List, Option, None, Some, IsSome, is_some, Result, MatchResult, IfOk, IsErrOf}
use Rattle.std.specs.Option.{ForSome}
use Rattle.base_core.specs.Causes.{Rose}
use Rattle.acl_core.specs.Known.{Known}
use Rattle.command_line.specs.Command.{AnswerCommand, IsService, prefix_of}
use Rattle.disk_core.specs.Disk.{DiskState}
use Rattle.disk_core.specs.Runs.{LeavesAlone}
use Rattle.disk_core.specs.declared.disk.Disk.{Ghosts}
use Rattle.doip_segment.specs.declared.outcome.Limits.{Limits}
use Rattle.ext_ops.specs.Offered.{Offered}
use Rattle.link_core.specs.Host.{HostState, Holdings, CallCounts, IsDiskOf, asked_disk, bytes_of, file_at, files_without, with_files}
use Rattle.link_core.specs.declared.host.HostFault.{HostFault}
use Rattle.link_core.specs.declared.host.HostFault.TheVariants as host_faults
use Rattle.repo_step.specs.Setting.{Setting}
use Rattle.repo_store.specs.Opening.{IsRefusedFor, Opens}
use Rattle.repo_store.specs.Store.{Seen}
use Rattle.repo_store.specs.declared.fault.StoreFault.{StoreFault}
use Rattle.repo_store.specs.declared.fault.StoreFault.TheVariants as faults
use Rattle.repo_top.specs.AccountsFile.{AreAccounts, AsksOnce, WasRead}
use Rattle.repo_top.specs.declared.outcome.NoSession.{NoSession}
use Rattle.repo_top.specs.declared.outcome.NoSession.TheVariants as reasons
use Rattle.repo_top.specs.Files.{IsOfBytes}
use Rattle.repo_top.specs.Run.{Counted}

-- the bounds of what `answer` is given
pub record IsInBounds (command : AnswerCommand) : Type 0 where
  pub service : IsService command.service
  pub port : (1 ≤ command.port) × (command.port ≤ 65535)
  pub least : 64 ≤ command.request
  pub most : command.request ≤ 16777216

-- The repository is set up as the command says, on a host that holds this, and with extensions that offer this.
pub record IsSetUp (command : AnswerCommand) (holds : Option Holdings) (offers : Offered) (setting : Setting)
    (limits : Limits) : Type 0 where
  pub service : setting.service ≡ command.service
  pub prefix : setting.prefix ≡ prefix_of command.service
  pub address : setting.address ≡ command.address
  pub port : setting.port ≡ command.port
  pub accounts : AreAccounts command.accounts holds setting.accounts
  pub extensions : setting.extensions ≡ offers
  pub total : limits.total ≡ command.request
  pub json : limits.json ≡ min limits.total 1048576

-- The disk is there only if the command names a file. It had no fault as it was handed out, and a host that reports what
-- it holds handed out the file at the path.
pub record IsOpened {E : Type 0} (state : E → DiskState) (path : Option (List ℕ)) (holds : Option Holdings)
    (opened : Option E) : Type 0 where
  pub named : IsSome opened → IsSome path
  pub no_fault : ForSome opened (λ disk. (state disk).faults ≡ 0)
  pub file : (h : Holdings) (name : List ℕ) → holds ≡ Some h → path ≡ Some name
      → ForSome opened (λ disk. IsDiskOf (bytes_of (file_at name h.files)) (state disk))

-- no call was made, or the file at the path was asked for, if there is a path
abbrev pub AsksForDisk : Option (List ℕ) → CallCounts → CallCounts → Type 0
AsksForDisk None old new = new ≡ old
AsksForDisk (Some path) old new = (new ≡ old) ⊎ (new ≡ asked_disk old)

-- what a host holds after it handed out the disk of the file at the path, or none
abbrev pub files_left : {E : Type 0} → Option (List ℕ) → Option E → Holdings → Holdings
files_left (Some path) (Some disk) h = with_files (files_without path h.files) h
files_left path opened h = h

-- The host was asked for the disk of the file at the path, if there is one: a disk is there exactly if there is a path.
pub record AsksForStore {E : Type 0} (state : E → DiskState) (path : Option (List ℕ)) (old new : HostState)
    (result : Result (Option E) HostFault) : Type 0 where
  pub there : IfOk result (λ disk. is_some disk ≡ is_some path)
  pub opened : IfOk result (IsOpened state path old.holds)
  pub disks : MatchResult result (Counted old.handed.disks new.handed.disks)
      (λ _. new.handed.disks ≡ old.handed.disks)
  pub links : new.handed.links ≡ old.handed.links
  pub listeners : new.handed.listeners ≡ old.handed.listeners
  pub holds : (h : Holdings) → old.holds ≡ Some h → MatchResult result
      (λ disk. new.holds ≡ Some (files_left path disk h)) (λ _. new.holds ≡ Some h)
  pub calls : AsksForDisk path old.calls new.calls
  pub later : old.faults ≤ new.faults
  pub cause : IsErrOf result host_faults.Failed → Rose old.faults new.faults

-- how often the disk has failed, if there is one
abbrev pub faults_of : {E : Type 0} → (E → DiskState) → Option E → ℕ
faults_of state None = 0
faults_of state (Some disk) = min (state disk).faults (2 ^ 64 - 1)

-- why there is no session over a disk with this count of faults, whose file was not opened
abbrev pub reason_of_store : ℕ → StoreFault → NoSession
reason_of_store count faults.DiskFault = reasons.Disk count
reason_of_store count faults.Memory = reasons.Memory
reason_of_store count fault = reasons.Store fault

-- why there is no session with a host that handed nothing out
abbrev pub reason_of_host : HostFault → NoSession
reason_of_host host_faults.Failed = reasons.Host
reason_of_host host_faults.Memory = reasons.Memory

-- A store was not opened over the disk, which is handed back as it was, for this reason.
abbrev pub IsRefusedAs : {E : Type 0} → (E → DiskState) → Option E → Option E → NoSession → Type 0
IsRefusedAs state (Some before) (Some after) reason = (fault : StoreFault)
    × IsRefusedFor (state before) (state after) fault × (reason ≡ reason_of_store (faults_of state (Some after)) fault)
IsRefusedAs state before after reason = ⊥

-- between the host's handing a disk out and its return this holds of it
abbrev pub OnDisk : {E : Type 0} → (E → DiskState) → Option E → Option E → (DiskState → DiskState → Type 0) → Type 0
OnDisk state (Some opened) (Some disk) Holds = Holds (state opened) (state disk)
OnDisk state opened disk Holds = ⊥

-- Why there is no session: the host's count of faults rose; the accounts file isn't one; the disk's count rose, and is
-- this; the file is refused for what its bytes say; or out of memory.
abbrev pub HasReason : {E : Type 0} → (E → DiskState) → AnswerCommand → HostState → HostState → Option E → Option E
    → NoSession → Type 0
HasReason state command old new opened disk reasons.Host = Rose old.faults new.faults
HasReason state command old new opened disk (reasons.File named) =
    (command.accounts ≡ Some named) × WasRead named old.holds None
HasReason state command old new opened disk (reasons.Disk count) = OnDisk state opened disk (λ before after.
    Rose before.faults after.faults × (count ≡ min after.faults (2 ^ 64 - 1)))
HasReason state command old new opened disk (reasons.Store fault) =
    IsOfBytes fault × OnDisk state opened disk (λ before after. IsRefusedFor before after fault)
HasReason state command old new opened disk reasons.Memory = Unit {0}

-- a reason that the store gave
abbrev pub IsOfStore : NoSession → Type 0
IsOfStore (reasons.Disk count) = Unit {0}
IsOfStore (reasons.Store fault) = Unit {0}
IsOfStore reason = ⊥

-- the accounts that the command names are there
abbrev pub HasAccounts : AnswerCommand → Option Holdings → Type 0
HasAccounts command holds = (accounts : Known) × AreAccounts command.accounts holds accounts

-- the disk, if one was handed out, is as it was
abbrev pub IsLeftAlone : {E : Type 0} → (E → DiskState) → Option E → Option E → Type 0
IsLeftAlone state (Some opened) (Some disk) = LeavesAlone (state opened) (state disk)
IsLeftAlone state None None = Unit {0}
IsLeftAlone state opened disk = ⊥

-- What a start asked of its host, which handed this disk out, or none: the accounts, then the disk, and nothing else.
pub record Starts {E : Type 0} (state : E → DiskState) (command : AnswerCommand) (old new : HostState)
    (opened : Option E) : Type 0 where
  pub between : CallCounts
  pub file : AsksOnce command.accounts old.calls between
  pub disk : AsksForDisk command.store between new.calls
  pub disks : Counted old.handed.disks new.handed.disks opened
  pub links : new.handed.links ≡ old.handed.links
  pub listeners : new.handed.listeners ≡ old.handed.listeners
  pub holds : (h : Holdings) → old.holds ≡ Some h → new.holds ≡ Some (files_left command.store opened h)
  pub later : old.faults ≤ new.faults
  pub handed : IsOpened state command.store old.holds opened

-- A store was opened over the disk that the command names, or over none, for a repository that is set up as the command
-- says.
pub record HasStarted {D : Type 0} {g : Ghosts D} (command : AnswerCommand) (offers : Offered) (old new : HostState)
    (opened : Option D) (first : Seen D g) (setting : Setting) (limits : Limits) : Type 0 where
  pub set_up : IsSetUp command old.holds offers setting limits
  pub opens : Opens opened first.journal first.contents
  pub not_closed : first.closed ≡ None
  pub there : is_some opened ≡ is_some command.store
  pub starts : Starts g.state command old new opened

-- No store was opened, for a reason. The disk, if one was handed out, is as it was.
pub record HasNoStart {E : Type 0} (state : E → DiskState) (command : AnswerCommand) (old new : HostState)
    (opened disk : Option E) (reason : NoSession) : Type 0 where
  pub has : HasReason state command old new opened disk reason
  pub accounts : IsOfStore reason → HasAccounts command old.holds
  pub alone : IsLeftAlone state opened disk
  pub starts : Starts state command old new opened
