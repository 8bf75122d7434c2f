-- The accounts of a run: those of the file that the arguments name. What an accounts file lists is `file_known` of
-- `acl_core`.
use Rattle.std.specs.Prelude.{◌≡◌, ◌≤◌, ◌⊎◌, ℕ, List, [], Option, None, Some}
use Rattle.std.specs.Option.{ForSome}
use Rattle.base_core.specs.Causes.{Rose}
use Rattle.link_core.specs.Host.{HostState, Holdings, CallCounts, asked_file, file_at}
use Rattle.acl_core.specs.Known.{Known, known}
use Rattle.acl_core.specs.File.{file_known}
use Rattle.repo_top.specs.declared.outcome.NoSession.{NoSession}
use Rattle.repo_top.specs.declared.outcome.NoSession.TheVariants as faults

-- no accounts, and no admin
abbrev pub no_accounts : Known
no_accounts = known [] None

-- The host holds a file at the path, and all its bytes list these accounts, or are no accounts file.
pub record HoldsFile (path : List ℕ) (listed : Option Known) (h : Holdings) : Type 0 where
  pub bytes : List ℕ
  pub there : file_at path h.files ≡ Some bytes
  pub lists : file_known bytes ≡ listed

-- Bytes were read that list these accounts, or that are no accounts file. Where the host reports what it holds, they
-- mean what the whole file at the path means.
pub record WasRead (path : List ℕ) (holds : Option Holdings) (listed : Option Known) : Type 0 where
  pub bytes : List ℕ
  pub lists : file_known bytes ≡ listed
  pub held : ForSome holds (HoldsFile path listed)

-- the accounts of the file at the path, or none without one
abbrev pub AreAccounts : Option (List ℕ) → Option Holdings → Known → Type 0
AreAccounts None holds accounts = accounts ≡ no_accounts
AreAccounts (Some path) holds accounts = WasRead path holds (Some accounts)

-- Why there are no accounts: the host's count of faults rose, the file at the path is no accounts file, or out of memory.
abbrev pub HasFileReason : Option (List ℕ) → Option Holdings → ℕ → ℕ → NoSession → Type 0
HasFileReason path holds before now faults.Host = Rose before now
HasFileReason path holds before now (faults.File named) = (path ≡ Some named) × WasRead named holds None
HasFileReason path holds before now faults.Memory = Unit {0}
HasFileReason path holds before now other = ⊥

-- no call was made, or the file at the path was asked for, if there is a path
abbrev pub AsksOnce : Option (List ℕ) → CallCounts → CallCounts → Type 0
AsksOnce None old new = new ≡ old
AsksOnce (Some path) old new = (new ≡ old) ⊎ (new ≡ asked_file old)

-- The host was asked for the file at the path alone, if there is one, and holds what it held.
pub record AsksForFile (path : Option (List ℕ)) (old new : HostState) : Type 0 where
  pub holds : new.holds ≡ old.holds
  pub handed : new.handed ≡ old.handed
  pub calls : AsksOnce path old.calls new.calls
  pub later : old.faults ≤ new.faults
