-- What contracts see of a host, and what it hands out.
use Rattle.std.specs.Prelude.{◌≡◌, ◌≤◌, ◌+◌, ◌-◌, ◌^◌, ℕ, min, List, Option, [], ◌∷◌, length, take, false, MatchResult, Result, None, Some, IfOk, IfSome, IsErr, IsErrOf, Bool}
use Rattle.std.specs.Map.{lookup, remove_entry}
use Rattle.std.specs.Cmp.Lexicographic.{slice_cmp}
use Rattle.std.specs.Ordering.{nat_cmp}
use Rattle.std.specs.BTreeMap.{is_at, insert_entry}
use Rattle.std.specs.Io.KnownBytes.{IsAtEnd}
use Rattle.base_core.specs.Causes.{Rose}
use Rattle.disk_core.specs.Disk.{DiskState, IsSettled}
use Rattle.link_core.specs.Link.{LinkState}
use Rattle.link_core.specs.declared.host.HostFault.{HostFault}
use Rattle.link_core.specs.declared.host.HostFault.TheVariants.{Failed}

-- What a host holds that it has yet to hand out.
pub record Holdings : Type 0 where
  -- its files: the path and the bytes of each
  pub files : List (List ℕ × List ℕ)
  -- the bytes of each link that `console` hands out, in order
  pub consoles : List (List ℕ)
  -- the bytes of each link that `dial` hands out, in order
  pub peers : List (List ℕ)
  -- of each listener that `listen` hands out, in order, the bytes of its links
  pub listeners : List (List (List ℕ))

-- how often each call was called, at most 2^64 - 1
pub record CallCounts : Type 0 where
  pub disk : ℕ
  pub listen : ℕ
  pub dial : ℕ
  pub console : ℕ
  pub file : ℕ

-- how many disks, links and listeners were handed out
pub record HandedOut : Type 0 where
  pub disks : ℕ
  pub links : ℕ
  pub listeners : ℕ

-- What contracts see of a host.
pub record HostState : Type 0 where
  -- what it holds, if it reports that
  pub holds : Option Holdings
  pub calls : CallCounts
  pub handed : HandedOut
  -- how often a call has failed
  pub faults : ℕ

-- a count after one more call
abbrev pub one_more : ℕ → ℕ
one_more n = min (n + 1) (2 ^ 64 - 1)

-- the counts after one more call of each name
abbrev pub asked_disk : CallCounts → CallCounts
asked_disk c =
    record { disk = one_more c.disk; listen = c.listen; dial = c.dial; console = c.console; file = c.file }

abbrev pub asked_listen : CallCounts → CallCounts
asked_listen c =
    record { disk = c.disk; listen = one_more c.listen; dial = c.dial; console = c.console; file = c.file }

abbrev pub asked_dial : CallCounts → CallCounts
asked_dial c =
    record { disk = c.disk; listen = c.listen; dial = one_more c.dial; console = c.console; file = c.file }

abbrev pub asked_console : CallCounts → CallCounts
asked_console c =
    record { disk = c.disk; listen = c.listen; dial = c.dial; console = one_more c.console; file = c.file }

abbrev pub asked_file : CallCounts → CallCounts
asked_file c =
    record { disk = c.disk; listen = c.listen; dial = c.dial; console = c.console; file = one_more c.file }

-- what a host holds after these were handed out: the others of one kind are left
abbrev pub with_files : List (List ℕ × List ℕ) → Holdings → Holdings
with_files rest h = record { files = rest; consoles = h.consoles; peers = h.peers; listeners = h.listeners }

abbrev pub with_consoles : List (List ℕ) → Holdings → Holdings
with_consoles rest h = record { files = h.files; consoles = rest; peers = h.peers; listeners = h.listeners }

abbrev pub with_peers : List (List ℕ) → Holdings → Holdings
with_peers rest h = record { files = h.files; consoles = h.consoles; peers = rest; listeners = h.listeners }

abbrev pub with_listeners : List (List (List ℕ)) → Holdings → Holdings
with_listeners rest h = record { files = h.files; consoles = h.consoles; peers = h.peers; listeners = rest }

-- a file's path is this one
abbrev pub is_path : List ℕ → List ℕ → Bool
is_path path = is_at (slice_cmp nat_cmp path)

-- the bytes of the file at this path, if there is one
abbrev pub file_at : List ℕ → List (List ℕ × List ℕ) → Option (List ℕ)
file_at path files = lookup (is_path path) files

-- the files but the one at this path
abbrev pub files_without : List ℕ → List (List ℕ × List ℕ) → List (List ℕ × List ℕ)
files_without path files = remove_entry (is_path path) files

-- the files with these bytes at this path, in place of those of a file that is there
abbrev pub files_with : List ℕ → List ℕ → List (List ℕ × List ℕ) → List (List ℕ × List ℕ)
files_with path bytes files = insert_entry (slice_cmp nat_cmp) files path bytes

-- the bytes at this path, none where there is no file
abbrev pub bytes_of : Option (List ℕ) → List ℕ
bytes_of None = []
bytes_of (Some bytes) = bytes

-- the count of what was handed out grows by one with each Ok, and at no other time
abbrev pub CountsOk : {T E : Type 0} → ℕ → ℕ → Result T E → Type 0
CountsOk before now result = MatchResult result (λ _. now ≡ before + 1) (λ _. now ≡ before)

-- a link that holds these bytes, of which nothing was read or written yet
pub record IsNew (bytes : List ℕ) (link : LinkState) : Type 0 where
  pub holds : link.left ≡ Some bytes
  pub unread : link.taken ≡ Some []
  pub unwritten : link.written ≡ Some []

-- nothing has happened to a link yet: no fault, no byte read or written, and it isn't closed
pub record IsFresh (link : LinkState) : Type 0 where
  pub no_fault : link.faults ≡ 0
  pub not_closed : link.closed ≡ false
  pub nothing_taken : IsAtEnd link.taken
  pub nothing_written : IsAtEnd link.written

-- a disk that reads as these bytes, all of them durable
pub record IsDiskOf (bytes : List ℕ) (disk : DiskState) : Type 0 where
  pub reads : disk.content ≡ Some bytes
  pub settled : IsSettled disk

-- the first of a list was handed out, and `Left` holds of the others
abbrev pub TakesFirst : {T A : Type 0} → (A → T → Type 0) → List A → (List A → Type 0) → T → Type 0
TakesFirst Is [] Left object = ⊥
TakesFirst Is (first ∷ others) Left object = Is first object × Left others

-- The first of a list is handed out, and `Left` holds of the others. After a fault `Left` holds of the whole list.
abbrev pub HandsOut : {T E A : Type 0} → (A → T → Type 0) → List A → (List A → Type 0) → Result T E → Type 0
HandsOut Is list Left result = MatchResult result (TakesFirst Is list Left) (λ _. Left list)

-- What every call of a host does: it is counted, no other is, and `Failed` has its cause.
pub record Asks {T : Type 0} (old new : HostState) (counts : CallCounts) (result : Result T HostFault) : Type 0 where
  pub calls : new.calls ≡ counts
  pub later : old.faults ≤ new.faults
  pub cause : IsErrOf result Failed → Rose old.faults new.faults

-- A call that hands out a link, of which contracts see this state: it is fresh, and counted.
pub record HandsOutLink {T : Type 0} (state : T → LinkState) (old new : HostState)
    (result : Result T HostFault) : Type 0 where
  pub fresh : IfOk result (λ link. IsFresh (state link))
  pub links : CountsOk old.handed.links new.handed.links result
  pub disks : new.handed.disks ≡ old.handed.disks
  pub listeners : new.handed.listeners ≡ old.handed.listeners
  pub full : old.handed.links ≡ 2 ^ 64 - 1 → IsErrOf result Failed

-- `console` hands out the first of the consoles.
pub record HandsOutConsole {T : Type 0} (state : T → LinkState) (old new : HostState)
    (result : Result T HostFault) : Type 0 where
  pub first : IfSome old.holds (λ h. HandsOut (λ bytes link. IsNew bytes (state link)) h.consoles
      (λ rest. new.holds ≡ Some (with_consoles rest h)) result)
  pub link : HandsOutLink state old new result
  pub asks : Asks old new (asked_console old.calls) result

-- `dial` hands out the first of the peers.
pub record HandsOutPeer {T : Type 0} (state : T → LinkState) (old new : HostState)
    (result : Result T HostFault) : Type 0 where
  pub first : IfSome old.holds (λ h. HandsOut (λ bytes link. IsNew bytes (state link)) h.peers
      (λ rest. new.holds ≡ Some (with_peers rest h)) result)
  pub link : HandsOutLink state old new result
  pub asks : Asks old new (asked_dial old.calls) result

-- `listen` hands out the first of the listeners, of which contracts see these links and this count of faults.
pub record HandsOutListener {T : Type 0} (waiting : T → Option (List (List ℕ))) (faults : T → ℕ) (old new : HostState)
    (result : Result T HostFault) : Type 0 where
  pub first : IfSome old.holds (λ h. HandsOut (λ links listener. waiting listener ≡ Some links) h.listeners
      (λ rest. new.holds ≡ Some (with_listeners rest h)) result)
  pub no_fault : IfOk result (λ listener. faults listener ≡ 0)
  pub listeners : CountsOk old.handed.listeners new.handed.listeners result
  pub disks : new.handed.disks ≡ old.handed.disks
  pub links : new.handed.links ≡ old.handed.links
  pub full : old.handed.listeners ≡ 2 ^ 64 - 1 → IsErrOf result Failed
  pub asks : Asks old new (asked_listen old.calls) result

-- `disk` hands out the file at the path, or an empty one where there is none. After a fault the host holds it still.
pub record HandsOutDisk {T : Type 0} (state : T → DiskState) (path : List ℕ) (old new : HostState)
    (result : Result T HostFault) : Type 0 where
  pub file : IfSome old.holds (λ h. IfOk result (λ disk. IsDiskOf (bytes_of (file_at path h.files)) (state disk)))
  pub rest : IfSome old.holds (λ h. MatchResult result
      (λ _. new.holds ≡ Some (with_files (files_without path h.files) h)) (λ _. new.holds ≡ Some h))
  pub no_fault : IfOk result (λ disk. (state disk).faults ≡ 0)
  pub disks : CountsOk old.handed.disks new.handed.disks result
  pub links : new.handed.links ≡ old.handed.links
  pub listeners : new.handed.listeners ≡ old.handed.listeners
  pub full : old.handed.disks ≡ 2 ^ 64 - 1 → IsErrOf result Failed
  pub asks : Asks old new (asked_disk old.calls) result

-- a copy of the first bytes of a file, as many as the limit, or all where it is shorter; no file has no copy
abbrev pub IsCopyOf : {E : Type 0} → Option (List ℕ) → ℕ → Result (List ℕ) E → Type 0
IsCopyOf None limit result = IsErr result
IsCopyOf (Some bytes) limit result = IfOk result (λ copy. copy ≡ take limit bytes)

-- `file` hands out a copy of the first bytes of the file at the path, and the host holds what it held.
pub record CopiesFile (path : List ℕ) (most : ℕ) (old new : HostState)
    (result : Result (List ℕ) HostFault) : Type 0 where
  pub copy : IfSome old.holds (λ h. IsCopyOf (file_at path h.files) most result)
  pub limit : IfOk result (λ copy. length copy ≤ most)
  pub holds : new.holds ≡ old.holds
  pub handed : new.handed ≡ old.handed
  pub asks : Asks old new (asked_file old.calls) result
