-- What contracts see of a listener and of a host in memory, whose links are of any form in memory.
use Rattle.std.specs.Prelude.{◌≡◌, ◌⊎◌, ◌-◌, ◌^◌, ◌∷◌, ◌++◌, ℕ, List, [], map, Bool, true, false, if◌then◌else◌, Option, None, Some, Result, MatchResult, Contains}
use Rattle.link_core.specs.Host.{one_more, HostState, CallCounts, HandedOut, file_at}
use Rattle.link_core.specs.Memory.{Scripts, marked_both, restarted_both}
use Rattle.link_core.specs.Listener.{ListenerState}
use Rattle.link_core.specs.declared.memory_listener.MemoryListener.{MemoryListener}
use Rattle.link_core.specs.declared.memory_host.MemoryHost.{MemoryHost}
use Rattle.link_core.specs.declared.memory_host.Mark.{Mark}
use Rattle.link_core.specs.declared.memory_host.CallKind.{CallKind}
use Rattle.link_core.specs.declared.memory_host.CallKind.TheVariants as kinds
use Rattle.disk_core.specs.declared.calls.Failing.{Failing}
use Rattle.disk_core.specs.declared.calls.DiskCall.{DiskCall}
use Rattle.disk_core.specs.declared.calls.DiskCall.TheVariants as disk_calls

-- the links that a listener has yet to accept
abbrev pub links_of : {L : Type 0} → MemoryListener L → List L
links_of l = l.links.items

-- the numbers of its calls that fail, from 1
abbrev pub accepts_failing : {L : Type 0} → MemoryListener L → List ℕ
accepts_failing l = l.failing.items

-- those that were marked to fail beside them
abbrev pub accepts_marked : {L : Type 0} → MemoryListener L → List ℕ
accepts_marked l = l.marked.items

-- how often it was called
abbrev pub accept_calls : {L : Type 0} → MemoryListener L → ℕ
accept_calls l = l.calls

-- what contracts see of it: what its links hold, of which contracts see these bytes
abbrev pub listener_state : {L : Type 0} → (L → List ℕ) → MemoryListener L → ListenerState
listener_state bytes l = record { waiting = Some (map bytes (links_of l)); faults = l.faults }

-- what the first of some links is to do once it is accepted: its scripts before the first call
abbrev pub accepted_scripts : {L : Type 0} → (L → Scripts) → List L → Option Scripts
accepted_scripts scripts [] = None
accepted_scripts scripts (first ∷ others) = Some (restarted_both (scripts first))

-- its next call is to fail
abbrev pub AcceptFails : {L : Type 0} → MemoryListener L → Type 0
AcceptFails l =
    Contains (accepts_failing l) (one_more (accept_calls l)) ⊎ Contains (accepts_marked l) (one_more (accept_calls l))

-- the links that a host hands out by `console`, and by `dial`
abbrev pub consoles_of : {L : Type 0} → MemoryHost L → List L
consoles_of host = host.consoles.items

abbrev pub peers_of : {L : Type 0} → MemoryHost L → List L
peers_of host = host.peers.items

-- the listeners that it hands out
abbrev pub listeners_of : {L : Type 0} → MemoryHost L → List (MemoryListener L)
listeners_of host = host.listeners.items

-- the paths and the bytes of its files
abbrev pub files_of : {L : Type 0} → MemoryHost L → List (List ℕ × List ℕ)
files_of host = host.files

-- the times of the clock that it hands out
abbrev pub host_times : {L : Type 0} → MemoryHost L → List ℕ
host_times host = host.times.items

-- the host's own calls that are to fail, and those of the objects that it hands out next
abbrev pub host_failing : {L : Type 0} → MemoryHost L → List Mark
host_failing host = host.failing.items

pub record NextMarks : Type 0 where
  pub disk : List Failing
  pub reads : List ℕ
  pub writes : List ℕ
  pub accepts : List ℕ

abbrev pub marks_of : {L : Type 0} → MemoryHost L → NextMarks
marks_of host = record {
  disk = host.marks.disk.items;
  reads = host.marks.reads.items;
  writes = host.marks.writes.items;
  accepts = host.marks.accepts.items;
}

-- how often its calls were called, and how many objects it has handed out
abbrev pub calls_of : {L : Type 0} → MemoryHost L → CallCounts
calls_of host = record {
  disk = host.calls.disk;
  listen = host.calls.listen;
  dial = host.calls.dial;
  console = host.calls.console;
  file = host.calls.file;
}

abbrev pub handed_by : {L : Type 0} → MemoryHost L → HandedOut
handed_by host = record {
  disks = host.handed.disks;
  links = host.handed.links;
  listeners = host.handed.listeners;
}

-- what a host in memory has to hand out
pub record Stock (L : Type 0) : Type 0 where
  pub files : List (List ℕ × List ℕ)
  pub consoles : List L
  pub peers : List L
  pub listeners : List (MemoryListener L)
  pub times : List ℕ

abbrev pub stock_of : {L : Type 0} → MemoryHost L → Stock L
stock_of host = record {
  files = files_of host;
  consoles = consoles_of host;
  peers = peers_of host;
  listeners = listeners_of host;
  times = host_times host;
}

-- the stock with others of one kind
abbrev pub stock_with_files : {L : Type 0} → List (List ℕ × List ℕ) → Stock L → Stock L
stock_with_files files s =
    record { files = files; consoles = s.consoles; peers = s.peers; listeners = s.listeners; times = s.times }

abbrev pub stock_with_consoles : {L : Type 0} → List L → Stock L → Stock L
stock_with_consoles links s =
    record { files = s.files; consoles = links; peers = s.peers; listeners = s.listeners; times = s.times }

abbrev pub stock_with_peers : {L : Type 0} → List L → Stock L → Stock L
stock_with_peers links s =
    record { files = s.files; consoles = s.consoles; peers = links; listeners = s.listeners; times = s.times }

abbrev pub stock_with_listeners : {L : Type 0} → List (MemoryListener L) → Stock L → Stock L
stock_with_listeners ls s =
    record { files = s.files; consoles = s.consoles; peers = s.peers; listeners = ls; times = s.times }

abbrev pub stock_with_times : {L : Type 0} → List ℕ → Stock L → Stock L
stock_with_times times s =
    record { files = s.files; consoles = s.consoles; peers = s.peers; listeners = s.listeners; times = times }

-- a list without its first
abbrev pub rest_of : {T : Type 0} → List T → List T
rest_of [] = []
rest_of (first ∷ others) = others

-- the stock after a call that hands something out exactly if it returns Ok
abbrev pub UsesStock : {L T E : Type 0} → Stock L → MemoryHost L → MemoryHost L → Result T E → Type 0
UsesStock used old new result =
    MatchResult result (λ _. stock_of new ≡ used) (λ _. stock_of new ≡ stock_of old)

-- the bytes of the links of a listener
abbrev pub bytes_waiting : {L : Type 0} → (L → List ℕ) → MemoryListener L → List (List ℕ)
bytes_waiting bytes l = map bytes (links_of l)

-- what contracts see of a host in memory: it reports what it holds
abbrev pub host_state : {L : Type 0} → (L → List ℕ) → MemoryHost L → HostState
host_state bytes host = record {
  holds = Some (record {
    files = files_of host;
    consoles = map bytes (consoles_of host);
    peers = map bytes (peers_of host);
    listeners = map (bytes_waiting bytes) (listeners_of host);
  });
  calls = calls_of host;
  handed = handed_by host;
  faults = host.faults;
}

-- a call of this kind and number was marked to fail
abbrev pub IsMarked : List Mark → CallKind → ℕ → Type 0
IsMarked failing kind nth = Contains failing (record { kind = kind; nth = nth })

-- a host that holds nothing, before its first call
abbrev pub empty_state : HostState
empty_state = record {
  holds = Some (record { files = []; consoles = []; peers = []; listeners = [] });
  calls = record { disk = 0; listen = 0; dial = 0; console = 0; file = 0 };
  handed = record { disks = 0; links = 0; listeners = 0 };
  faults = 0;
}

-- nothing is marked of the objects that are handed out next
abbrev pub no_marks : NextMarks
no_marks = record { disk = []; reads = []; writes = []; accepts = [] }

-- the marks with one more of a kind: a kind of a disk
abbrev pub with_disk_mark : DiskCall → ℕ → NextMarks → NextMarks
with_disk_mark call nth m = record {
  disk = m.disk ++ (record { call = call; nth = nth }) ∷ [];
  reads = m.reads;
  writes = m.writes;
  accepts = m.accepts;
}

-- the marks with one more: the calls of the host itself are not among them
abbrev pub with_mark : CallKind → ℕ → NextMarks → NextMarks
with_mark kinds.Length nth m = with_disk_mark disk_calls.Length nth m
with_mark kinds.ReadAt nth m = with_disk_mark disk_calls.ReadAt nth m
with_mark kinds.WriteAt nth m = with_disk_mark disk_calls.WriteAt nth m
with_mark kinds.Sync nth m = with_disk_mark disk_calls.Sync nth m
with_mark kinds.Read nth m =
    record { disk = m.disk; reads = m.reads ++ nth ∷ []; writes = m.writes; accepts = m.accepts }
with_mark kinds.Write nth m =
    record { disk = m.disk; reads = m.reads; writes = m.writes ++ nth ∷ []; accepts = m.accepts }
with_mark kinds.Accept nth m =
    record { disk = m.disk; reads = m.reads; writes = m.writes; accepts = m.accepts ++ nth ∷ [] }
with_mark _ nth m = m

-- a kind is a call of the host itself
abbrev pub is_own : CallKind → Bool
is_own kinds.DiskOpen = true
is_own kinds.Listen = true
is_own kinds.Dial = true
is_own kinds.Console = true
is_own kinds.File = true
is_own _ = false

-- the mark is on the list of its kind, and on no other
pub record AddsMark {L : Type 0} (kind : CallKind) (nth : ℕ) (old new : MemoryHost L) : Type 0 where
  pub own : host_failing new ≡
      host_failing old ++ (if is_own kind then (record { kind = kind; nth = nth }) ∷ [] else [])
  pub next : marks_of new ≡ with_mark kind nth (marks_of old)

-- what the first of some links is to do once it is handed out: its scripts before the first call, with these marks
abbrev pub given_scripts : {L : Type 0} → (L → Scripts) → List L → NextMarks → Option Scripts
given_scripts scripts [] m = None
given_scripts scripts (first ∷ others) m = Some (marked_both m.reads m.writes (restarted_both (scripts first)))

-- the marks once a link was given its own, and once a disk and a listener were
abbrev pub without_link_marks : NextMarks → NextMarks
without_link_marks m = record { disk = m.disk; reads = []; writes = []; accepts = m.accepts }

abbrev pub without_disk_marks : NextMarks → NextMarks
without_disk_marks m = record { disk = []; reads = m.reads; writes = m.writes; accepts = m.accepts }

abbrev pub without_accept_marks : NextMarks → NextMarks
without_accept_marks m = record { disk = m.disk; reads = m.reads; writes = m.writes; accepts = [] }

-- the marks after a call that uses some of them exactly if it hands something out
abbrev pub UsesMarks : {T E : Type 0} → (NextMarks → NextMarks) → NextMarks → NextMarks → Result T E → Type 0
UsesMarks used old new result = MatchResult result (λ _. new ≡ used old) (λ _. new ≡ old)

-- `console` fails at a marked call, with no link left, and with its count of links at its last value
abbrev pub ConsoleFails : {L : Type 0} → MemoryHost L → Type 0
ConsoleFails host = IsMarked (host_failing host) kinds.Console (one_more (calls_of host).console)
    ⊎ ((consoles_of host ≡ []) ⊎ ((handed_by host).links ≡ 2 ^ 64 - 1))

-- `dial` likewise
abbrev pub DialFails : {L : Type 0} → MemoryHost L → Type 0
DialFails host = IsMarked (host_failing host) kinds.Dial (one_more (calls_of host).dial)
    ⊎ ((peers_of host ≡ []) ⊎ ((handed_by host).links ≡ 2 ^ 64 - 1))

-- `listen` likewise
abbrev pub ListenFails : {L : Type 0} → MemoryHost L → Type 0
ListenFails host = IsMarked (host_failing host) kinds.Listen (one_more (calls_of host).listen)
    ⊎ ((listeners_of host ≡ []) ⊎ ((handed_by host).listeners ≡ 2 ^ 64 - 1))

-- `disk` fails at a marked call, and with its count of disks at its last value
abbrev pub DiskFails : {L : Type 0} → MemoryHost L → Type 0
DiskFails host = IsMarked (host_failing host) kinds.DiskOpen (one_more (calls_of host).disk)
    ⊎ ((handed_by host).disks ≡ 2 ^ 64 - 1)

-- `file` fails at a marked call, and where there is no file
abbrev pub FileFails : {L : Type 0} → List ℕ → MemoryHost L → Type 0
FileFails path host = IsMarked (host_failing host) kinds.File (one_more (calls_of host).file)
    ⊎ (file_at path (files_of host) ≡ None)

-- the listener that is handed out is the first one, before its first call, with the marks for it
pub record IsListenerOf {L : Type 0} (marks : NextMarks) (first given : MemoryListener L) : Type 0 where
  pub links : links_of given ≡ links_of first
  pub failing : accepts_failing given ≡ accepts_failing first
  pub marked : accepts_marked given ≡ marks.accepts
  pub calls : accept_calls given ≡ 0

-- the first of the listeners was handed out
abbrev pub IsFirstListener : {L : Type 0} → List (MemoryListener L) → NextMarks → MemoryListener L → Type 0
IsFirstListener [] marks given = ⊥
IsFirstListener (first ∷ others) marks given = IsListenerOf marks first given

-- nothing of a host has changed but what it holds
pub record SameCounts {L : Type 0} (old new : MemoryHost L) : Type 0 where
  pub calls : calls_of new ≡ calls_of old
  pub handed : handed_by new ≡ handed_by old
  pub faults : new.faults ≡ old.faults
  pub failing : host_failing new ≡ host_failing old
  pub marks : marks_of new ≡ marks_of old
