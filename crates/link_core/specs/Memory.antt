-- What the forms in memory hold, and when their calls fail.
use Rattle.std.specs.Prelude.{◌≡◌, ◌<◌, ◌+◌, ◌-◌, ◌^◌, ◌⊎◌, ◌↔◌, ◌==◌, if◌then◌else◌, ℕ, suc, List, [], ◌∷◌, ◌++◌, Option, None, Some, min, max, length, take, drop, vec_len, slice_get, zero, Contains, slice_index_or, unwrap_or, Result, IsErr, IfOk, OnOk, OnErr}
use Rattle.base_core.specs.Causes.{Rose}
use Rattle.link_core.specs.Link.{LinkState, SinkState}
use Rattle.link_core.specs.Host.{IsNew, IsFresh, one_more}
use Rattle.link_core.specs.declared.script.Script.{Script}
use Rattle.link_core.specs.declared.memory_link.MemoryLink.{MemoryLink}
use Rattle.link_core.specs.declared.memory_sink.MemorySink.{MemorySink}
use Rattle.link_core.specs.declared.memory_clock.MemoryClock.{MemoryClock}

-- What a form in memory is to do at its calls of one kind, and how far it is: how many bytes each call moves at most,
-- the numbers of the calls that fail, from 1, those that were marked to fail beside them, and how often it was called.
pub record Plan : Type 0 where
  pub lengths : List ℕ
  pub failing : List ℕ
  pub marked : List ℕ
  pub calls : ℕ

-- before the first call, with nothing marked
abbrev pub script : List ℕ → List ℕ → Plan
script lengths failing = record { lengths = lengths; failing = failing; marked = []; calls = 0 }

-- what contracts see of a script
abbrev pub script_of : Script → Plan
script_of s = record {
  lengths = s.lengths.items;
  failing = s.failing.items;
  marked = s.marked.items;
  calls = s.calls;
}

-- the same script before its first call
abbrev pub restarted : Plan → Plan
restarted s = record { lengths = s.lengths; failing = s.failing; marked = s.marked; calls = 0 }

-- the same script with these calls marked
abbrev pub marked_with : List ℕ → Plan → Plan
marked_with calls s = record { lengths = s.lengths; failing = s.failing; marked = calls; calls = s.calls }

-- the script after one more call
abbrev pub next_call : Plan → Plan
next_call s = record { lengths = s.lengths; failing = s.failing; marked = s.marked; calls = one_more s.calls }

-- the next call is on one of the lists of calls to fail
abbrev pub FailsNext : Plan → Type 0
FailsNext s = Contains s.failing (one_more s.calls) ⊎ Contains s.marked (one_more s.calls)

-- the next call moves so many bytes of those wanted: at most what the list has for it, or all past the list
abbrev pub moved_next : Plan → ℕ → ℕ
moved_next s wanted = min wanted (slice_index_or s.lengths s.calls wanted)

-- the next read gives so many bytes of those that there is room for: one at least
abbrev pub given_next : Plan → ℕ → ℕ
given_next s room = min room (max (moved_next s room) 1)

-- the next write takes nothing of a piece with bytes
abbrev pub TakesNothing : Plan → List ℕ → Type 0
TakesNothing s piece = (0 < length piece) × (moved_next s (length piece) ≡ 0)

-- a write fails at a listed call and if it takes nothing
abbrev pub IsToFail : Plan → List ℕ → Type 0
IsToFail s piece = FailsNext s ⊎ TakesNothing s piece

-- A read fails exactly at a listed call, and gives as many bytes as the script has for it.
pub record ReadsAsListed {E : Type 0} (s : Plan) (room : ℕ) (result : Result ℕ E) : Type 0 where
  pub listed : IsErr result ↔ FailsNext s
  pub gives : IfOk result (λ n. n ≡ given_next s room)

-- A write fails as the script says, and else only when out of memory, which is counted. It takes as many bytes as the
-- script has for it.
pub record WritesAsListed {E : Type 0} (s : Plan) (piece : List ℕ) (starved_old starved_new : ℕ)
    (result : Result ℕ E) : Type 0 where
  pub listed : OnErr result (IsToFail s piece ⊎ Rose starved_old starved_new)
  pub passed : OnOk result (¬ IsToFail s piece)
  pub takes : IfOk result (λ n. n ≡ moved_next s (length piece))

-- all the bytes that a link gives, from its first read on
abbrev pub console_bytes : MemoryLink → List ℕ
console_bytes link = link.bytes.items

-- what contracts see of a link in memory: it reports all its bytes, and a read that gives bytes leaves fewer
abbrev pub state_of : MemoryLink → LinkState
state_of link = record {
  taken = Some (take link.given link.bytes.items);
  left = Some (drop link.given link.bytes.items);
  written = Some link.out.written.items;
  closed = link.closed;
  faults = min (link.read_faults + link.out.faults) (2 ^ 64 - 1);
  reads = vec_len link.bytes - link.given;
}

-- how many bytes its reads have given
abbrev pub given_of : MemoryLink → ℕ
given_of link = link.given

-- how often one of its writes ran out of memory
abbrev pub starved_of : MemoryLink → ℕ
starved_of link = link.out.starved

-- a link in memory before its first call: it gives these bytes, and nothing has happened to it
pub record IsUnused (bytes : List ℕ) (link : MemoryLink) : Type 0 where
  pub gives : console_bytes link ≡ bytes
  pub holds : IsNew bytes (state_of link)
  pub fresh : IsFresh (state_of link)
  pub fed : starved_of link ≡ 0

-- what its reads and its writes are to do
abbrev pub reads_of : MemoryLink → Plan
reads_of link = script_of link.reads

abbrev pub writes_of : MemoryLink → Plan
writes_of link = script_of link.out.script

-- the scripts of a link, for its reads and for its writes
pub record Scripts : Type 0 where
  pub reads : Plan
  pub writes : Plan

abbrev pub scripts_of : MemoryLink → Scripts
scripts_of link = record { reads = reads_of link; writes = writes_of link }

-- both before their first call
abbrev pub restarted_both : Scripts → Scripts
restarted_both s = record { reads = restarted s.reads; writes = restarted s.writes }

-- both with these calls marked
abbrev pub marked_both : List ℕ → List ℕ → Scripts → Scripts
marked_both reads writes s = record { reads = marked_with reads s.reads; writes = marked_with writes s.writes }

-- what contracts see of a sink in memory: it reports its bytes
abbrev pub sink_state : MemorySink → SinkState
sink_state sink = record { written = Some sink.out.written.items; faults = sink.out.faults }

-- what its writes are to do
abbrev pub sink_script : MemorySink → Plan
sink_script sink = script_of sink.out.script

-- how often one of its writes ran out of memory
abbrev pub sink_starved : MemorySink → ℕ
sink_starved sink = sink.out.starved

-- the time that a clock gives at its call of this number, from 0: that of its list, the last one past its end, and 0 if
-- it has none
abbrev pub time_at : List ℕ → ℕ → ℕ
time_at times n = slice_index_or times n (unwrap_or (slice_get times (length times - 1)) 0)

-- the first n times that it gives
abbrev pub first_times : List ℕ → ℕ → List ℕ
first_times times zero = []
first_times times (suc n) = first_times times n ++ time_at times n ∷ []

-- the times of a clock in memory
abbrev pub times_of : MemoryClock → List ℕ
times_of clock = clock.times.items

-- how many of them it has given
abbrev pub count_of : MemoryClock → ℕ
count_of clock = clock.count

-- it reports what it has given, until its count is at its last value
abbrev pub clock_given : MemoryClock → Option (List ℕ)
clock_given clock = if count_of clock == 2 ^ 64 - 1 then None else Some (first_times (times_of clock) (count_of clock))
