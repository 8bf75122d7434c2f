-- What contracts see of a link in memory whose reads may wait for another link.
use Rattle.std.specs.Prelude.{◌≡◌, ◌<◌, ◌≤◌, ◌+◌, ◌-◌, ◌^◌, ℕ, Bool, true, List, Option, option_map, is_some, min}
use Rattle.std.specs.Arc.{arc_value}
use Rattle.std.specs.Sync.OnceLock.{Named}
use Rattle.base_core.specs.Causes.{Rose}
use Rattle.link_core.specs.Link.{LinkState}
use Rattle.link_core.specs.Memory.{state_of, console_bytes, Scripts, scripts_of, reads_of, next_call, FailsNext}
use Rattle.link_core.specs.declared.memory_link.MemoryLink.{MemoryLink}
use Rattle.link_core.specs.declared.gate_link.GateLink.{GateLink}

-- the link inside
abbrev pub link_of : GateLink → MemoryLink
link_of gate = gate.link

-- its reads wait for another link
abbrev pub is_held : GateLink → Bool
is_held gate = is_some gate.waits_for

-- the gate that its reads wait at, and the one that its writes open
abbrev pub waits_at : GateLink → Option Named
waits_at gate = option_map arc_value gate.waits_for

abbrev pub opens_at : GateLink → Option Named
opens_at gate = option_map arc_value gate.opens

-- how many bytes the write took that opened the gate of its last read, 0 if none did
abbrev pub opened_by : GateLink → ℕ
opened_by gate = gate.opened_by

-- how many turns its reads have waited
abbrev pub turns_of : GateLink → ℕ
turns_of gate = gate.turns

-- what contracts see of it is the link inside
abbrev pub gate_state : GateLink → LinkState
gate_state gate = state_of (link_of gate)

abbrev pub gate_bytes : GateLink → List ℕ
gate_bytes gate = console_bytes (link_of gate)

abbrev pub gate_scripts : GateLink → Scripts
gate_scripts gate = scripts_of (link_of gate)

-- no call changes which link a link waits for, or which waits for it
pub record SameGates (old new : GateLink) : Type 0 where
  pub waits : waits_at new ≡ waits_at old
  pub opens : opens_at new ≡ opens_at old

-- The turns only add up, at most 10,000,000 in one read.
pub record IsLater (old new : GateLink) : Type 0 where
  pub least : turns_of old ≤ turns_of new
  pub most : turns_of new ≤ turns_of old + 10000000

-- A read fails since it is on the list of its script.
pub record FailsAsListed (old new : GateLink) : Type 0 where
  pub listed : FailsNext (reads_of (link_of old))
  pub script : reads_of (link_of new) ≡ next_call (reads_of (link_of old))

-- A read passes: it isn't on the list, and if it was held, a write to the other link has taken bytes.
pub record Passes (old new : GateLink) : Type 0 where
  pub listed : ¬ FailsNext (reads_of (link_of old))
  pub script : reads_of (link_of new) ≡ next_call (reads_of (link_of old))
  pub opened : is_held old ≡ true → 0 < opened_by new

-- A read that is held has waited for 10,000,000 turns, or the count of turns is at its last value. It never came to the
-- script, and is a fault.
pub record WaitedInVain (old new : GateLink) : Type 0 where
  pub held : is_held old ≡ true
  pub turns : turns_of new ≡ min (turns_of old + 10000000) (2 ^ 64 - 1)
  pub script : reads_of (link_of new) ≡ reads_of (link_of old)
  pub fault : Rose (gate_state old).faults (gate_state new).faults
