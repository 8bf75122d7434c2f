-- What the decoder's private calls keep, and how its buffers fit its limits.
use Rattle.std.specs.Prelude.{◌≡◌, ℕ, ◌+◌, ◌≤◌, List, length, take}
use Rattle.doip_segment.specs.declared.outcome.Limits.{Limits}
use Rattle.doip_segment.specs.declared.phase.Phase.{Phase}
use Rattle.doip_segment.specs.declared.phase.Phase.TheVariants.{Due, LineStart, MessageEnd, Whole, Stuck}
use Rattle.doip_segment.specs.Segments.{Held, most_segments}
use Rattle.doip_segment.specs.Framing.{most_total, saturated}
use Rattle.doip_segment.specs.Machine.{run, IsInRange}
use Rattle.doip_segment.specs.Decoding.{Decoding}

-- The decoder read the first n of these bytes.
pub record Advances (n : ℕ) (bytes : List ℕ) (old new : Decoding) : Type 0 where
  pub limits : new.limits ≡ old.limits
  pub reading : new.reading ≡ run old.limits old.reading (take n bytes)
  pub count : new.reading.count ≡ old.reading.count + n
  pub taken : new.taken ≡ saturated (old.taken + n)

-- the line feed that waits for the byte after it
abbrev pub held_back : Phase → ℕ
held_back LineStart = 1
held_back _ = 0

-- the segment that is being read
abbrev pub opened : Phase → ℕ
opened Due = 0
opened MessageEnd = 0
opened Whole = 0
opened (Stuck reason) = 0
opened _ = 1

-- one more byte is counted where a fault stands
abbrev pub passed : Phase → ℕ
passed (Stuck reason) = 1
passed _ = 0

-- the decoder's buffers hold whatever its limits let in
pub record Fits (limits : Limits) (held : Held) (phase : Phase) (taken : ℕ) : Type 0 where
  pub total : limits.total ≤ most_total
  pub capacity : limits.total ≤ held.capacity
  pub slots : most_segments ≤ held.slots
  pub used : held.used + held_back phase ≤ taken
  pub count : taken ≤ limits.total + passed phase
  pub segments : length held.segments + opened phase ≤ most_segments
  pub range : IsInRange phase
