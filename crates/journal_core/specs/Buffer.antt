-- What a buffer has of a file, and how pieces go through it into one.
use Rattle.std.specs.Prelude.{◌≡◌, ℕ, ◌+◌, ◌≤◌, List, ◌++◌, length, take, drop, Result, Some, OnOk}
use Rattle.std.specs.Option.{ForSome}
use Rattle.base_core.specs.Causes.{HasCause}
use Rattle.disk_core.specs.Disk.{DiskState, written, Torn}
use Rattle.disk_core.specs.Runs.{Run}
use Rattle.journal_core.specs.declared.buffer.Buffer.{Buffer}

-- the bytes in the buffer
abbrev pub held_in : Buffer → List ℕ
held_in buffer = take buffer.count buffer.bytes.items

-- they are those of the file at the place of the buffer
abbrev pub IsPieceOf : List ℕ → Buffer → Type 0
IsPieceOf file buffer = held_in buffer ≡ take buffer.count (drop buffer.start file)

-- The piece joins those that wait in the buffer to be written at its place. On the way some may be written.
pub record Gathered (old new : DiskState) (before after : Buffer) (piece : List ℕ) : Type 0 where
  pub low : before.start ≤ after.start
  pub end : after.start + after.count ≡ before.start + before.count + length piece
  pub puts : ForSome old.content (λ file. (now : List ℕ) × (new.content ≡ Some now)
      × ((next : List ℕ) → written after.start (held_in after ++ next) now
      ≡ written before.start (held_in before ++ (piece ++ next)) file))

-- the same of a call that may fail: a crash tears no more than what waited and the piece
pub record Gathers {T E : Type 0} (old new : DiskState) (before after : Buffer) (piece : List ℕ)
    (result : Result T E) : Type 0 where
  pub gathered : OnOk result (Gathered old new before after piece)
  pub crash : Run old new (Torn before.start (before.count + length piece))
  pub clock : old.moment ≤ new.moment
  pub cause : HasCause old.faults new.faults result
