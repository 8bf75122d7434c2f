-- What contracts see of a link and of a sink, and what each call does to it.
use Rattle.std.specs.Prelude.{◌≡◌, ◌<◌, ◌≤◌, ◌^◌, ℕ, Bool, true, List, Option, length, take, MatchResult, Result}
use Rattle.std.specs.Io.{ReadsAtMost}
use Rattle.std.specs.Io.KnownBytes.{Keeps, Appends, ReadConsumes}
use Rattle.base_core.specs.Causes.{HasCause}

-- What contracts see of a link. One that doesn't report its bytes shows no more than the last three.
pub record LinkState : Type 0 where
  -- the bytes that reads have given, in order
  pub taken : Option (List ℕ)
  -- the bytes that reads have yet to give
  pub left : Option (List ℕ)
  -- the bytes that were written, in order
  pub written : Option (List ℕ)
  -- whether the stream was given up
  pub closed : Bool
  -- how often a call has failed
  pub faults : ℕ
  -- how many reads can still give bytes, at most
  pub reads : ℕ

-- a read that returns n gave the first n bytes of the buffer, and one that failed gave none
abbrev pub ReadGives : {E : Type 0} → Option (List ℕ) → Option (List ℕ) → Result ℕ E → List ℕ → Type 0
ReadGives old new result buffer = MatchResult result (λ n. Appends old new (take n buffer)) (λ _. Keeps old new)

-- a write takes at most the piece, and of a piece with bytes at least one
abbrev pub Takes : {E : Type 0} → List ℕ → Result ℕ E → Type 0
Takes piece result = MatchResult result (λ n. (n ≤ length piece) × (0 < length piece → 0 < n)) (λ _. Unit {0})

-- what was written grew by the prefix that was taken; after a fault by some prefix of the piece
abbrev pub AppendsPrefix : {E : Type 0} → Option (List ℕ) → Option (List ℕ) → List ℕ → Result ℕ E → Type 0
AppendsPrefix old new piece result =
    MatchResult result (λ n. Appends old new (take n piece))
    (λ _. (n : ℕ) × (n ≤ length piece) × Appends old new (take n piece))

-- the number of reads falls with each read that gives bytes, and no read raises it
abbrev pub Spends : {E : Type 0} → ℕ → ℕ → Result ℕ E → Type 0
Spends old new result = MatchResult result (λ n. (new ≤ old) × (0 < n → new < old)) (λ _. new ≤ old)

-- `read` fills a prefix of the buffer with the next bytes, and returns its length: 0, with room, only at the end
pub record ReadsBytes {E : Type 0} (old new : LinkState) (buffer : List ℕ) (result : Result ℕ E) : Type 0 where
  pub bound : ReadsAtMost result buffer
  pub taken : ReadGives old.taken new.taken result buffer
  pub left : ReadConsumes old.left new.left result buffer
  pub reads : Spends old.reads new.reads result
  pub few : old.reads ≤ 2 ^ 63
  pub written : Keeps old.written new.written
  pub closed : new.closed ≡ old.closed
  pub cause : HasCause old.faults new.faults result

-- what a call that doesn't read leaves: what was read and what is left, and no more reads than before
pub record KeepsInput (old new : LinkState) : Type 0 where
  pub taken : Keeps old.taken new.taken
  pub left : Keeps old.left new.left
  pub reads : new.reads ≤ old.reads

-- `write` writes a prefix of the piece, and returns its length
pub record WritesBytes {E : Type 0} (old new : LinkState) (piece : List ℕ) (result : Result ℕ E) : Type 0 where
  pub bound : Takes piece result
  pub written : AppendsPrefix old.written new.written piece result
  pub input : KeepsInput old new
  pub closed : new.closed ≡ old.closed
  pub cause : HasCause old.faults new.faults result

-- `close` gives the stream up, and changes none of its bytes
pub record Closes (old new : LinkState) : Type 0 where
  pub closed : new.closed ≡ true
  pub written : Keeps old.written new.written
  pub input : KeepsInput old new
  pub later : old.faults ≤ new.faults

-- What contracts see of a sink: the bytes that were written, if it reports them, and how often a call has failed.
pub record SinkState : Type 0 where
  pub written : Option (List ℕ)
  pub faults : ℕ

-- `write` of a sink writes a prefix of the piece, and returns its length
pub record SinkTakes {E : Type 0} (old new : SinkState) (piece : List ℕ) (result : Result ℕ E) : Type 0 where
  pub bound : Takes piece result
  pub written : AppendsPrefix old.written new.written piece result
  pub cause : HasCause old.faults new.faults result
