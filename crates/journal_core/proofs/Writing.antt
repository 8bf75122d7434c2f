-- Pieces that are written one after another, and made durable.
use Rattle.std.proofs.Common.{◌≡◌, ℕ, ◌+◌, ◌≤◌, List, [], ◌++◌, length, Result, Ok, Err, OnOk, Some, refl, sym, ◌∙◌, ap, arith, append_assoc, length-append}
use Rattle.std.specs.Prelude.{IsErr}
use Rattle.std.specs.Option.{ForSome, option_map}
use Rattle.base_core.specs.Causes.{Rose, HasCause}
use Rattle.disk_core.specs.Disk.{DiskState, written, Torn, WritesAt, MakesDurable}
use Rattle.disk_core.specs.Runs.{Run}
use Rattle.disk_core.specs.PastLaws.{torn_same}
use Rattle.disk_core.proofs.TornLaws.{torn_part}
use Rattle.disk_core.proofs.RunLaws.{started, joined, tears_on, goes_on_same}
use Rattle.journal_core.specs.Steps.{Writes, WritesDurably}
use Rattle.journal_core.proofs.Lists.{written_more}

-- of a run that failed only what a crash leaves is said
pub writes_failed : {T E : Type 0} (old new : DiskState) (place : ℕ) (piece : List ℕ) (result : Result T E) → IsErr result
    → Run old new (Torn place (length piece)) → old.moment ≤ new.moment → old.faults ≤ new.faults → Rose old.faults new.faults → Writes old new place piece result
writes_failed old new place piece (Ok x) is crash clock count rose = absurd (cc)
writes_failed old new place piece (Err e) is crash clock count rose = record { puts = tt; crash = crash; clock = clock; cause = record { later = count; failed = rose } }

pub durably_failed : {T E : Type 0} (old new : DiskState) (place : ℕ) (piece : List ℕ) (result : Result T E) → IsErr result
    → Run old new (Torn place (length piece)) → old.moment ≤ new.moment → old.faults ≤ new.faults → Rose old.faults new.faults → WritesDurably old new place piece result
durably_failed old new place piece (Ok x) is crash clock count rose = absurd (cc)
durably_failed old new place piece (Err e) is crash clock count rose = record {
  writes = record { puts = tt; crash = crash; clock = clock; cause = record { later = count; failed = rose } };
  settled = tt;
}

-- what one write after another has made of a file
abbrev pub Made : DiskState → DiskState → ℕ → List ℕ → ℕ → Type 0
Made old mid place done at = ForSome old.content (λ file.
    (now : List ℕ) × (mid.content ≡ Some now) × ((next : List ℕ) → written at next now ≡ written place (done ++ next) file))

pub made_none : (state : DiskState) (place : ℕ) → Made state state place [] place
made_none state place = λ file is. (file, is, λ next. refl)

pub made_more : (old mid new : DiskState) (place at : ℕ) (done piece : List ℕ) → Made old mid place done at
    → ForSome mid.content (λ file. new.content ≡ Some (written at piece file)) → Made old new place (done ++ piece) (at + length piece)
made_more old mid new place at done piece made puts = λ file is.
    let (now, there, goes) = made file is in (
      written at piece now,
      puts now there,
      λ next. written_more at piece next now ∙ goes (piece ++ next) ∙ ap (λ (l : List ℕ). written place l file) (sym (append_assoc done piece next)),
    )

pub made_last : (old mid new : DiskState) (place at : ℕ) (done piece : List ℕ) → Made old mid place done at
    → ForSome mid.content (λ file. new.content ≡ Some (written at piece file)) → ForSome old.content (λ file. new.content ≡ Some (written place (done ++ piece) file))
made_last old mid new place at done piece made puts = λ file is.
    let (now, there, goes) = made file is in puts now there ∙ ap Some (goes piece)

-- a write of the device
pub one_write : {T E : Type 0} (old new : DiskState) (place : ℕ) (piece : List ℕ) (result : Result T E) → WritesAt old new place piece result → Writes old new place piece result
one_write old new place piece result writes = record {
  puts = puts result writes.puts;
  crash = tears_on old old new place (length piece) place piece result (omega arith) (omega arith) (started old (Torn place (length piece)) (torn_same place (length piece))) writes;
  clock = writes.moves.clock;
  cause = writes.cause;
}
  where
    puts : {T E : Type 0} (result : Result T E) → OnOk result (new.content ≡ option_map (written place piece) old.content) → OnOk result (ForSome old.content (λ file. new.content ≡ Some (written place piece file)))
    puts (Ok x) h = λ file is. h ∙ ap (option_map (written place piece)) is
    puts (Err e) h = tt

-- a sync after what was written
pub then_sync : {T E : Type 0} (old mid new : DiskState) (place : ℕ) (piece : List ℕ) (result : Result T E)
    → ForSome old.content (λ file. mid.content ≡ Some (written place piece file)) → Run old mid (Torn place (length piece))
    → old.moment ≤ mid.moment → old.faults ≤ mid.faults → MakesDurable mid new result → WritesDurably old new place piece result
then_sync old mid new place piece (Ok x) puts crash clock count sync = record {
  writes = record {
    puts = λ file is. sync.same ∙ puts file is;
    crash = goes_on_same old mid new (Torn place (length piece)) crash sync.reported sync.moves.crash;
    clock = omega (arith, clock, sync.moves.clock);
    cause = record { later = omega (arith, count, sync.cause.later); failed = tt };
  };
  settled = sync.settled;
}
then_sync old mid new place piece (Err e) puts crash clock count sync = record {
  writes = record {
    puts = tt;
    crash = goes_on_same old mid new (Torn place (length piece)) crash sync.reported sync.moves.crash;
    clock = omega (arith, clock, sync.moves.clock);
    cause = record { later = omega (arith, count, sync.cause.later); failed = omega (arith, count, sync.cause.failed) };
  };
  settled = tt;
}

-- a run in a part of the range
pub tears_in : (old mid new : DiskState) (place n at size : ℕ) → place ≤ at → at + size ≤ place + n → Run old mid (Torn place n) → Run mid new (Torn at size) → Run old new (Torn place n)
tears_in old mid new place n at size low high first second = joined old mid new (Torn place n) (Torn at size) (torn_part place n at size low high) first second

-- what is written durably after what was written
pub durably_after : {T E : Type 0} (old mid new : DiskState) (place at : ℕ) (done piece : List ℕ) (result : Result T E) → Made old mid place done at → at ≡ place + length done
    → Run old mid (Torn place (length (done ++ piece))) → old.moment ≤ mid.moment → old.faults ≤ mid.faults
    → WritesDurably mid new at piece result → WritesDurably old new place (done ++ piece) result
durably_after old mid new place at done piece (Ok x) made is crash clock count durably = record {
  writes = record {
    puts = made_last old mid new place at done piece made durably.writes.puts;
    crash = tears_in old mid new place (length (done ++ piece)) at (length piece) (omega (arith, is)) (omega (arith, is, length-append done piece)) crash durably.writes.crash;
    clock = omega (arith, clock, durably.writes.clock);
    cause = record { later = omega (arith, count, durably.writes.cause.later); failed = tt };
  };
  settled = durably.settled;
}
durably_after old mid new place at done piece (Err e) made is crash clock count durably = record {
  writes = record {
    puts = tt;
    crash = tears_in old mid new place (length (done ++ piece)) at (length piece) (omega (arith, is)) (omega (arith, is, length-append done piece)) crash durably.writes.crash;
    clock = omega (arith, clock, durably.writes.clock);
    cause = record { later = omega (arith, count, durably.writes.cause.later); failed = omega (arith, count, durably.writes.cause.failed) };
  };
  settled = tt;
}

-- a count that had not fallen before
pub cause_then : {T E : Type 0} (a b c : ℕ) (result : Result T E) → a ≤ b → HasCause b c result → HasCause a c result
cause_then a b c (Ok x) le cause = record { later = omega (arith, le, cause.later); failed = tt }
cause_then a b c (Err e) le cause = record { later = omega (arith, le, cause.later); failed = omega (arith, le, cause.failed) }
