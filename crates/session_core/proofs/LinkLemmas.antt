-- What calls do to a link, one after another.
use Rattle.std.proofs.Common.{◌≤◌, ℕ, List, [], ◌++◌, refl, ◌∙◌, arith}
use Rattle.std.proofs.KnownBytes.{Keeps-refl, Keeps-trans, Appends-nil, Appends-trans, Appends-kept, Consumes-nil, Consumes-trans, Consumes-kept}
use Rattle.std.specs.Io.KnownBytes.{Appends, Consumes}
use Rattle.link_core.specs.Link.{LinkState, KeepsInput}
use Rattle.session_core.specs.Reading.{OnlyReads}
use Rattle.session_core.specs.Session.{Moves}

-- before any call
pub input_kept : (a : LinkState) → KeepsInput a a
input_kept a = record { taken = Keeps-refl a.taken; left = Keeps-refl a.left; reads = omega arith }

pub only_reads_none : (a : LinkState) → OnlyReads a a
only_reads_none a =
    record { written = Keeps-refl a.written; closed = refl; later = omega arith; reads = omega arith }

pub moves_nothing : (a : LinkState) → Moves a a [] []
moves_nothing a = record {
  taken = Appends-nil a.taken;
  left = Consumes-nil a.left;
  written = Appends-nil a.written;
  later = omega arith;
}

-- one call after another
pub input_kept_on : (a b c : LinkState) → KeepsInput a b → KeepsInput b c → KeepsInput a c
input_kept_on a b c first then = record {
  taken = Keeps-trans a.taken b.taken c.taken first.taken then.taken;
  left = Keeps-trans a.left b.left c.left first.left then.left;
  reads = omega (arith, first.reads, then.reads);
}

pub only_reads_on : (a b c : LinkState) → OnlyReads a b → OnlyReads b c → OnlyReads a c
only_reads_on a b c first then = record {
  written = Keeps-trans a.written b.written c.written first.written then.written;
  closed = then.closed ∙ first.closed;
  later = omega (arith, first.later, then.later);
  reads = omega (arith, first.reads, then.reads);
}

-- a call that only reads, after others
pub moves_read : (a b c : LinkState) (read more wrote : List ℕ) → Moves a b read wrote → Appends b.taken c.taken more
    → Consumes b.left c.left more → OnlyReads b c → Moves a c (read ++ more) wrote
moves_read a b c read more wrote first taken left only = record {
  taken = Appends-trans a.taken b.taken c.taken read more first.taken taken;
  left = Consumes-trans a.left b.left c.left read more first.left left;
  written = Appends-kept a.written b.written c.written wrote first.written only.written;
  later = omega (arith, first.later, only.later);
}

-- a call that only writes these bytes
pub record Writes (old new : LinkState) (bytes : List ℕ) : Type 0 where
  pub input : KeepsInput old new
  pub written : Appends old.written new.written bytes
  pub later : old.faults ≤ new.faults

-- a call that only writes, after others
pub moves_written : (a b c : LinkState) (read wrote more : List ℕ) → Moves a b read wrote → Writes b c more
    → Moves a c read (wrote ++ more)
moves_written a b c read wrote more first then = record {
  taken = Appends-kept a.taken b.taken c.taken read first.taken then.input.taken;
  left = Consumes-kept a.left b.left c.left read first.left then.input.left;
  written = Appends-trans a.written b.written c.written wrote more first.written then.written;
  later = omega (arith, first.later, then.later);
}
