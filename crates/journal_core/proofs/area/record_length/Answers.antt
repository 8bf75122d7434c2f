use Rattle.std.proofs.Common.{ap, length, arith}
use Rattle.journal_core.specs.declared.layout.Format.TheVariants.{First, Second}
use Rattle.journal_core.proofs.Written.{length-content_of}
use Rattle.journal_core.proofs.area.record_length.Goals as goal

pub returns-in-First : goal.returns-in-First
returns-in-First c = rw c.in-First.is (omega (arith, length-content_of First c.args.entry.now, ap length c.get.ensures))

pub returns-in-Second : goal.returns-in-Second
returns-in-Second c = rw c.in-Second.is (omega (arith, length-content_of Second c.args.entry.now, ap length c.get.ensures))
