use Rattle.journal_core.proofs.Reading.{read_first}
use Rattle.std.proofs.Common.{arith}
use Rattle.journal_core.proofs.area.read_all.Goals as goal

pub returns-clause-first : goal.returns-clause-first
returns-clause-first g c = λ file is reaches.
    read_first file c.read.new.into c.args.place c.args.left c.in_ok-count.count (omega arith) c.in_ok-count.ensures.bound (c.in_ok-count.ensures.bytes file is) reaches
