use Rattle.std.proofs.Common.{◌+◌, ◌∙◌, arith, length-drop, rules}
use Rattle.disk_core.proofs.RunLaws.{alone_call, alone_then}
use Rattle.journal_core.proofs.Lists.{read_more}
use Rattle.journal_core.proofs.buffer.fill.Goals as goal

pub reads-preserved : goal.reads-preserved
reads-preserved g c =
    let read = c.in_ok-count.ensures in
    record {
      within = search rules;
      bytes = λ file is.
          let here = c.reads.invariant.same ∙ is in
          read_more c.reads.into c.read_at.new.into _ file c.reads.filled c.in_ok-count.count c.args.place c.reads.invariant.within
          read.bound (c.reads.invariant.inside file is) (c.reads.invariant.bytes file is) (read.bytes file here);
      inside = λ file is.
          let here = c.reads.invariant.same ∙ is in
          let fits = read.within file here in
          omega (arith, fits, c.reads.invariant.inside file is, length-drop (c.args.place + c.reads.filled) file, length-drop c.args.place file);
      same = read.reads.same ∙ c.reads.invariant.same;
      alone = alone_then _ _ _ c.reads.invariant.alone (alone_call _ _ _ c.read_at.ensures.reads);
    }
