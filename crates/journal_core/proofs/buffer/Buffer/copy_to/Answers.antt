use Rattle.std.proofs.Common.{◌-◌, take, drop, ◌∙◌, ap, arith, length-take}
use Rattle.std.proofs.lemmas.List.{take_at}
use Rattle.journal_core.proofs.Lists.{piece_read}
use Rattle.journal_core.proofs.buffer.Buffer.copy_to.Goals as goal

pub returns-clause-bytes : goal.returns-clause-bytes
returns-clause-bytes c = λ file is.
    let was = c.args.self.now in
    let n = c.min-count.result in
    let skipped = c.args.place - was.start in
    let same = c.deref.ensures.value in
    let copied = c.copy_from_slice.ensures.after in
    take_at c.copy_from_slice.new.self (drop n c.args.into.now) n (omega (arith, c.copy_from_slice.auto.self, length-take n c.args.into.now)) ∙ copied
    ∙ piece_read c.deref.result.now file was.count was.start c.args.place skipped n (ap (take was.count) same ∙ is) (omega arith) (omega arith)
