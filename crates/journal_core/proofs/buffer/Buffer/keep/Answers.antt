use Rattle.std.proofs.Common.{◌+◌, ◌-◌, ◌++◌, take, drop, length, ◌∙◌, ap, arith, length-append, length-take, length-drop}
use Rattle.std.proofs.lemmas.List.{with_items_is}
use Rattle.journal_core.proofs.Gathering.{kept_held}
use Rattle.journal_core.proofs.buffer.Buffer.keep.Goals as goal

pub returns-clause-held : goal.returns-clause-held
returns-clause-held c =
    let was = c.args.self.now in
    let piece = c.args.piece.now in
    let m = c.deref_mut.result.now in
    let new = c.copy_from_slice.new.self in
    let post = drop (was.count + length piece - was.count) (drop was.count m) in
    let copied = c.copy_from_slice.ensures.after in
    let long = c.deref_mut.ensures.len in
    ap (take (was.count + length piece))
    (with_items_is was.bytes (take was.count m ++ (new ++ post))
    (omega (
      arith,
      long,
      ap length copied,
      length-append (take was.count m) (new ++ post),
      length-append new post,
      length-take was.count m,
      length-drop (was.count + length piece - was.count) (drop was.count m),
      length-drop was.count m,
      ap length c.deref_mut.ensures.value,
      was.size,
      c.requires,
    )))
    ∙ kept_held m was.bytes.items new piece post was.count c.deref_mut.ensures.value copied (omega (arith, was.size, was.within))
