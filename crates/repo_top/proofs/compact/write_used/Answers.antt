use Rattle.std.proofs.Common.{◌++◌, List, ℕ, codes, decimal, ap, ◌∙◌, arith, rules}
use Rattle.repo_top.proofs.Lines.{short, feed}
use Rattle.repo_top.proofs.compact.write_used.Goals as goal

pub write_digits-area-requires : goal.write_digits-area-requires
write_digits-area-requires c =
    let end = c.put_text-end in
    (omega (arith, short c.args.room.area (search rules), end.ensures.start), omega (arith, end.ensures.start, end.auto.line, c.requires))

pub put_text-word-requires-clause-room : goal.put_text-word-requires-clause-room
put_text-word-requires-clause-room c =
    omega (arith, short c.args.room.area (search rules), c.write_digits-area.ensures.start, c.put_text-end.ensures.start)

pub write_digits-used-requires : goal.write_digits-used-requires
write_digits-used-requires c =
    let end = c.put_text-end in
    let area = c.write_digits-area in
    let word = c.put_text-word in (
      omega (arith, short c.args.room.area (search rules), short c.args.room.used (search rules), area.ensures.start, end.ensures.start, word.ensures.start),
      omega (arith, end.ensures.start, area.ensures.start, word.ensures.start, end.auto.line, area.auto.buf, word.auto.line, c.requires),
    )

pub put_text-requires-clause-room : goal.put_text-requires-clause-room
put_text-requires-clause-room c =
    omega (
      arith,
      short c.args.room.area (search rules),
      short c.args.room.used (search rules),
      c.put_text-end.ensures.start,
      c.write_digits-area.ensures.start,
      c.put_text-word.ensures.start,
      c.write_digits-used.ensures.start,
    )

pub returns-clause-line : goal.returns-clause-line
returns-clause-line c =
    let end = c.put_text-end in
    let room = c.args.room in
    c.put_text.ensures.written
    ∙ ap (λ (x : List ℕ). codes "used " ++ x) (c.write_digits-used.ensures.written
    ∙ ap (λ (x : List ℕ). decimal room.used ++ x) (c.put_text-word.ensures.written
    ∙ ap (λ (x : List ℕ). codes " of " ++ x) (c.write_digits-area.ensures.written
    ∙ ap (λ (x : List ℕ). decimal room.area ++ x) (feed end.result (codes "\n") c.args.line.now end.new.line (omega (arith, c.requires)) end.ensures.written))))
