use Rattle.std.proofs.Common.{◌++◌, List, ℕ, codes, decimal, ap, ◌∙◌, arith, rules}
use Rattle.repo_top.proofs.Lines.{short, feed}
use Rattle.repo_top.proofs.init.write_line.Goals as goal

pub write_digits-digits-requires : goal.write_digits-digits-requires
write_digits-digits-requires c =
    let end = c.put_text-end in
    (omega (arith, short c.args.area (search rules), end.ensures.start), omega (arith, end.ensures.start, end.auto.line, c.requires))

pub put_text-requires-clause-room : goal.put_text-requires-clause-room
put_text-requires-clause-room c =
    omega (arith, short c.args.area (search rules), c.write_digits-digits.ensures.start, c.put_text-end.ensures.start)

pub returns-clause-line : goal.returns-clause-line
returns-clause-line c =
    let end = c.put_text-end in
    c.put_text.ensures.written
    ∙ ap (λ (x : List ℕ). codes "made " ++ x) (c.write_digits-digits.ensures.written
    ∙ ap (λ (x : List ℕ). decimal c.args.area ++ x) (feed end.result (codes "\n") c.args.line.now end.new.line (omega (arith, c.requires)) end.ensures.written))
