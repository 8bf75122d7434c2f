use Rattle.std.proofs.Common.{◌++◌, List, ℕ, codes, decimal, sym, ap, ◌∙◌, arith, rules}
use Rattle.repo_top.specs.Rewrites.{migrated_line}
use Rattle.repo_top.proofs.Lines.{short, feed}
use Rattle.repo_top.proofs.migrate.write_migrated.Goals as goal

pub write_digits-digits-requires : goal.write_digits-digits-requires
write_digits-digits-requires c =
    let end = c.put_text-end in
    (omega (arith, short c.in-Done.objects (search rules), end.ensures.start), omega (arith, end.ensures.start, end.auto.line, c.requires))

pub put_text-requires-clause-room : goal.put_text-requires-clause-room
put_text-requires-clause-room c =
    omega (arith, short c.in-Done.objects (search rules), c.write_digits-digits.ensures.start, c.put_text-end.ensures.start)

pub returns-in-Done-clause-line : goal.returns-in-Done-clause-line
returns-in-Done-clause-line c =
    let end = c.put_text-end in
    c.put_text.ensures.written
    ∙ ap (λ (x : List ℕ). codes "migrated " ++ x) (c.write_digits-digits.ensures.written
    ∙ ap (λ (x : List ℕ). decimal c.in-Done.objects ++ x) (feed end.result (codes "\n") c.args.line.now end.new.line (omega (arith, c.requires)) end.ensures.written))
    ∙ ap migrated_line (sym c.in-Done.is)

pub returns-in-Already-clause-line : goal.returns-in-Already-clause-line
returns-in-Already-clause-line c =
    let all = c.put_text-in-Already in
    feed all.result (codes "already 2\n") c.args.line.now all.new.line (omega (arith, c.requires)) all.ensures.written
    ∙ ap migrated_line (sym c.in-Already.is)
