use Rattle.std.proofs.Common.{ℕ, List, [], ◌∷◌, replicate, sym, ◌∙◌, ap, append_assoc}
use Rattle.journal_core.specs.File.{big_endian}
use Rattle.journal_core.proofs.Fields.{is_big_endian}
use Rattle.journal_core.proofs.create.first_bytes.Goals as goal

pub returns : goal.returns
returns c =
    let field = c.copy_from_slice-2.ensures.after ∙ is_big_endian c.to_be_bytes.result c.args.area c.to_be_bytes.ensures in
    rw (c.copy_from_slice.ensures.after, field)
    (ap (λ (l : List ℕ). 0 ∷ 79 ∷ 73 ∷ 80 ∷ 82 ∷ 69 ∷ 80 ∷ 49 ∷ l) (sym (append_assoc (big_endian c.args.area) (0 ∷ replicate 15 0) (2 ∷ 0 ∷ []))))
