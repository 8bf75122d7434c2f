use Rattle.std.proofs.Common.{◌++◌, sym, subst, ap, ◌∙◌}
use Rattle.doip_json.specs.Meaning.{value_of}
use Rattle.doip_json.specs.Text.{text_of, IsOneLine}
use Rattle.doip_json.proofs.Shape.{IsOneLine-text_of}
use Rattle.doip_json.proofs.writing.text.Goals as goal

pub returns-clause-one_line : goal.returns-clause-one_line
returns-clause-one_line c =
    let v = value_of c.args.value.now in
    let made = c.from.ensures ∙ (c.in_ok-append_text.ensures.ok ∙ ap (λ bs. bs ++ text_of v) c.new-out.ensures.items) in
    subst IsOneLine (sym made) (IsOneLine-text_of v c.recall.ensures)
