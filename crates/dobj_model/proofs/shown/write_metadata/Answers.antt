use Rattle.std.proofs.Common.{[], ◌∷◌, ◌++◌, codes, ap, ◌∙◌}
use Rattle.std.proofs.lemmas.Result.{on_ok_weaker}
use Rattle.json.specs.Token.{key, string}
use Rattle.dobj_model.proofs.Written.{metadata_written}
use Rattle.dobj_model.proofs.shown.write_metadata.Goals as goal

pub returns-clause-ok : goal.returns-clause-ok
returns-clause-ok c =
    let by =
    c.in_ok-write_text_entry.ensures.ok
    ∙ ap (λ s. c.begin_object.new.self.tokens ++ key (codes "createdBy") ∷ string s ∷ []) c.get.ensures.text in
    let modified =
    c.in_ok-write_text_entry-2.ensures.ok
    ∙ ap (λ s. c.write_number_entry.new.out.tokens ++ key (codes "modifiedBy") ∷ string s ∷ []) c.get-2.ensures.text in
    on_ok_weaker c.end_object.result
    (metadata_written c.args.out.now.tokens c.begin_object.new.self.tokens c.write_text_entry.new.out.tokens
    c.write_number_entry.new.out.tokens c.write_text_entry-2.new.out.tokens
    c.write_number_entry-2.new.out.tokens c.write_number_entry-3.new.out.tokens c.end_object.new.self.tokens
    c.args.metadata.now c.in_ok-begin_object.ensures.ok by
    c.in_ok-write_number_entry.ensures.ok modified c.in_ok-write_number_entry-2.ensures.ok
    c.in_ok-write_number_entry-3.ensures.ok)
    c.end_object.ensures.ok
