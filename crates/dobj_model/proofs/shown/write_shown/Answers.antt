use Rattle.std.proofs.Common.{[], ◌∷◌, ◌++◌, codes, ap, ◌∙◌}
use Rattle.std.proofs.lemmas.Result.{on_ok_weaker}
use Rattle.json.specs.Token.{key, string}
use Rattle.dobj_model.specs.Shown.{with_metadata}
use Rattle.dobj_model.proofs.Written.{shown_written}
use Rattle.dobj_model.proofs.shown.write_shown.Goals as goal

pub returns-clause-ok : goal.returns-clause-ok
returns-clause-ok c =
    let o = c.args.value.now in
    let named =
    c.in_ok-write_text_entry.ensures.ok
    ∙ ap (λ s. c.write_elements_entry.new.out.tokens ++ key (codes "id") ∷ string s ∷ []) c.get.ensures.text in
    let typed =
    c.in_ok-write_text_entry-2.ensures.ok
    ∙ ap (λ s. c.write_text_entry.new.out.tokens ++ key (codes "type") ∷ string s ∷ []) c.get-2.ensures.text in
    on_ok_weaker c.end_object.result
    (shown_written c.args.out.now.tokens c.begin_object.new.self.tokens c.key.new.self.tokens
    c.write_attributes.new.out.tokens c.write_elements_entry.new.out.tokens
    c.write_text_entry.new.out.tokens c.write_text_entry-2.new.out.tokens c.end_object.new.self.tokens
    (with_metadata o.attributes o.metadata) o.elements o.id o.type_name
    c.in_ok-begin_object.ensures.ok c.in_ok-key.ensures.ok c.in_ok-write_attributes.ensures.ok
    c.in_ok-write_elements_entry.ensures.ok named typed)
    c.end_object.ensures.ok
