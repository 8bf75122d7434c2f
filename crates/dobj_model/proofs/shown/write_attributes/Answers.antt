use Rattle.std.proofs.Common.{◌++◌, drop, take, length, ap, ◌∙◌, arith}
use Rattle.std.proofs.lemmas.List.{take_all}
use Rattle.std.proofs.lemmas.Result.{on_ok_weaker}
use Rattle.doip_json.specs.Value.{entries_from}
use Rattle.doip_json.specs.Tokens.{entry_tokens}
use Rattle.dobj_model.proofs.Written.{attributes_written}
use Rattle.dobj_model.proofs.shown.write_attributes.Goals as goal

pub returns-clause-ok : goal.returns-clause-ok
returns-clause-ok c =
    let es = c.args.attributes.now in
    let place = c.place_of_metadata-place.result in
    let rest =
    ap (λ n. entry_tokens (entries_from (drop place (take n es)))) c.len.ensures.len
    ∙ ap (λ fs. entry_tokens (entries_from (drop place fs))) (take_all (length es) es (omega arith)) in
    let last = c.in_ok-write_entries-2.ensures.ok ∙ ap (λ ts. c.write_metadata.new.out.tokens ++ ts) rest in
    on_ok_weaker c.end_object.result
    (attributes_written c.args.out.now.tokens c.begin_object.new.self.tokens c.write_entries.new.out.tokens
    c.key.new.self.tokens c.write_metadata.new.out.tokens
    c.write_entries-2.new.out.tokens c.end_object.new.self.tokens es c.args.metadata.now place
    c.place_of_metadata-place.ensures
    c.in_ok-begin_object.ensures.ok c.in_ok-write_entries.ensures.ok c.in_ok-key.ensures.ok
    c.in_ok-write_metadata.ensures.ok last)
    c.end_object.ensures.ok
