use Rattle.std.proofs.Common.{sym, subst, ap, ◌∙◌}
use Rattle.std.specs.BTreeMap.{insert_entry}
use Rattle.doip_json.specs.Value.{table, entries_from}
use Rattle.doip_json.specs.Sound.{IsSound}
use Rattle.doip_json.specs.Meaning.{value_of, pairs_of}
use Rattle.doip_json.proofs.Ascending.{compared}
use Rattle.doip_json.proofs.Entries.{written_over, added, sound_put}
use Rattle.doip_json.proofs.value.JsonMap.put.Goals as goal

pub invariant_of-self : goal.invariant_of-self
invariant_of-self c =
    let es = c.self.inside.entries.items in
    let place = rw c.get-2.ensures.text at c.in-Ok.ensures.found in
    let over = written_over es c.args.key c.args.value c.in-Ok.at c.index_mut.result.now c.self.invariant (rw c.self.view_is place) c.index_mut.ensures.value in
    subst (λ ps. IsSound (table (entries_from ps))) (sym over) (sound_put (pairs_of es) c.args.key (value_of c.args.value) c.self.invariant c.get.ensures.utf8 c.recall.ensures)

pub returns-in-Ok-clause-ok : goal.returns-in-Ok-clause-ok
returns-in-Ok-clause-ok c =
    let es = c.self.inside.entries.items in
    let place = rw c.get-2.ensures.text at c.in-Ok.ensures.found in
    written_over es c.args.key c.args.value c.in-Ok.at c.index_mut.result.now c.self.invariant (rw c.self.view_is place) c.index_mut.ensures.value
    ∙ ap (λ ps. insert_entry compared ps c.args.key (value_of c.args.value)) c.self.view_is

pub invariant_of-self-in-Err : goal.invariant_of-self-in-Err
invariant_of-self-in-Err c =
    let es = c.self.inside.entries.items in
    let gap = rw c.get-2.ensures.text at c.in-Err.ensures.absent in
    let more = ap pairs_of c.in_ok-insert-in-Err.ensures.items ∙ added es c.args.key c.args.value c.in-Err.at (rw c.self.view_is gap) in
    subst (λ ps. IsSound (table (entries_from ps))) (sym more) (sound_put (pairs_of es) c.args.key (value_of c.args.value) c.self.invariant c.get.ensures.utf8 c.recall.ensures)

pub returns-in_ok-insert-in-Err-clause-ok : goal.returns-in_ok-insert-in-Err-clause-ok
returns-in_ok-insert-in-Err-clause-ok c =
    let es = c.self.inside.entries.items in
    let gap = rw c.get-2.ensures.text at c.in-Err.ensures.absent in
    ap pairs_of c.in_ok-insert-in-Err.ensures.items ∙ added es c.args.key c.args.value c.in-Err.at (rw c.self.view_is gap)
    ∙ ap (λ ps. insert_entry compared ps c.args.key (value_of c.args.value)) c.self.view_is
