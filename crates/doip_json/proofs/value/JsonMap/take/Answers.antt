use Rattle.std.proofs.Common.{Some, sym, subst, ap, ◌∙◌}
use Rattle.std.specs.BTreeMap.{insert_entry}
use Rattle.doip_json.specs.Value.{table, entries_from, null}
use Rattle.doip_json.specs.Sound.{IsSound}
use Rattle.doip_json.specs.Meaning.{value_of, pairs_of}
use Rattle.doip_json.specs.Look.{entry_of}
use Rattle.doip_json.specs.Places.{IsPlaceOf}
use Rattle.doip_json.proofs.Ascending.{compared}
use Rattle.doip_json.proofs.Entries.{written_over, value_read, sound_put, ascends}
use Rattle.doip_json.proofs.Found.{found, absent}
use Rattle.doip_json.proofs.Taken.{put_others}
use Rattle.doip_json.proofs.value.JsonMap.take.Goals as goal

pub invariant_of-self : goal.invariant_of-self
invariant_of-self c =
    let es = c.self.inside.entries.items in
    let place : IsPlaceOf c.args.key.now (pairs_of es) c.in-Ok.at = rw c.self.view_is c.in-Ok.ensures.found in
    let over = written_over es c.args.key.now c.replace.new.dest c.in-Ok.at c.index_mut.result.now c.self.invariant place c.index_mut.ensures.value in
    let put = over ∙ ap (λ j. insert_entry compared (pairs_of es) c.args.key.now (value_of j)) c.replace.ensures.after in
    subst (λ ps. IsSound (table (entries_from ps))) (sym put) (sound_put (pairs_of es) c.args.key.now null c.self.invariant c.utf8.key tt)

pub returns-in-Ok-clause-value : goal.returns-in-Ok-clause-value
returns-in-Ok-clause-value c =
    let es = c.self.inside.entries.items in
    let place : IsPlaceOf c.args.key.now (pairs_of es) c.in-Ok.at = rw c.self.view_is c.in-Ok.ensures.found in
    let read = value_read es c.in-Ok.at c.index_mut.result.now place.within c.index_mut.ensures.value in
    let here = found (pairs_of es) c.args.key.now c.in-Ok.at (value_of c.index_mut.result.now.1) (ascends _ c.self.invariant) place.within place.has_key read in
    ap (λ j. Some (value_of j)) c.replace.ensures.value ∙ sym here ∙ ap (λ ps. entry_of c.args.key.now (entries_from ps)) c.self.view_is

pub returns-in-Ok-clause-some : goal.returns-in-Ok-clause-some
returns-in-Ok-clause-some c = λ _.
    let es = c.self.inside.entries.items in
    let place : IsPlaceOf c.args.key.now (pairs_of es) c.in-Ok.at = rw c.self.view_is c.in-Ok.ensures.found in
    written_over es c.args.key.now c.replace.new.dest c.in-Ok.at c.index_mut.result.now c.self.invariant place c.index_mut.ensures.value
    ∙ ap (λ j. insert_entry compared (pairs_of es) c.args.key.now (value_of j)) c.replace.ensures.after
    ∙ ap (λ ps. insert_entry compared ps c.args.key.now null) c.self.view_is

pub returns-in-Ok-clause-others : goal.returns-in-Ok-clause-others
returns-in-Ok-clause-others c = λ other h.
    let es = c.self.inside.entries.items in
    let place : IsPlaceOf c.args.key.now (pairs_of es) c.in-Ok.at = rw c.self.view_is c.in-Ok.ensures.found in
    let over = written_over es c.args.key.now c.replace.new.dest c.in-Ok.at c.index_mut.result.now c.self.invariant place c.index_mut.ensures.value in
    ap (λ ps. entry_of other (entries_from ps)) over ∙ put_others (pairs_of es) c.args.key.now other (value_of c.replace.new.dest) h
    ∙ ap (λ ps. entry_of other (entries_from ps)) c.self.view_is

pub returns-in-Err-clause-value : goal.returns-in-Err-clause-value
returns-in-Err-clause-value c = sym (absent c.args.self.now c.args.key.now c.in-Err.field-0 c.in-Err.ensures.absent)
