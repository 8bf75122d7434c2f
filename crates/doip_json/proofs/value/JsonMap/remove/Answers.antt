use Rattle.std.proofs.Common.{◌≡◌, sym, subst, ap, ◌∙◌}
use Rattle.doip_json.specs.Value.{table, entries_from}
use Rattle.doip_json.specs.Sound.{IsSound}
use Rattle.doip_json.specs.Meaning.{value_of, pairs_of}
use Rattle.doip_json.specs.Look.{entry_of}
use Rattle.doip_json.specs.Places.{IsPlaceOf}
use Rattle.doip_json.proofs.Entries.{value_read, ascends}
use Rattle.doip_json.proofs.Found.{found, absent}
use Rattle.doip_json.proofs.Removed.{without, removed_at, kept_at, sound_without, gone, others_kept, pairs_removed}
use Rattle.doip_json.proofs.value.JsonMap.remove.Goals as goal
use Rattle.doip_json.proofs.value.JsonMap.remove.Goals.{After-drop-remove}

place : (c : After-drop-remove) → IsPlaceOf c.args.key.now (pairs_of c.self.inside.entries.items) c.in-Ok.at
place c = rw c.self.view_is c.in-Ok.ensures.found

-- what is left is the entries without the key
left : (c : After-drop-remove) → pairs_of c.remove-value.new.self.items ≡ without c.args.key.now (pairs_of c.self.inside.entries.items)
left c =
    let es = c.self.inside.entries.items in
    ap pairs_of c.remove-value.ensures.items ∙ pairs_removed es c.in-Ok.at
    ∙ sym (removed_at (pairs_of es) c.args.key.now c.in-Ok.at (ascends _ c.self.invariant) (place c).within (place c).has_key)

pub invariant_of-self : goal.invariant_of-self
invariant_of-self c =
    subst (λ ps. IsSound (table (entries_from ps))) (sym (left c)) (sound_without c.args.key.now (pairs_of c.self.inside.entries.items) c.self.invariant)

pub returns-in-Ok-clause-value : goal.returns-in-Ok-clause-value
returns-in-Ok-clause-value c =
    let es = c.self.inside.entries.items in
    let read = value_read es c.in-Ok.at c.remove-value.result (place c).within c.remove-value.ensures.value in
    let here = found (pairs_of es) c.args.key.now c.in-Ok.at (value_of c.remove-value.result.1) (ascends _ c.self.invariant) (place c).within (place c).has_key read in
    sym here ∙ ap (λ ps. entry_of c.args.key.now (entries_from ps)) c.self.view_is

pub returns-in-Ok-clause-rest : goal.returns-in-Ok-clause-rest
returns-in-Ok-clause-rest c = left c ∙ ap (without c.args.key.now) c.self.view_is

pub returns-in-Ok-clause-gone : goal.returns-in-Ok-clause-gone
returns-in-Ok-clause-gone c =
    ap (λ ps. entry_of c.args.key.now (entries_from ps)) (left c) ∙ gone _ c.args.key.now (ascends _ c.self.invariant)

pub returns-in-Ok-clause-others : goal.returns-in-Ok-clause-others
returns-in-Ok-clause-others c = λ other h.
    ap (λ ps. entry_of other (entries_from ps)) (left c) ∙ others_kept _ c.args.key.now other h
    ∙ ap (λ ps. entry_of other (entries_from ps)) c.self.view_is

pub returns-in-Err-clause-value : goal.returns-in-Err-clause-value
returns-in-Err-clause-value c = sym (absent c.args.self.now c.args.key.now c.in-Err.field-0 c.in-Err.ensures.absent)

pub returns-in-Err-clause-rest : goal.returns-in-Err-clause-rest
returns-in-Err-clause-rest c = sym (kept_at c.args.self.now c.args.key.now c.in-Err.field-0 c.in-Err.ensures.absent)

pub returns-in-Err-clause-gone : goal.returns-in-Err-clause-gone
returns-in-Err-clause-gone c = absent c.args.self.now c.args.key.now c.in-Err.field-0 c.in-Err.ensures.absent
