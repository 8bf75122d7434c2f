use Rattle.std.proofs.Common.{codes, refl, sym, subst}
use Rattle.doip_json.specs.Value.{text, entries_from}
use Rattle.doip_json.specs.Sound.{EntriesAreSound}
use Rattle.dobj_model.specs.Shown.{optional}
use Rattle.dobj_model.proofs.Forms.{letters}
use Rattle.dobj_model.proofs.measure.type_entry_length.Goals as goal

pub returns-in-Some-clause-sound : goal.returns-in-Some-clause-sound
returns-in-Some-clause-sound c =
    subst (λ o. EntriesAreSound (entries_from (optional (codes "type") text o))) (sym c.in-Some.is)
    (letters _ refl, c.get.ensures.utf8, tt)
