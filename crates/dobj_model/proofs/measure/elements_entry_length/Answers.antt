use Rattle.std.proofs.Common.{◌≢◌, [], map, ap, subst, arith}
use Rattle.doip_json.specs.Value.{values_from}
use Rattle.doip_json.specs.Sound.{AreSound}
use Rattle.dobj_model.specs.Lengths.{items_total}
use Rattle.dobj_model.specs.Shown.{element_form}
use Rattle.dobj_model.proofs.Forms.{entry_total_of, entry_sound_of}
use Rattle.dobj_model.proofs.measure.elements_entry_length.Goals as goal

pub returns-clause-length : goal.returns-clause-length
returns-clause-length c =
    let some : c.args.elements.now ≢ [] = λ none. absurd (let no = c.if-is_empty.ensures.1 none in cc) in
    let same = ap (λ es. items_total (map element_form es)) c.as_slice.ensures.items in
    omega (
      arith,
      entry_total_of c.args.elements.now some,
      same,
      c.elements_length.ensures.length,
      c.saturating_add.ensures,
    )

pub returns-clause-sound : goal.returns-clause-sound
returns-clause-sound c =
    entry_sound_of c.args.elements.now (subst
    (λ es. AreSound (values_from (map element_form es))) c.as_slice.ensures.items c.elements_length.ensures.sound)
