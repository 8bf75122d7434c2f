use Rattle.std.proofs.Common.{◌≤◌, codes, length, ap, arith}
use Rattle.doip_json.specs.Text.{string_of}
use Rattle.doip_json.proofs.Entries.{sound_put}
use Rattle.dobj_model.specs.Lengths.{entries_total}
use Rattle.dobj_model.specs.Shown.{metadata_form, with_metadata}
use Rattle.dobj_model.proofs.Forms.{total-insert, form_length, form_sound, letters}
use Rattle.std.proofs.Common.{refl}
use Rattle.dobj_model.proofs.measure.shown_length.Goals as goal

pub returns-clause-length : goal.returns-clause-length
returns-clause-length c =
    let o = c.args.value.now in
    let all = total-insert o.attributes (codes "metadata") (metadata_form o.metadata) c.requires.apart in
    let some : 1 ≤ entries_total (with_metadata o.attributes o.metadata) = omega (arith, all) in
    let whole = form_length (with_metadata o.attributes o.metadata) o.elements o.id o.type_name some in
    let named = ap (λ s. length (string_of s)) c.get.ensures.text in
    let typed = ap (λ s. length (string_of s)) c.get-2.ensures.text in
    omega (
      arith,
      all,
      whole,
      named,
      typed,
      c.entries_length.ensures.length,
      c.metadata_length.ensures.length,
      c.saturating_add-attributes.ensures,
      c.elements_entry_length-elements.ensures.length,
      c.string_length-id.ensures,
      c.string_length-type_name.ensures,
      c.saturating_add.ensures,
      c.saturating_add-2.ensures,
      c.saturating_add-3.ensures,
      c.saturating_add-4.ensures,
    )

pub returns-clause-sound : goal.returns-clause-sound
returns-clause-sound c =
    let o = c.args.value.now in
    let shown =
    sound_put o.attributes (codes "metadata") (metadata_form o.metadata) c.entries_length.ensures.sound
    (letters _ refl) c.metadata_length.ensures.sound in
    form_sound (with_metadata o.attributes o.metadata) o.elements o.id o.type_name shown
    c.elements_entry_length-elements.ensures.sound c.get.ensures.utf8 c.get-2.ensures.utf8
