use Rattle.std.proofs.Common.{length, pos, ap, arith}
use Rattle.std.specs.Fmt.{signed_decimal}
use Rattle.doip_json.specs.Text.{string_of}
use Rattle.dobj_model.proofs.Forms.{element_total, element_sound}
use Rattle.dobj_model.proofs.measure.element_length.Goals as goal

pub returns-clause-length : goal.returns-clause-length
returns-clause-length c =
    let e = c.args.element.now in
    let named = ap (λ s. length (string_of s)) c.get.ensures.text in
    let sized = ap (λ b. length (signed_decimal (pos (length b)))) c.get-2.ensures in
    omega (
      arith,
      element_total e.attributes e.id (length e.bytes) e.type_name,
      named,
      sized,
      c.attributes_entry_length.ensures.length,
      c.type_entry_length.ensures.length,
      c.string_length.ensures,
      c.digits_of.ensures.digits,
      c.saturating_add.ensures,
      c.saturating_add-2.ensures,
      c.saturating_add-3.ensures,
      c.saturating_add-4.ensures,
    )

pub returns-clause-sound : goal.returns-clause-sound
returns-clause-sound c =
    let e = c.args.element.now in
    element_sound e.attributes e.id (length e.bytes) e.type_name c.attributes_entry_length.ensures.sound
    c.type_entry_length.ensures.sound c.get.ensures.utf8
    (omega (arith, c.digits_of.ensures.range, ap length c.get-2.ensures))
