use Rattle.std.proofs.Common.{length, unwrap_or, ap, arith}
use Rattle.std.specs.List.{flat_map}
use Rattle.doip_json.specs.Text.{text_of}
use Rattle.dobj_model.specs.Shown.{shown_form}
use Rattle.record_core.specs.Body.{body, payload}
use Rattle.record_core.proofs.Written.{head_length, removal_length, counter_length}
use Rattle.record_core.proofs.writing.body_length.Goals as goal

pub returns-in-Put-clause-length : goal.returns-in-Put-clause-length
returns-in-Put-clause-length c =
    let o = c.in-Put.object in
    omega (
      arith,
      ap (λ x. length (body x)) c.in-Put.is,
      head_length (unwrap_or c.in-Put.counter 0) (text_of (shown_form o)) (length o.elements) (flat_map payload o.elements),
      c.shown_length.ensures.length,
      c.payloads_length.ensures.length,
      ap (λ es. length (flat_map payload es)) c.elements.ensures,
    )

pub returns-in-Remove-clause-length : goal.returns-in-Remove-clause-length
returns-in-Remove-clause-length c =
    omega (arith, ap (λ x. length (body x)) c.in-Remove.is, removal_length (length c.in-Remove.id) c.in-Remove.id, ap length c.get.ensures.text)

pub returns-in-Counter-clause-length : goal.returns-in-Counter-clause-length
returns-in-Counter-clause-length c = omega (arith, ap (λ x. length (body x)) c.in-Counter.is, counter_length c.in-Counter.n)
