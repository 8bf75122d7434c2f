use Rattle.std.proofs.Common.{Some, sym, ap, ◌∙◌, option_map}
use Rattle.doip_json.specs.Meaning.{value_of}
use Rattle.doip_message.specs.Reading.{authentication_in}
use Rattle.doip_message.proofs.Properties.{some_authentication}
use Rattle.doip_message.proofs.reading.authentication_of.Goals as goal

pub returns-else-len-eq0 : goal.returns-else-len-eq0
returns-else-len-eq0 c =
    some_authentication c.in-Some-Table.entries (λ e. c.if-len-eq0.false (c.len.ensures.len ∙ e))
    ∙ sym (ap (λ p. authentication_in (option_map value_of p)) (c.in-Some-Table.is ∙ ap Some c.in-Some-Table.field-0-is))
