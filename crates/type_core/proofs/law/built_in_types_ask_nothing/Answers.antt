use Rattle.std.proofs.Common.{option_map, ap}
use Rattle.type_core.specs.Names.{checked_content}
use Rattle.type_core.specs.Checked.{failure_of}
use Rattle.type_core.proofs.PlainLemmas.{nothing_fails, nothing_refers}
use Rattle.type_core.proofs.law.built_in_types_ask_nothing.Goals as goal

pub returns : goal.returns
returns c = record {
  valid = λ o. ap (option_map failure_of) (nothing_fails (checked_content o));
  references = λ o. nothing_refers (checked_content o);
}
