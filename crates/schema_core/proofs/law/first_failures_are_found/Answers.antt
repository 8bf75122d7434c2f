use Rattle.schema_core.proofs.FirstFound.{first_is_found, valid_is_found, word_is_found, pointer_is_found}
use Rattle.schema_core.proofs.law.first_failures_are_found.Goals as goal

pub returns-clause-first : goal.returns-clause-first
returns-clause-first c = first_is_found

pub returns-clause-valid : goal.returns-clause-valid
returns-clause-valid c = valid_is_found

pub returns-clause-word : goal.returns-clause-word
returns-clause-word c = word_is_found

pub returns-clause-pointer : goal.returns-clause-pointer
returns-clause-pointer c = pointer_is_found
