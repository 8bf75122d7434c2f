use Rattle.dobj_draft.proofs.Brought.{text_brings, property_brings}
use Rattle.dobj_draft.proofs.law.messages_bring_values.Goals as goal

pub returns-clause-texts : goal.returns-clause-texts
returns-clause-texts c = text_brings

pub returns-clause-properties : goal.returns-clause-properties
returns-clause-properties c = property_brings
