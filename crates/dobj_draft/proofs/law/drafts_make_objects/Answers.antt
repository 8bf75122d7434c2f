use Rattle.dobj_draft.proofs.Making.{brought_elements, brought_object}
use Rattle.dobj_draft.proofs.law.drafts_make_objects.Goals as goal

pub returns-clause-elements : goal.returns-clause-elements
returns-clause-elements c = brought_elements

pub returns-clause-objects : goal.returns-clause-objects
returns-clause-objects c = brought_object
