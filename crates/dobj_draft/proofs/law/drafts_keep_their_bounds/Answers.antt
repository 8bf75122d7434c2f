use Rattle.dobj_draft.proofs.Making.{brought_within}
use Rattle.dobj_draft.proofs.law.drafts_keep_their_bounds.Goals as goal

pub returns : goal.returns
returns c = brought_within
