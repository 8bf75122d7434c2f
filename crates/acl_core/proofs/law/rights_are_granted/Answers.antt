use Rattle.acl_core.proofs.GrantLemmas.{word_decides, right_decides, create_decides}
use Rattle.acl_core.proofs.law.rights_are_granted.Goals as goal

pub returns-clause-word : goal.returns-clause-word
returns-clause-word c = word_decides

pub returns-clause-right : goal.returns-clause-right
returns-clause-right c = λ is_in caller right o lists. right_decides is_in caller right o lists

pub returns-clause-create : goal.returns-clause-create
returns-clause-create c = create_decides
