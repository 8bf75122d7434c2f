use Rattle.history_lock.specs.Passes.{left_of}
use Rattle.history_lock.proofs.tests.+add_all+fn-add_all-join_mut+arg3.Given as goal

abbrev pub decreases-add_all : goal.decreases-add_all
decreases-add_all g l = left_of l.passes.now

abbrev pub decreases-join_mut+arg3 : goal.decreases-join_mut+arg3
decreases-join_mut+arg3 g l = left_of l.passes.now
