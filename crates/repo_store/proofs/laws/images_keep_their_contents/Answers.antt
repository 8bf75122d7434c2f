use Rattle.record_core.specs.declared.format.Format.TheVariants as bodies
use Rattle.repo_store.proofs.Since.{reopening}
use Rattle.repo_store.proofs.laws.images_keep_their_contents.Goals as goal

pub returns : goal.returns
returns c = reopening (λ records some others a b. c.records_decide_changes.ensures.one bodies.Second records some others a b)
    (λ records some place a b. c.records_decide_changes.ensures.read bodies.Second records some place a b)
    c.compaction_keeps_contents.ensures.sound
