use Rattle.std.proofs.Common.{◌∙◌, sym, ap}
use Rattle.record_core.specs.declared.format.Format.TheVariants.{Second}
use Rattle.repo_state.specs.Contents.{replay}
use Rattle.repo_state.specs.Compacted.{compacted}
use Rattle.repo_state.proofs.RecordLemmas.{one_list, numbered}
use Rattle.repo_state.proofs.RestoreLemmas.{restores}
use Rattle.repo_state.proofs.Soundness.{none_from_sound}
use Rattle.repo_state.proofs.law.compaction_keeps_contents.Goals as goal

pub returns : goal.returns
returns c =
    let one = one_list c.bodies_decide_changes.ensures in
    record {
      changes = λ d is. restores d is.named;
      records = λ records d changes is p q.
          ap replay (sym (one Second records (compacted d) changes p q)) ∙ restores d is.named;
      sound = λ d is. none_from_sound d.objects is.sound;
      numbered = numbered;
    }
