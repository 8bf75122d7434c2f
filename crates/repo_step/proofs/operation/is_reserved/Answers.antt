use Rattle.std.proofs.Common.{refl}
use Rattle.repo_step.proofs.NameLemmas.{other_text}
use Rattle.repo_step.proofs.operation.is_reserved.Goals as goal

pub returns-in_default : goal.returns-in_default
returns-in_default c =
    let other = c.in_default in
    other_text _ _ _ other.not-text (other_text _ _ _ other.not-text-2 (other_text _ _ _ other.not-text-3 (other_text _ _ _ other.not-text-4
    (other_text _ _ _ other.not-text-5 (other_text _ _ _ other.not-text-6 (other_text _ _ _ other.not-text-7
    (other_text _ _ _ other.not-text-8 refl)))))))
