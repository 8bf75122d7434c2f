use Rattle.journal_core.proofs.LawLemmas.{each_file}
use Rattle.journal_core.proofs.law.each_file_has_one_meaning.Goals as goal

pub returns : goal.returns
returns c = each_file
