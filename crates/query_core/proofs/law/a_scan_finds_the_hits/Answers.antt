use Rattle.query_core.proofs.SetLemmas.{scanned}
use Rattle.query_core.proofs.law.a_scan_finds_the_hits.Goals as goal

pub returns : goal.returns
returns c = scanned
