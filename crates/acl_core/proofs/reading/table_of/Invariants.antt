use Rattle.std.proofs.Common.{◌≡◌, ◌++◌, true, option_map}
use Rattle.doip_json.specs.Value.{values_from}
use Rattle.acl_core.specs.File.{each_in, are_different}
use Rattle.acl_core.specs.Table.{table_accounts}
use Rattle.acl_core.proofs.ListLemmas.{rest_in}
use Rattle.acl_core.proofs.reading.table_of.Given as goal

abbrev pub invariant-loop-i : goal.invariant-loop-i
invariant-loop-i l = record {
  read : each_in (values_from l.items) ≡ option_map (λ more. table_accounts l.table ++ more) (rest_in l.items l.i);
  different : are_different (table_accounts l.table) ≡ true;
}
