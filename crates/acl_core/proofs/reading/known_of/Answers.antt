use Rattle.std.proofs.Common.{codes, option_map, sym, ap, ◌∙◌}
use Rattle.doip_json.specs.Look.{field_of}
use Rattle.doip_json.specs.Meaning.{value_of}
use Rattle.acl_core.specs.Table.{table_accounts}
use Rattle.acl_core.proofs.NameLemmas.{listed_named}
use Rattle.acl_core.proofs.reading.known_of.Goals as goal

pub of-requires : goal.of-requires
of-requires c = listed_named (field_of (codes "accounts") (value_of c.args.value.now)) (table_accounts c.in-Some.table) (sym c.in_ok-table.ensures ∙ ap (option_map table_accounts) c.in-Some.is)
