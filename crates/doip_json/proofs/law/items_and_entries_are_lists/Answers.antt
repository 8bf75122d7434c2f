use Rattle.doip_json.proofs.PlainLists.{values_back, values_listed, entries_back, entries_listed}
use Rattle.doip_json.proofs.law.items_and_entries_are_lists.Goals as goal

pub returns-clause-values : goal.returns-clause-values
returns-clause-values c = values_back

pub returns-clause-listed_values : goal.returns-clause-listed_values
returns-clause-listed_values c = values_listed

pub returns-clause-entries : goal.returns-clause-entries
returns-clause-entries c = entries_back

pub returns-clause-listed_entries : goal.returns-clause-listed_entries
returns-clause-listed_entries c = entries_listed
