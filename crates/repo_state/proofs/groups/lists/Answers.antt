use Rattle.std.proofs.Common.{ap, sym, ◌∙◌}
use Rattle.std.specs.List.{list_any}
use Rattle.doip_json.proofs.PlainLists.{values_listed}
use Rattle.repo_state.specs.Groups.{is_string}
use Rattle.repo_state.proofs.groups.lists.Goals as goal

pub returns-in-Items : goal.returns-in-Items
returns-in-Items c =
    rw c.in-Items.is (c.has_string.ensures ∙ ap (list_any (is_string c.args.word.now)) (sym (values_listed c.in-Items.items)))
