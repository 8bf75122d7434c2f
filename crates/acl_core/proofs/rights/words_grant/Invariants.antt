use Rattle.std.proofs.Common.{◌≡◌, drop, option_map}
use Rattle.std.specs.List.{list_any}
use Rattle.doip_json.specs.Value.{values_from}
use Rattle.acl_core.specs.Granting.{texts_in}
use Rattle.acl_core.specs.Rights.{grants}
use Rattle.acl_core.proofs.rights.words_grant.Given as goal

abbrev pub invariant-loop-i : goal.invariant-loop-i
invariant-loop-i g l =
    let test = grants (g.G.Groups.is_in l.groups) (option_map (λ name. name.now) l.creator) (option_map (λ name. name.now) l.own) l.caller in
    list_any test (texts_in (values_from l.words)) ≡ list_any test (texts_in (values_from (drop l.i l.words)))
