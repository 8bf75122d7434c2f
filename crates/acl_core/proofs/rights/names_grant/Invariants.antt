use Rattle.std.proofs.Common.{◌≡◌, drop, option_map}
use Rattle.std.specs.List.{list_any}
use Rattle.acl_core.specs.Rights.{grants}
use Rattle.acl_core.proofs.rights.names_grant.Given as goal

abbrev pub invariant-loop-i : goal.invariant-loop-i
invariant-loop-i g l =
    let test = grants (g.G.Groups.is_in l.groups) (option_map (λ name. name.now) l.creator) (option_map (λ name. name.now) l.own) l.caller in
    list_any test l.names ≡ list_any test (drop l.i l.names)
