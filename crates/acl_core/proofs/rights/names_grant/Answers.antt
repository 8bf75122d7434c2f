use Rattle.std.proofs.Common.{option_map, ap, ◌∙◌}
use Rattle.acl_core.specs.Rights.{grants}
use Rattle.acl_core.proofs.WordLemmas.{name_grants, name_passes}
use Rattle.acl_core.proofs.rights.names_grant.Goals as goal

pub returns-then-word_grants : goal.returns-then-word_grants
returns-then-word_grants g c =
    let test = grants (g.G.Groups.is_in c.args.groups.now) (option_map (λ name. name.now) c.args.creator) (option_map (λ name. name.now) c.args.own) c.args.caller.now in
    name_grants test c.args.names.now c.loop-i.i c.item.result.now c.word_grants.result c.item.ensures (c.word_grants.ensures ∙ ap test c.get.ensures.text) c.if-word_grants.true c.loop-i.invariant

pub loop-i-preserved : goal.loop-i-preserved
loop-i-preserved g c =
    let test = grants (g.G.Groups.is_in c.args.groups.now) (option_map (λ name. name.now) c.args.creator) (option_map (λ name. name.now) c.args.own) c.args.caller.now in
    name_passes test c.args.names.now c.loop-i.i c.item.result.now c.word_grants.result c.item.ensures (c.word_grants.ensures ∙ ap test c.get.ensures.text) c.if-word_grants.false c.loop-i.invariant
