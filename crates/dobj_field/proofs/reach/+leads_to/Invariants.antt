use Rattle.std.proofs.Common.{◌≡◌, length, map, drop}
use Rattle.std.specs.List.{list_any, flat_map}
use Rattle.doip_json.specs.Meaning.{value_of}
use Rattle.dobj_field.specs.Reach.{led_to, passes}
use Rattle.dobj_field.proofs.reach.+leads_to.Given as goal

abbrev pub decreases-leads_to : goal.decreases-leads_to
decreases-leads_to l = length l.tokens.now

abbrev pub invariant-loop-item : goal.invariant-loop-item
invariant-loop-item l = list_any (passes l.test) (flat_map (led_to l.rest) (map value_of l.item-items))
    ≡ list_any (passes l.test) (flat_map (led_to l.rest) (map value_of (drop l.item-index l.item-items)))
