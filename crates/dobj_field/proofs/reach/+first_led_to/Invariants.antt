use Rattle.std.proofs.Common.{◌≡◌, length, map, drop}
use Rattle.std.specs.List.{find, flat_map}
use Rattle.doip_json.specs.Meaning.{value_of}
use Rattle.dobj_field.specs.Reach.{led_to, is_scalar}
use Rattle.dobj_field.proofs.reach.+first_led_to.Given as goal

abbrev pub decreases-first_led_to : goal.decreases-first_led_to
decreases-first_led_to l = length l.tokens.now

abbrev pub invariant-loop-item : goal.invariant-loop-item
invariant-loop-item l = find is_scalar (flat_map (led_to l.rest) (map value_of l.item-items))
    ≡ find is_scalar (flat_map (led_to l.rest) (map value_of (drop l.item-index l.item-items)))
