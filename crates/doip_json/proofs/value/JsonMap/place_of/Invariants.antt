use Rattle.std.proofs.Common.{◌≡◌, ℕ, ◌-◌, ◌<◌, ◌≤◌, length}
use Rattle.std.specs.declared.cmp.Ordering.TheVariants.{Less, Greater}
use Rattle.doip_json.specs.Meaning.{pairs_of}
use Rattle.doip_json.specs.Places.{key_of}
use Rattle.doip_json.proofs.Ascending.{compared}
use Rattle.doip_json.proofs.value.JsonMap.place_of.Given as goal

abbrev pub invariant-loop-low : goal.invariant-loop-low
invariant-loop-low l =
    let es = pairs_of l.self-inside.entries.items in record {
      within : l.low ≤ l.high;
      ends : l.high ≤ length es;
      lower : (j : ℕ) → j < l.low → compared (key_of es j) l.key ≡ Less;
      greater : (j : ℕ) → l.high ≤ j → j < length es → compared (key_of es j) l.key ≡ Greater;
    }

abbrev pub decreases-loop-low : goal.decreases-loop-low
decreases-loop-low l = l.high - l.low
