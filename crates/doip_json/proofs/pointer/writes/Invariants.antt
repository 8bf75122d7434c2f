use Rattle.std.proofs.Common.{◌≡◌, ◌-◌, ◌≤◌, ◌↔◌, Some, length, drop}
use Rattle.doip_json.specs.Pointer.{unescaped}
use Rattle.doip_json.proofs.pointer.writes.Given as goal

abbrev pub invariant-loop-at : goal.invariant-loop-at
invariant-loop-at l = record {
  same : (unescaped l.token ≡ Some l.key) ↔ (unescaped (drop l.at l.token) ≡ Some (drop l.matched l.key));
  at : l.at ≤ length l.token;
  matched : l.matched ≤ length l.key;
}

abbrev pub decreases-loop-at : goal.decreases-loop-at
decreases-loop-at l = length l.token - l.at
