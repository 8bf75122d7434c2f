use Rattle.std.proofs.Common.{◌≢◌, ℕ, ◌<◌, Some}
use Rattle.doip_json.specs.Pointer.{unescaped}
use Rattle.doip_json.specs.Places.{key_of}
use Rattle.doip_json.proofs.pointer.named.Given as goal

abbrev pub invariant-loop-i : goal.invariant-loop-i
invariant-loop-i l = (j : ℕ) → j < l.i → unescaped l.token ≢ Some (key_of l.map j)
