use Rattle.std.proofs.Common.{◌≡◌, List, ◌++◌, take, drop}
use Rattle.std.specs.List.{flat_map}
use Rattle.dobj_model.specs.declared.elements.Element.{Element}
use Rattle.record_core.specs.Body.{payload}
use Rattle.record_core.specs.Cuts.{AreListed}
use Rattle.record_core.proofs.elements.listed_with_bytes.Given as goal

abbrev pub invariant-elements : goal.invariant-elements
invariant-elements l = record {
  bytes : l.payloads ≡ flat_map payload l.made.items ++ l.rest;
  found : (es : List Element) → AreListed l.items l.payloads es → (l.made.items ≡ take l.i es) × (l.rest ≡ flat_map payload (drop l.i es));
}
