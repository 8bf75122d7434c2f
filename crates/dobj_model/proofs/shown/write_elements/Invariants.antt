use Rattle.std.proofs.Common.{◌≡◌, ◌∷◌, ◌++◌, map, take}
use Rattle.json.specs.Token.{begin_array}
use Rattle.doip_json.specs.Tokens.{item_tokens}
use Rattle.doip_json.specs.Value.{values_from}
use Rattle.dobj_model.specs.Shown.{element_form}
use Rattle.dobj_model.proofs.shown.write_elements.Given as goal

abbrev pub invariant-loop-i : goal.invariant-loop-i
invariant-loop-i l = record {
  written : l.out.tokens ≡ l.fn.out.tokens ++ begin_array ∷ item_tokens
      (values_from (map element_form (take l.i l.elements)));
  before : l.out.before ≡ l.fn.out.before;
}
