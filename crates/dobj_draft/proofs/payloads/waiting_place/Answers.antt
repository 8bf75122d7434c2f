use Rattle.std.proofs.Common.{sym, ◌∙◌}
use Rattle.dobj_draft.proofs.Pairs.{first_fills, waits_later, came_already, fills_later}
use Rattle.dobj_draft.proofs.payloads.waiting_place.Goals as goal

pub returns-then-is_none-clause-place : goal.returns-then-is_none-clause-place
returns-then-is_none-clause-place c =
    first_fills c.args.id.now c.args.elements.now c.loop-i.i c.index-elements-i.result c.index-elements-i.is
    c.loop-i-test.true (sym c.if-is_named.ensures) c.loop-i.invariant.fills

pub returns-else-is_none-clause-waits : goal.returns-else-is_none-clause-waits
returns-else-is_none-clause-waits c =
    sym (c.loop-i.invariant.waits
    ∙ came_already c.args.id.now c.args.elements.now c.loop-i.i c.index-elements-i.result
    c.index-elements-i-then-is_named.result c.index-elements-i.is c.loop-i-test.true (sym c.if-is_named.ensures)
    (sym c.if-is_none.ensures))

pub loop-i-preserved : goal.loop-i-preserved
loop-i-preserved c =
    let other = sym c.if-is_named.ensures in
    record {
      waits = c.loop-i.invariant.waits
          ∙ waits_later c.args.id.now c.args.elements.now c.loop-i.i c.index-elements-i.result c.index-elements-i.is
          c.loop-i-test.true other;
      fills = λ bytes. c.loop-i.invariant.fills bytes
          ∙ fills_later c.args.id.now c.args.elements.now c.loop-i.i c.index-elements-i.result c.index-elements-i.is
          c.loop-i-test.true other bytes;
    }
