use Rattle.std.proofs.Common.{◌≡◌, ◌+◌, ◌-◌, ◌/◌, ◌<◌, length, arith, sym, ap, ◌∙◌}
use Rattle.std.specs.declared.cmp.Ordering.TheVariants.{Less, Greater}
use Rattle.doip_json.specs.Meaning.{pairs_of}
use Rattle.doip_json.specs.Places.{key_of}
use Rattle.doip_json.proofs.Ascending.{compared, equal_same, keys_before, keys_after}
use Rattle.doip_json.proofs.Entries.{ascends, key_here}
use Rattle.doip_json.proofs.value.JsonMap.place_of.Goals as goal

pub loop-low-preserved-in-Less : goal.loop-low-preserved-in-Less
loop-low-preserved-in-Less c =
    let l = c.loop-low in
    let es = pairs_of c.self.inside.entries.items in
    let m = l.low + (l.high - l.low) / 2 in
    let ends = l.invariant.ends in
    let within : m < length es = omega arith in
    let here = key_here c.self.inside.entries.items m c.index.result.now within c.index.ensures in
    let less : compared (key_of es m) c.args.key.now ≡ Less = ap (λ k. compared k c.args.key.now) (here ∙ sym c.get.ensures.text) ∙ (sym c.cmp.ensures ∙ c.in-Less.is) in
    record { within = omega arith; ends = ends; lower = keys_before es c.args.key.now m (ascends es c.self.invariant) within less; greater = l.invariant.greater }

pub returns-in-Equal-clause-found : goal.returns-in-Equal-clause-found
returns-in-Equal-clause-found c =
    let l = c.loop-low in
    let es = pairs_of c.self.inside.entries.items in
    let m = l.low + (l.high - l.low) / 2 in
    let ends = l.invariant.ends in
    let within : m < length es = omega arith in
    let here = key_here c.self.inside.entries.items m c.index.result.now within c.index.ensures in
    let same = equal_same c.get.result.now c.args.key.now (sym c.cmp.ensures ∙ c.in-Equal.is) in
    rw (← c.self.view_is) (record { within = within; has_key = here ∙ (sym c.get.ensures.text ∙ same) })

pub loop-low-preserved : goal.loop-low-preserved
loop-low-preserved c =
    let l = c.loop-low in
    let es = pairs_of c.self.inside.entries.items in
    let m = l.low + (l.high - l.low) / 2 in
    let ends = l.invariant.ends in
    let within : m < length es = omega arith in
    let here = key_here c.self.inside.entries.items m c.index.result.now within c.index.ensures in
    let greater : compared (key_of es m) c.args.key.now ≡ Greater = ap (λ k. compared k c.args.key.now) (here ∙ sym c.get.ensures.text) ∙ (sym c.cmp.ensures ∙ c.in-Greater.is) in
    record { within = omega arith; ends = omega arith; lower = l.invariant.lower; greater = keys_after es c.args.key.now m (ascends es c.self.invariant) greater }

pub returns-in-Equal-clause-ascends : goal.returns-in-Equal-clause-ascends
returns-in-Equal-clause-ascends c = rw (← c.self.view_is) (ascends (pairs_of c.self.inside.entries.items) c.self.invariant)

pub returns-clause-ascends : goal.returns-clause-ascends
returns-clause-ascends c = rw (← c.self.view_is) (ascends (pairs_of c.self.inside.entries.items) c.self.invariant)
