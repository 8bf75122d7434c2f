use Rattle.std.proofs.Common.{refl, inl, inr, ◌∙◌}
use Rattle.std.proofs.lemmas.Bool.{cases_lt}
use mathlib.Core.Bool.{false≢true}
use Rattle.serde_json.specs.Data.{depth}
use Rattle.serde_json.specs.View.{view}
use Rattle.doip_json.proofs.Outcomes.{reading_some, reading_none, within_shallow, within_deep, converted_value, converted_fault, converted_depth}
use Rattle.doip_json.proofs.reading.read.Goals as goal

pub returns-then-nests_within-clause-value : goal.returns-then-nests_within-clause-value
returns-then-nests_within-clause-value c =
    let found = c.in-Ok.ensures.ok in
    let d = view c.in-Ok.parsed in
    let shallow = c.if-nests_within.ensures.0 refl in
    let outcome = reading_some c.args.bytes.now c.args.depth d found.0 found.1 ∙ within_shallow c.args.depth d shallow in
    converted_value c.json_of.result _ _ outcome c.json_of.ensures.value

pub returns-then-nests_within-clause-fault : goal.returns-then-nests_within-clause-fault
returns-then-nests_within-clause-fault c =
    let found = c.in-Ok.ensures.ok in
    let d = view c.in-Ok.parsed in
    let shallow = c.if-nests_within.ensures.0 refl in
    let outcome = reading_some c.args.bytes.now c.args.depth d found.0 found.1 ∙ within_shallow c.args.depth d shallow in
    converted_fault c.json_of.result _ _ outcome c.json_of.ensures.fault

pub returns-else-nests_within-clause-fault : goal.returns-else-nests_within-clause-fault
returns-else-nests_within-clause-fault c =
    let found = c.in-Ok.ensures.ok in
    let d = view c.in-Ok.parsed in
    reading_some c.args.bytes.now c.args.depth d found.0 found.1 ∙ within_deep c.args.depth d (elim (cases_lt c.args.depth (depth d)) [
      | inl deep ↦ deep
      | inr shallow ↦ absurd (false≢true (c.if-nests_within.ensures.1 shallow))
    ])

pub returns-else-is_memory-clause-fault : goal.returns-else-is_memory-clause-fault
returns-else-is_memory-clause-fault c = reading_none c.args.bytes.now c.args.depth (c.in-Err.ensures.err (λ memory. false≢true (c.if-is_memory.ensures.1 memory)))

pub returns-then-nests_within-clause-nests : goal.returns-then-nests_within-clause-nests
returns-then-nests_within-clause-nests c =
    converted_depth c.json_of.result (view c.in-Ok.parsed) c.args.depth (c.if-nests_within.ensures.0 refl) c.json_of.ensures.value
