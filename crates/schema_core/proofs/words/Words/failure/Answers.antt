use Rattle.std.proofs.Common.{inl, inr, true≢false, sym, ◌∙◌, subst, arith}
use Rattle.std.proofs.lemmas.Bool.{cases_lt}
use Rattle.doip_json.specs.Meaning.{value_of}
use Rattle.schema_core.specs.Failing.{FailsHere}
use Rattle.schema_core.specs.First.{turn_of}
use Rattle.schema_core.proofs.OwnLemmas.{in_turn, whose_turn, out_of_turn}
use Rattle.schema_core.proofs.words.Words.failure.Goals as goal

pub loop-word-init : goal.loop-word-init
loop-word-init c = λ w before. absurd (omega arith)

pub returns-then-is_failed : goal.returns-then-is_failed
returns-then-is_failed c =
    let turn = in_turn c.loop-word.word-index (omega arith) in
    (c.is_failed.ensures.0 c.if-is_failed.true, λ x before. c.loop-word.invariant x (omega arith))

pub loop-word-preserved : goal.loop-word-preserved
loop-word-preserved c = λ w before fails. elim (cases_lt (turn_of w) c.loop-word.word-index) [
  | inl earlier ↦ c.loop-word.invariant w earlier fails
  | inr late ↦ let this = whose_turn w c.loop-word.word-index (omega arith) (omega arith) in
      let here = subst (FailsHere c.args.self.now (value_of c.args.value.now)) (sym this) fails in
      true≢false (sym (c.is_failed.ensures.1 here) ∙ c.if-is_failed.false)
]

pub returns : goal.returns
returns c = λ w fails. elim (cases_lt (turn_of w) 9) [
  | inl earlier ↦ c.loop-word.invariant w (omega arith) fails
  | inr late ↦ out_of_turn c.args.self.now (value_of c.args.value.now) w late fails
]
