use Rattle.std.proofs.Common.{[], ◌∙◌, ap, sym}
use Rattle.ext_ops.specs.Offered.{offered}
use Rattle.repo_state.specs.Sound.{last_counter}
use Rattle.repo_step.specs.Turn.{setting_in, state_in}
use Rattle.repo_step.specs.operations.Mint.{is_free}
use Rattle.repo_step.proofs.MintLemmas.{first_here, first_later, first_none, named_minted, named_spent}
use Rattle.repo_step.proofs.operations.mint.minted.Goals as goal

pub returns-then-is_free : goal.returns-then-is_free
returns-then-is_free c offers =
    let setting = setting_in c.args.turn offers in
    let held = (state_in c.args.turn).contents in
    let name = sym c.in_ok-id.ensures ∙ sym c.get.ensures.text in
    named_minted setting held c.loop-number.number c.in_ok-id.id
    (sym c.loop-number.invariant ∙ first_here _ last_counter c.loop-number.number c.loop-number-test.true
    (ap (is_free setting held) name ∙ sym (c.is_free.ensures offers) ∙ c.if-is_free.true)) c.in_ok-id.ensures

pub loop-number-preserved : goal.loop-number-preserved
loop-number-preserved c =
    let setting = setting_in c.args.turn (offered [] []) in
    let held = (state_in c.args.turn).contents in
    let name = sym c.in_ok-id.ensures ∙ sym c.get.ensures.text in
    first_later _ last_counter c.loop-number.number c.loop-number-test.true
    (ap (is_free setting held) name ∙ sym (c.is_free.ensures (offered [] [])) ∙ c.if-is_free.false)
    ∙ c.loop-number.invariant

pub returns : goal.returns
returns c offers =
    named_spent (setting_in c.args.turn offers) (state_in c.args.turn).contents
    (sym c.loop-number.invariant ∙ first_none _ last_counter c.loop-number.number c.loop-number-test.false)
