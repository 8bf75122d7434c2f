use Rattle.std.proofs.Common.{◌≡◌, ◌-◌, suc, not, sym, ◌∙◌, arith}
use Rattle.repo_state.specs.Least.{lesser}
use Rattle.repo_state.specs.Rows.{objects_in}
use Rattle.repo_state.specs.Sound.{is_sound_in}
use Rattle.repo_state.proofs.LeastLemmas.{least_of_step, least_of_all}
use Rattle.repo_state.proofs.replay.least_unsound.Goals as goal

pub loop-place-preserved : goal.loop-place-preserved
loop-place-preserved c =
    let objects = objects_in c.args.rows.now.rows in
    let next : suc (c.loop-place.place - 1) ≡ c.loop-place.place = omega (arith, c.loop-place-test.true) in
    record {
      within = omega (arith, c.loop-place.invariant.within);
      least =
          c.lesser-best.ensures ∙ (λ j. lesser (not (c.is_sound.ensures objects j)) c.look-object.result.now.id (c.loop-place.invariant.least j))
          ∙ sym (least_of_step (λ id o. not (is_sound_in objects o)) c.args.rows.now.rows (c.loop-place.place - 1) c.loop-place.place _ _ next c.look-object.ensures);
    }

pub returns : goal.returns
returns c =
    let objects = objects_in c.args.rows.now.rows in
    let done : c.loop-place.place ≡ 0 = omega (arith, c.loop-place-test.false) in
    c.loop-place.invariant.least ∙ least_of_all (λ id o. not (is_sound_in objects o)) _ c.loop-place.place done c.len-place.ensures.distinct
