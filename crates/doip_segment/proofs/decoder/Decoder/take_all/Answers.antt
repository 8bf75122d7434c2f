use Rattle.std.proofs.Common.{◌≡◌, ◌-◌, true, false, length, take, drop, ap, sym, ◌∙◌, arith, refl}
use Rattle.std.proofs.lemmas.List.{take_rest, length-drop}
use Rattle.doip_segment.specs.Decoding.{Decoding}
use Rattle.doip_segment.specs.Machine.{run, is_done}
use Rattle.doip_segment.proofs.OutcomeLemmas.{stood_done}
use Rattle.doip_segment.proofs.RunLemmas.{run_on}
use Rattle.doip_segment.proofs.decoder.Decoder.take_all.Goals as goal

pub loop-used-init : goal.loop-used-init
loop-used-init c =
    let seen = ap (λ (v : Decoding). v.taken) c.self.view_is in
    record {
      within = omega arith;
      done = λ done. (refl, refl);
      advances = record { limits = refl; reading = refl; count = omega arith; taken = omega (arith, seen, c.self.ranges) };
    }

pub loop-used-preserved : goal.loop-used-preserved
loop-used-preserved c =
    let piece = c.args.piece.now in
    let before = c.loop-used.invariant in
    let read = before.advances in
    let after = c.take_some-used.ensures in
    let rest = take_rest piece c.loop-used.used in
    let size = ap length rest ∙ length-drop c.loop-used.used piece in
    let step = after.advances.reading ∙ ap (λ limits. run limits c.loop-used.self.reading (take c.take_some-used.result (take (length piece - c.loop-used.used) (drop c.loop-used.used piece)))) read.limits in
    record {
      within = omega (arith, after.within, size, before.within);
      done = λ done. absurd (let same = (before.done done).1 in let h : true ≡ false = sym done ∙ sym (ap (λ (v : Decoding). is_done v.reading.phase) same) ∙ sym c.is_done.ensures ∙ c.if-not-is_done.true in cc);
      advances = record {
        limits = after.advances.limits ∙ read.limits;
        reading = run_on c.args.self.now.limits c.args.self.now.reading c.loop-used.self.reading c.take_some-used.new.self.reading c.loop-used.used c.take_some-used.result piece _ before.within read.reading rest step;
        count = omega (arith, after.advances.count, read.count);
        taken = omega (arith, after.advances.taken, read.taken);
      };
    }

pub returns-after-loop-used-clause-unchanged : goal.returns-after-loop-used-clause-unchanged
returns-after-loop-used-clause-unchanged c = λ stands. c.loop-used.invariant.done
    (sym (ap (λ (v : Decoding). is_done v.reading.phase) c.self.view_is)
    ∙ stood_done _ c.self.inside.taken (λ e. stands (sym (ap (λ (v : Decoding). v.standing) c.self.view_is) ∙ e)))

pub returns-else-not-is_done-clause-unchanged : goal.returns-else-not-is_done-clause-unchanged
returns-else-not-is_done-clause-unchanged c = λ stands. c.loop-used.invariant.done
    (sym (ap (λ (v : Decoding). is_done v.reading.phase) c.self.view_is)
    ∙ stood_done _ c.self.inside.taken (λ e. stands (sym (ap (λ (v : Decoding). v.standing) c.self.view_is) ∙ e)))
