use Rattle.std.proofs.Common.{◌≡◌, ◌<◌, [], arith, refl, subst, inl, inr}
use Rattle.std.proofs.lemmas.Grind.{common_steps}
use Rattle.session_core.proofs.LinkLemmas.{only_reads_none, only_reads_on}
use Rattle.session_core.proofs.Flow.{nothing_passes, flows_on, flows_in, flows_still, nothing_fed, spends_on, ends_more}
use Rattle.doip_segment.specs.declared.outcome.Step.{Step}
use Rattle.session_core.specs.Reading.{Flows, stage}
use Rattle.session_core.proofs.reader.Reader.next.Goals as goal

pub loop-place-init : goal.loop-place-init
loop-place-init g c =
    record {
      passed = nothing_passes _ (omega (arith, c.taken.ensures));
      spends = inr (nothing_fed _ _ (omega (arith, c.taken.ensures)));
      only_reads = only_reads_none _;
    }

pub returns-in-Message-clause-flow : goal.returns-in-Message-clause-flow
returns-in-Message-clause-flow g c = flows_on _ _ _ _ _ c.loop-place.invariant.passed c.in-Message.ensures.fed

pub returns-in-Fault-clause-flow : goal.returns-in-Fault-clause-flow
returns-in-Fault-clause-flow g c = flows_on _ _ _ _ _ c.loop-place.invariant.passed c.in-Fault.ensures.fed

pub returns-in-Fault-clause-means : goal.returns-in-Fault-clause-means
returns-in-Fault-clause-means g c = c.in-Fault.ensures.place

pub returns-in-Message-clause-spends : goal.returns-in-Message-clause-spends
returns-in-Message-clause-spends g c =
    λ _. spends_on _ _ _ _ _ _ _ _ _ c.loop-place.invariant.spends c.in-Message.ensures.fed

pub returns-in-Ok-eq0-clause-flow : goal.returns-in-Ok-eq0-clause-flow
returns-in-Ok-eq0-clause-flow g c =
    let none : c.fill.new.self ≡ [] = grind (arith, common_steps) in
    subst (λ (s : Step). Flows s (stage c.args.self.now (g.L.Link.state c.args.link.now) c.args.decoder.now)
    (stage c.fill.new.self (g.L.Link.state c.fill.new.link) c.feed_held.new.decoder)) (ends_more _ _ c.at_end.ensures)
    (flows_still _ _ _ _ _ (flows_on _ _ _ _ _ c.loop-place.invariant.passed c.in-More.ensures.fed)
    (c.in-More.ensures.more refl) none
    c.fill.ensures.taken c.fill.ensures.left)

pub returns-in-Err-clause-flow : goal.returns-in-Err-clause-flow
returns-in-Err-clause-flow g c =
    flows_still _ _ _ _ _ (flows_on _ _ _ _ _ c.loop-place.invariant.passed c.in-More.ensures.fed)
    (c.in-More.ensures.more refl) c.in-Err.ensures.failed
    c.fill.ensures.taken c.fill.ensures.left

pub loop-place-preserved : goal.loop-place-preserved
loop-place-preserved g c =
    record {
      passed = flows_in _ _ _ _ _ (flows_on _ _ _ _ _ c.loop-place.invariant.passed c.in-More.ensures.fed)
          (c.in-More.ensures.more refl)
          c.fill.ensures.taken c.fill.ensures.left;
      spends =
          let some : 0 < c.in-Ok.field-0 = omega (arith, c.in-Ok.field-0-test.1) in
          inl (omega (arith, c.in-Ok.ensures.spends.1 some, c.loop-place.invariant.only_reads.reads));
      only_reads = only_reads_on _ _ _ c.loop-place.invariant.only_reads c.fill.ensures.only_reads;
    }
