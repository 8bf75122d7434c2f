use Rattle.std.proofs.Common.{◌++◌, take, ap, sym, ◌∙◌, subst, arith}
use Rattle.std.proofs.lemmas.List.{length-take-le}
use Rattle.doip_segment.specs.declared.outcome.Step.{Step}
use Rattle.doip_segment.specs.Machine.{outcome_of}
use Rattle.doip_segment.specs.Decoding.{Decoding, IsPlaced}
use Rattle.doip_segment.proofs.OutcomeLemmas.{end_returns, part_returns, placed, more_live}
use Rattle.doip_segment.proofs.FeedLemmas.{took_on, took_reads, frames}
use Rattle.doip_segment.proofs.decoder.Decoder.feed.Goals as goal

pub returns-clause-used : goal.returns-clause-used
returns-clause-used c =
    let all = c.take_all-used.ensures in
    let new = c.take_all-used.new.self in
    let shown = c.standing.ensures.standing ∙ c.standing.ensures.shows.standing in
    record {
      within = all.within;
      more = λ more. all.all (more_live new.reading.phase new.taken (sym shown ∙ more));
      place = subst (λ (step : Step). IsPlaced step new.taken) (sym shown) (placed new.reading.phase new.taken);
    }

pub returns-clause-feeds : goal.returns-clause-feeds
returns-clause-feeds c =
    let all = c.take_all-used.ensures in
    let size = length-take-le c.take_all-used.result c.args.piece.now all.within in
    record {
      limits = all.advances.limits;
      took = λ came took. took_on c.args.self.now c.take_all-used.new.self came c.args.piece.now c.take_all-used.result all.within took all.advances c.standing.ensures.shows;
      taken = omega (arith, all.advances.taken, size);
    }

pub returns-clause-framing : goal.returns-clause-framing
returns-clause-framing c = λ came took.
    let limits = c.args.self.now.limits in
    let piece = c.args.piece.now in
    let used = c.take_all-used.result in
    let all = c.take_all-used.ensures in
    let new = c.take_all-used.new.self in
    let shows = c.standing.ensures.shows in
    let more = took_on c.args.self.now new came piece used all.within took all.advances shows in
    let reading = took_reads c.args.self.now new (came ++ take used piece) all.advances.limits more in
    let shown = c.standing.ensures.standing ∙ shows.standing in
    record {
      frames = frames limits new came piece used c.standing.result reading more.count all.within all.all shows c.standing.ensures.standing;
      reads = λ prefix after message spelt e.
          let end = end_returns limits new.reading came piece prefix after used message all.within reading more.count all.all spelt e in
          (shown ∙ ap (λ p. outcome_of p new.taken) end.phase, end.used, shows.segments ∙ end.segments);
      waits = λ next rest message spelt. part_returns limits new.reading came piece used new.taken next rest message c.standing.result reading all.all shown spelt;
    }

pub returns-clause-unchanged : goal.returns-clause-unchanged
returns-clause-unchanged c = λ stands.
    let same = c.take_all-used.ensures.unchanged stands in
    let step = c.standing.ensures.standing ∙ ap (λ (d : Decoding). d.standing) same.1 in
    (let e = same.0 in cc, same.1)
