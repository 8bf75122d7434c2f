use Rattle.std.proofs.Common.{◌≡◌, ◌+◌, ◌<◌, ◌≤◌, ◌++◌, length, take, ap, ◌∙◌, arith}
use Rattle.std.proofs.lemmas.List.{length-take-le}
use Rattle.doip_segment.specs.declared.phase.Phase.TheVariants.{Text}
use Rattle.doip_segment.specs.Decoding.{Decoding}
use Rattle.doip_segment.proofs.RunLemmas.{reading_of, text_ends, text_goes}
use Rattle.doip_segment.proofs.decoder.Decoder.take_text.Goals as goal
use Rattle.doip_segment.proofs.decoder.Decoder.take_text.Goals.{in-Some, in-None}

pub returns-clause-advances : goal.returns-clause-advances
returns-clause-advances c =
    let old = c.self.inside in
    let rest = c.args.rest.now in
    let window = c.min-window.result in
    let reading = reading_of old.message.segments old.message.pending old.phase old.count in
    let seen = ap (λ (v : Decoding). v.reading) c.self.view_is in
    let phase : old.phase ≡ Text = ap (λ (v : Decoding). v.reading.phase) c.self.view_is ∙ c.requires.phase in
    let fits : window ≤ length rest = omega (arith, c.min-window.ensures, c.min.ensures) in
    let room : old.count + window ≤ old.limits.total = omega (arith, c.min-window.ensures, c.saturating_sub-total.ensures, c.if-window-eq0.false) in
    let json : length old.message.pending + window ≤ old.limits.json + 1 = omega (arith, c.min-window.ensures, c.min.ensures, c.saturating_sub-text.ensures, c.pending.ensures, c.if-window-eq0.false) in
    let size = length-take-le window rest fits in
    let limits = ap (λ (v : Decoding). v.limits) c.self.view_is in
    let count = ap (λ (v : Decoding). v.reading.count + c.match-memchr.line) c.self.view_is in
    let taken = ap (λ (v : Decoding). v.taken) c.self.view_is in
    elim c.match-memchr.branch [
      | in-Some w ↦ (
          let found = w.in-Some.ensures in
          let low : w.in-Some.end < window = omega (arith, found.0.high, size) in
          let ends = text_ends old.limits reading rest window w.in-Some.end phase low fits found.0.before found.1 room json in
          record {
            limits = rw (w.self-inside-is) limits;
            reading = rw (w.self-inside-is, w.line-is, w.append.ensures.segments, w.append.ensures.pending, ← c.self.view_is) ends;
            count = rw (w.self-inside-is) count;
            taken = let same : c.match-memchr.self-inside.taken ≡ c.args.self.now.taken = rw (w.self-inside-is) taken in omega (arith, c.saturating_add-self-inside.ensures, same);
          }
          )
      | in-None w ↦ (
          let goes = ap (λ p. reading_of old.message.segments (old.message.pending ++ take window rest) p (old.count + window)) phase ∙ text_goes old.limits reading rest window phase fits w.in-None.ensures room json in
          record {
            limits = rw (w.self-inside-is) limits;
            reading = rw (w.self-inside-is, w.line-is, w.append-in-None.ensures.segments, w.append-in-None.ensures.pending, ← c.self.view_is) goes;
            count = rw (w.self-inside-is) count;
            taken = let same : c.match-memchr.self-inside.taken ≡ c.args.self.now.taken = rw (w.self-inside-is) taken in omega (arith, c.saturating_add-self-inside.ensures, same);
          }
          )
    ]
