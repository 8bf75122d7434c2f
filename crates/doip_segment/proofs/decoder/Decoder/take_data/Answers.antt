use Rattle.std.proofs.Common.{◌≡◌, ◌+◌, ◌≤◌, length, ap, ◌∙◌, subst, arith}
use Rattle.doip_segment.specs.declared.phase.Phase.TheVariants.{Data}
use Rattle.doip_segment.specs.Machine.{IsInRange}
use Rattle.doip_segment.specs.Framing.{saturated}
use Rattle.doip_segment.specs.Decoding.{Decoding}
use Rattle.doip_segment.proofs.RunLemmas.{reading_of, data_goes}
use Rattle.doip_segment.proofs.decoder.Decoder.take_data.Goals as goal

pub returns-clause-advances : goal.returns-clause-advances
returns-clause-advances c =
    let old = c.self.inside in
    let rest = c.args.rest.now in
    let window = c.min-window.result in
    let reading = reading_of old.message.segments old.message.pending old.phase old.count in
    let phase : old.phase ≡ Data c.args.left = ap (λ (v : Decoding). v.reading.phase) c.self.view_is ∙ c.requires.phase in
    let range = subst IsInRange phase c.self.invariant.range in
    let fits : window ≤ length rest = omega (arith, c.min-window.ensures, c.min.ensures) in
    let room : old.count + window ≤ old.limits.total = omega (arith, c.min-window.ensures, c.saturating_sub-total.ensures, c.if-window-eq0.false) in
    let within : window ≤ c.args.left = omega (arith, c.min-window.ensures, c.min.ensures) in
    let goes = data_goes old.limits reading rest window c.args.left phase range.0 within fits room in
    record {
      limits = ap (λ (v : Decoding). v.limits) c.self.view_is;
      reading = rw (c.append.ensures.segments, c.append.ensures.pending, c.phase_in_data-self-inside.ensures, ← c.self.view_is) goes;
      count = ap (λ (v : Decoding). v.reading.count + window) c.self.view_is;
      taken = c.saturating_add-self-inside.ensures ∙ ap (λ (v : Decoding). saturated (v.taken + window)) c.self.view_is;
    }
