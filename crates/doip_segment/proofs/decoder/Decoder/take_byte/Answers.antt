use Rattle.std.proofs.Common.{◌≡◌, ◌+◌, ◌∷◌, [], ℕ, length, ap, sym, ◌∙◌, subst, arith, length-append}
use Rattle.doip_segment.specs.declared.class.Class.TheVariants.{Digit}
use Rattle.doip_segment.specs.Segments.{segment}
use Rattle.doip_segment.specs.Machine.{closed}
use Rattle.doip_segment.specs.Decoding.{Decoding}
use Rattle.doip_segment.proofs.ClassLemmas.{digit_small}
use Rattle.doip_segment.proofs.FitLemmas.{IsLetIn, closes, closed_adds, none_left, fits_step}
use Rattle.doip_segment.proofs.decoder.Decoder.take_byte.Goals as goal
use Rattle.doip_segment.proofs.decoder.Decoder.take_byte.Goals.{in-Some-closing, in-None}

pub invariant_of-self-2 : goal.invariant_of-self-2
invariant_of-self-2 c =
    let old = c.self.inside in
    let class = c.classify-class.result in
    let within = subst (λ (v : Decoding). IsLetIn v.limits v.reading class) (sym c.self.view_is) (none_left c.args.self.now.limits c.args.self.now.reading class (sym c.limit_broken-broken.ensures ∙ c.in_default.is)) in
    let small = λ (d : ℕ) (is : class ≡ Digit d). digit_small c.args.byte d (sym c.classify-class.ensures ∙ is) in
    elim c.match-closing.branch [
      | in-Some-closing w ↦ (
          let is = sym c.closing.ensures ∙ w.in-Some-closing.is in
          let none = closed_adds old.phase class c.args.byte w.in-Some-closing.kind is in
          let more : length w.close.new.self.segments ≡ length old.message.segments + closes (closed old.phase class) =
          rw is (ap length w.close.ensures.segments ∙ length-append old.message.segments (segment w.in-Some-closing.kind old.message.pending ∷ [])) in
          let fit = fits_step old.limits old.message w.close.new.self old.phase old.count class c.args.byte c.self.invariant within.total within.few small (omega (arith, w.close.ensures.capacity)) w.close.ensures.slots (omega (arith, w.close.ensures.used, none)) more in
          rw (c.next-self-inside.ensures, w.self-inside-is) fit
          )
      | in-None w ↦ (
          let is = sym c.closing.ensures ∙ w.in-None.is in
          let same : length w.keep.new.message.segments ≡ length old.message.segments + closes (closed old.phase class) =
          rw is (let e = ap length w.keep.ensures.segments in omega (arith, e)) in
          let fit = fits_step old.limits old.message w.keep.new.message old.phase old.count class c.args.byte c.self.invariant within.total within.few small w.keep.ensures.capacity (omega (arith, w.keep.ensures.slots)) w.keep.ensures.used same in
          rw (c.next-self-inside.ensures, w.self-inside-is) fit
          )
    ]
