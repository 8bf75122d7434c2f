use Rattle.std.proofs.Common.{◌≡◌, inr, ℕ, ◌+◌, ◌-◌, ◌≤◌, ◌<◌, List, Some, length, ◌∙◌, arith}
use Rattle.std.proofs.lemmas.List.Elements.{All-push, All-same}
use Rattle.disk_core.proofs.RunLaws.{alone_then}
use Rattle.journal_core.specs.File.{opened, Fits}
use Rattle.journal_core.specs.Area.{rest_at, Reaches, IsNext}
use Rattle.journal_core.specs.Journal.{IsNumbered}
use Rattle.journal_core.specs.declared.area.Next.TheVariants.{Open}
use Rattle.journal_core.proofs.Reading.{reaches_next, area_more, count_more, next_is, next_numbered, within_is}
use Rattle.journal_core.proofs.area.read_area.Goals as goal

pub records-preserved : goal.records-preserved
records-preserved g c =
    let state = g.D.Disk.state in
    let format = c.args.format in
    let base = c.args.base in
    let size = c.args.size in
    let inv = c.records.invariant in
    let used = c.records.used in
    let n = c.record_length.result in
    let entry = c.in-Open.entry in
    let long = c.record_length.ensures in
    let bound : length (opened format entry) < size - used = within_is format (size - used) c.in_ok-next_record.field-0 (Open entry) c.in-Open.is c.in_ok-next_record.ensures.bound in
    let fits : used + n ≤ size = omega (arith, bound, long) in
    let more = c.in_ok-push-in-Open.ensures.ok in
    let next : (file : List ℕ) → (state c.read_all.new.disk).content ≡ Some file → Reaches file base size → IsNext format (rest_at file (base + used) (size - used)) (Open entry) =
    λ file is reaches. next_is format (rest_at file (base + used) (size - used)) c.in_ok-next_record.field-0 (Open entry) c.in-Open.is
    (c.in_ok-next_record.ensures.next file (inv.same ∙ is) (reaches_next file base size used inv.within reaches)) in
    record {
      within = fits;
      inside = λ file is reaches. area_more format file base size used n _ _ entry fits more long (inv.inside file is reaches) (next file is reaches).1;
      count = λ file is reaches. count_more format used n _ _ entry more long (inv.count file is reaches);
      fits = λ file is reaches. All-same (Fits format) _ _ more (All-push (Fits format) _ entry (inv.fits file is reaches) (next file is reaches).0);
      numbered = All-same IsNumbered _ _ more (All-push IsNumbered _ entry inv.numbered (next_numbered c.in_ok-next_record.field-0 (Open entry) c.in-Open.is c.in_ok-next_record.ensures.numbered));
      some = inr (omega (arith, bound, long));
      piece = λ file is. c.in_ok-next_record.ensures.piece file (inv.same ∙ is);
      same = c.in_ok-next_record.ensures.same ∙ inv.same;
      alone = alone_then _ _ _ inv.alone c.in_ok-next_record.ensures.alone;
    }
