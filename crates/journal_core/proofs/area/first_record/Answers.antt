use Rattle.std.proofs.Common.{◌≡◌, ℕ, ◌+◌, ◌-◌, ◌≤◌, List, ◌++◌, length, drop, refl, ◌∙◌, ap, arith}
use Rattle.std.proofs.lemmas.List.{with_items_is}
use Rattle.journal_core.specs.Area.{rest_at}
use Rattle.journal_core.specs.File.{no_stamp}
use Rattle.journal_core.specs.declared.layout.Format.TheVariants.{First}
use Rattle.journal_core.specs.declared.records.Record.{Record}
use Rattle.journal_core.proofs.Reading.{short_of, first_of, next_of, reaches_next, lacks_fields, lacks_body, first_whole}
use Rattle.journal_core.proofs.area.first_record.Goals as goal

pub returns-then-not-branch-clause-found : goal.returns-then-not-branch-clause-found
returns-then-not-branch-clause-found g c = λ file is reaches.
    let rest = rest_at file c.args.place c.args.left in
    let short = short_of rest c.read_all.new.into c.in_ok-read_all.field-0 c.if-not-branch.true (c.in_ok-read_all.ensures.first file is reaches) in
    lacks_fields First rest (omega (arith, short, c.read_all.auto.into))

pub returns-then-length-left-clause-found : goal.returns-then-length-left-clause-found
returns-then-length-left-clause-found g c = λ file is reaches.
    let place = c.args.place in
    let left = c.args.left in
    let rest = rest_at file place left in
    let field = c.read_all.new.into in
    let size : length field ≡ 8 = omega (arith, c.read_all.auto.into) in
    let fits : 8 ≤ left = omega (arith, size, c.in_ok-read_all.ensures.fits c.if-not-branch.false) in
    let first = next_of file place left 8 field size fits (first_of rest field c.in_ok-read_all.field-0 c.if-not-branch.false (c.in_ok-read_all.ensures.first file is reaches)) in
    lacks_body rest field (rest_at file (place + 8) (left - 8)) c.length_of-length.result c.length_of-length.ensures.bytes c.length_of-length.ensures.small (omega (arith, reaches, c.requires.range)) first
    (omega (arith, c.if-length-left.true, reaches_next file place left 8 fits reaches))

pub returns-then-not-branch-2-clause-found : goal.returns-then-not-branch-2-clause-found
returns-then-not-branch-2-clause-found g c = λ file is reaches.
    let place = c.args.place in
    let left = c.args.left in
    let second = c.in_ok-read_all.ensures.same ∙ is in
    let fits : 8 ≤ left = omega (arith, c.read_all.auto.into, c.in_ok-read_all.ensures.fits c.if-not-branch.false) in
    let reached = reaches_next file place left 8 fits reaches in
    let short = short_of (rest_at file (place + 8) (left - 8)) c.read_all-2.new.into c.in_ok-read_all-2.field-0 c.if-not-branch-2.true (c.in_ok-read_all-2.ensures.first file second reached) in
    absurd (omega (arith, short, reached, c.if-length-left.false, c.read_all-2.auto.into, c.deref_mut.ensures.len, c.in_ok-body.ensures.len))

pub returns-clause-found : goal.returns-clause-found
returns-clause-found g c = λ file is reaches.
    let place = c.args.place in
    let left = c.args.left in
    let n = c.length_of-length.result in
    let rest = rest_at file place left in
    let field = c.read_all.new.into in
    let body = c.read_all-2.new.into in
    let second = c.in_ok-read_all.ensures.same ∙ is in
    let size : length field ≡ 8 = omega (arith, c.read_all.auto.into) in
    let fits : 8 ≤ left = omega (arith, size, c.in_ok-read_all.ensures.fits c.if-not-branch.false) in
    let reached = reaches_next file place left 8 fits reaches in
    let long : length body ≡ n = omega (arith, c.read_all-2.auto.into, c.deref_mut.ensures.len, c.in_ok-body.ensures.len) in
    let first = next_of file place left 8 field size fits (first_of rest field c.in_ok-read_all.field-0 c.if-not-branch.false (c.in_ok-read_all.ensures.first file is reaches)) in
    let after = rest_at file (place + 8) (left - 8) in
    let next = first_of after body c.in_ok-read_all-2.field-0 c.if-not-branch-2.false (c.in_ok-read_all-2.ensures.first file second reached) in
    let same = c.from.ensures ∙ with_items_is c.in_ok-body.body body (omega (arith, c.read_all-2.auto.into, c.deref_mut.ensures.len)) in
    let r : Record = record { stamp = no_stamp; body = c.from.result } in (
      refl,
      first_whole rest field body (drop (length body) after) n c.length_of-length.ensures.bytes long (first ∙ ap (λ (l : List ℕ). field ++ l) next) r same,
    )
