use Rattle.std.proofs.Common.{◌≡◌, inr, ℕ, ◌+◌, ◌-◌, ◌≤◌, List, ◌∷◌, ◌++◌, length, ◌∙◌, ap, arith}
use Rattle.journal_core.specs.Area.{rest_at}
use Rattle.journal_core.proofs.Reading.{first_of, next_of, reaches_next, one_byte, next_open, record_some, record_none}
use Rattle.journal_core.proofs.area.next_record.Goals as goal

pub returns-in-Some-clause-next : goal.returns-in-Some-clause-next
returns-in-Some-clause-next g c = λ file is reaches.
    let place = c.args.place in
    let left = c.args.left in
    let rest = rest_at file place left in
    let gate = c.read_all.new.into in
    let size : length gate ≡ 1 = omega (arith, c.read_all.auto.into) in
    let fits : 1 ≤ left = omega (arith, size, c.in_ok-read_all.ensures.fits c.if-not-branch.false) in
    let suffix = rest_at file (place + 1) (left - 1) in
    let first = next_of file place left 1 gate size fits (first_of rest gate c.in_ok-read_all.field-0 c.if-not-branch.false (c.in_ok-read_all.ensures.first file is reaches)) in
    let found = record_some c.args.format suffix c.in_ok-entry.field-0 c.in-Some.entry c.in-Some.is (c.in_ok-entry.ensures.found file (c.in_ok-read_all.ensures.same ∙ is) (reaches_next file place left 1 fits reaches)) in
    let opens : rest ≡ 1 ∷ suffix = first ∙ ap (λ (l : List ℕ). l ++ suffix) (one_byte gate 1 size c.if-gate-ne-OPEN_GATE.false) in
    (found.0, next_open c.args.format rest suffix c.in-Some.entry opens found.1)

pub returns-in-None-clause-next : goal.returns-in-None-clause-next
returns-in-None-clause-next g c = λ file is reaches.
    let place = c.args.place in
    let left = c.args.left in
    let rest = rest_at file place left in
    let gate = c.read_all.new.into in
    let size : length gate ≡ 1 = omega (arith, c.read_all.auto.into) in
    let fits : 1 ≤ left = omega (arith, size, c.in_ok-read_all.ensures.fits c.if-not-branch.false) in
    let suffix = rest_at file (place + 1) (left - 1) in
    let first = next_of file place left 1 gate size fits (first_of rest gate c.in_ok-read_all.field-0 c.if-not-branch.false (c.in_ok-read_all.ensures.first file is reaches)) in
    let found = record_none c.args.format suffix c.in_ok-entry.field-0 c.in-None.is (c.in_ok-entry.ensures.found file (c.in_ok-read_all.ensures.same ∙ is) (reaches_next file place left 1 fits reaches)) in
    let opens : rest ≡ 1 ∷ suffix = first ∙ ap (λ (l : List ℕ). l ++ suffix) (one_byte gate 1 size c.if-gate-ne-OPEN_GATE.false) in
    inr (suffix, opens, found)
