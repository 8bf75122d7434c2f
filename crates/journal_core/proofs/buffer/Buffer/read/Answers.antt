use Rattle.std.proofs.Common.{◌≡◌, ◌+◌, ◌-◌, ◌<◌, drop, length, sym, ◌∙◌, arith, length-drop}
use Rattle.journal_core.proofs.Lists.{read_on, all_taken}
use Rattle.journal_core.proofs.buffer.Buffer.read.Goals as goal

pub returns-then-rest-ge-PIECE_LENGTH-clause-bytes : goal.returns-then-rest-ge-PIECE_LENGTH-clause-bytes
returns-then-rest-ge-PIECE_LENGTH-clause-bytes g c = λ file is.
    let kept = c.copy_to-kept.result in
    let into = c.copy_to-kept.new.into in
    let piece = c.requires.piece file is in
    read_on into c.fill.new.into _ file kept c.in_ok-count.count c.args.place c.copy_to-kept.ensures.bound c.in_ok-count.ensures.bound
    (c.copy_to-kept.ensures.within file piece) (c.copy_to-kept.ensures.bytes file piece) (c.in_ok-count.ensures.bytes file is)
    (omega (arith, length-drop (length into - kept) (drop kept into), length-drop kept into))

pub returns-clause-bytes : goal.returns-clause-bytes
returns-clause-bytes g c = λ file is.
    let kept = c.copy_to-kept.result in
    let into = c.copy_to-kept.new.into in
    let sub = c.copy_to-count.new.into in
    let count = c.copy_to-count.result in
    let place = c.args.place + kept in
    let piece = c.requires.piece file is in
    let filled = c.in_ok-refill.ensures.piece file is in
    let ends : count < length sub → length (drop place file) ≡ count = λ less.
    let all = c.copy_to-count.ensures.ended c.in_ok-refill.ensures.start less in
    c.in_ok-refill.ensures.ended file is (omega (arith, all, less, c.copy_to-count.auto.into)) ∙ sym all in
    read_on into sub _ file kept count c.args.place c.copy_to-kept.ensures.bound c.copy_to-count.ensures.bound
    (c.copy_to-kept.ensures.within file piece) (c.copy_to-kept.ensures.bytes file piece)
    (c.copy_to-count.ensures.bytes file filled ∙ all_taken (drop place file) count (length sub) c.copy_to-count.ensures.bound ends)
    (omega (arith, length-drop (length into - kept) (drop kept into), length-drop kept into))
