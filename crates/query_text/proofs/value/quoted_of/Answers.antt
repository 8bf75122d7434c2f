use Rattle.std.proofs.Common.{◌≡◌, ◌+◌, IsUtf8, sym, subst, arith}
use Rattle.dobj_field.proofs.PointerLemmas.{rest_is}
use Rattle.query_text.specs.Reading.{BreaksValue}
use Rattle.query_text.proofs.WordReads.{quotes_read, quotes_break, text_inside}
use Rattle.query_text.proofs.value.quoted_of.Goals as goal

pub scan-requires : goal.scan-requires
scan-requires c = let text = c.args.rest.now in
    subst IsUtf8 (sym (rest_is text 1)) (text_inside text c.requires.quote c.requires.utf8)

pub returns-then-end-rest-clause-place : goal.returns-then-end-rest-clause-place
returns-then-end-rest-clause-place c place is =
    let text = c.args.rest.now in
    let s = c.in_ok-scanned.scanned in
    let same : s.len + 1 ≡ place = cc in
    subst (BreaksValue text) same (quotes_break text s c.requires.quote
    (rw (rest_is text 1) at (c.in_ok-scanned.ensures)) (omega arith))

pub returns-clause-value : goal.returns-clause-value
returns-clause-value c =
    let text = c.args.rest.now in
    quotes_read text c.in_ok-scanned.scanned c.requires.quote (rw (rest_is text 1) at (c.in_ok-scanned.ensures))
    (λ e. omega arith)
