use Rattle.std.proofs.Common.{◌≡◌, ◌+◌, sym, ap, arith, subst}
use Rattle.doip_json.specs.Sound.{IsWhole}
use Rattle.dobj_field.proofs.PointerLemmas.{rest_is}
use Rattle.query_text.specs.Reading.{sign_len}
use Rattle.query_text.proofs.NumeralReads.{numeral_reads, numeral_past, numeral_lacks, start_fits, slice_is}
use Rattle.query_text.proofs.range.numeral_at.Goals as goal

pub returns-then-len-eq0-clause-place : goal.returns-then-len-eq0-clause-place
returns-then-len-eq0-clause-place c place is =
    let text = c.args.bytes.now in
    let at = c.args.at in
    let start = at + c.sign_len.result in
    let starts : start ≡ at + sign_len c.args.minus = ap (λ n. at + n) c.sign_len.ensures in
    let run = rw (rest_is text start) at (c.digits_len-len.ensures) in
    let same : start ≡ place = cc in
    rw (sym same) (numeral_lacks text at c.args.minus start c.digits_len-len.result c.requires.within
    c.requires.head starts run c.if-len-eq0.true
    (start_fits text at c.args.minus start c.requires.within c.requires.head starts))

pub returns-in-Some-clause-bound : goal.returns-in-Some-clause-bound
returns-in-Some-clause-bound c =
    let text = c.args.bytes.now in
    let at = c.args.at in
    let start = at + c.sign_len.result in
    let starts : start ≡ at + sign_len c.args.minus = ap (λ n. at + n) c.sign_len.ensures in
    let run = rw (rest_is text start) at (c.digits_len-len.ensures) in
    let digits = slice_is text start c.digits_len-len.result in
    let said = rw digits at (c.in-Some.ensures) in
    numeral_reads text at c.args.minus start c.digits_len-len.result c.in-Some.number c.requires.within
    c.requires.head starts run (omega arith)
    (subst IsWhole (sym said.1) said.0) said.1
    (start_fits text at c.args.minus start c.requires.within c.requires.head starts)

pub returns-in-None-clause-place : goal.returns-in-None-clause-place
returns-in-None-clause-place c place is =
    let text = c.args.bytes.now in
    let at = c.args.at in
    let start = at + c.sign_len.result in
    let starts : start ≡ at + sign_len c.args.minus = ap (λ n. at + n) c.sign_len.ensures in
    let run = rw (rest_is text start) at (c.digits_len-len.ensures) in
    let digits = slice_is text start c.digits_len-len.result in
    let same : at ≡ place = cc in
    rw (sym same) (numeral_past text at c.args.minus start c.digits_len-len.result c.requires.within
    c.requires.head starts run (omega arith)
    (rw digits at (c.in-None.ensures)))
