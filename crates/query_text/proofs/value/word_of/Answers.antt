use Rattle.std.proofs.Common.{◌≡◌, true, false, drop, sym, ap, ◌∙◌, subst, arith}
use Rattle.dobj_field.proofs.PointerLemmas.{rest_is}
use Rattle.query_text.specs.Reading.{BreaksValue, starred}
use Rattle.query_text.proofs.WordReads.{word_dangles, prefix_reads, word_lacks, word_reads, star_there, no_star_there}
use Rattle.query_text.proofs.value.word_of.Goals as goal

pub returns-then-scanned-clause-place : goal.returns-then-scanned-clause-place
returns-then-scanned-clause-place c place is =
    let text = c.args.rest.now in
    let s = c.in_ok-scanned.scanned in
    let same : s.len ≡ place = cc in
    subst (BreaksValue text) same (word_dangles text s c.in_ok-scanned.ensures (grind arith) c.requires.plain)

pub returns-then-is_starred-clause-value : goal.returns-then-is_starred-clause-value
returns-then-is_starred-clause-value c =
    let text = c.args.rest.now in
    let s = c.in_ok-scanned.scanned in
    let star : starred (drop s.len text) ≡ true = ap starred (sym (rest_is text s.len))
    ∙ (sym c.is_starred.ensures ∙ c.if-is_starred.true) in
    let there = star_there text s.len star in
    prefix_reads text s c.in_ok-scanned.ensures (grind arith) c.requires.plain there.0 there.1

pub returns-then-len-eq0-clause-place : goal.returns-then-len-eq0-clause-place
returns-then-len-eq0-clause-place c place is =
    let text = c.args.rest.now in
    let s = c.in_ok-scanned.scanned in
    let star : starred (drop s.len text) ≡ false = ap starred (sym (rest_is text s.len))
    ∙ (sym c.is_starred.ensures ∙ c.if-is_starred.false) in
    let same : 0 ≡ place = cc in
    subst (BreaksValue text) same (word_lacks text s c.in_ok-scanned.ensures c.if-len-eq0.true c.requires.plain
    (no_star_there text s.len star))

pub returns-clause-value : goal.returns-clause-value
returns-clause-value c =
    let text = c.args.rest.now in
    let s = c.in_ok-scanned.scanned in
    let star : starred (drop s.len text) ≡ false = ap starred (sym (rest_is text s.len))
    ∙ (sym c.is_starred.ensures ∙ c.if-is_starred.false) in
    word_reads text s c.in_ok-scanned.ensures (grind arith) c.requires.plain
    (omega arith) (no_star_there text s.len star)
