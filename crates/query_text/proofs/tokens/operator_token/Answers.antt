use Rattle.std.proofs.Common.{◌≡◌, ◌∷◌, [], Some, get_or, drop, sym, ap, ◌∙◌, subst, arith}
use Rattle.query_text.specs.declared.nesting.Due.TheVariants.{Term, Operator}
use Rattle.query_text.specs.declared.query.Token.TheVariants.{Close, And, Or}
use Rattle.query_text.specs.Stages.{first}
use Rattle.query_text.specs.Reading.{term_ended, BreaksThere, Rest}
use Rattle.query_text.proofs.TokenLemmas.{close_word, and_word, or_word}
use Rattle.query_text.proofs.TokenReads.{head_is, dark_head, kw_ok, kw_breaks, reads_and, reads_or, reads_close, no_group, no_operator, term_twice}
use Rattle.query_text.proofs.tokens.operator_token.Goals as goal

pub returns-then-not-is_group-clause-place : goal.returns-then-not-is_group-clause-place
returns-then-not-is_group-clause-place c place is =
    let n = c.args.nesting.now in
    let text = c.args.rest.now in
    let head : first text ≡ Some 41 = head_is text c.requires.some ∙ ap Some c.if-rest-eq41.true in
    let same : 0 ≡ place = cc in
    subst (BreaksThere (Rest n) text) same
    (no_group n text c.requires.due c.requires.settled head (sym c.is_group.ensures ∙ c.if-not-is_group.true))

pub returns-then-rest-eq41-clause-token : goal.returns-then-rest-eq41-clause-token
returns-then-rest-eq41-clause-token c =
    let n = c.args.nesting.now in
    let text = c.args.rest.now in
    let head : first text ≡ Some 41 = head_is text c.requires.some ∙ ap Some c.if-rest-eq41.true in
    let e = c.keyword.ensures in
    kw_ok n (record { due = Operator; opened = term_ended (drop 1 n.opened) }) Close
    (41 ∷ []) 41 text c.keyword.result close_word (omega arith, tt) (omega arith)
    (reads_close n c.requires.due (sym c.is_group.ensures ∙ c.if-not-is_group.false))
    (term_twice (drop 1 n.opened)) head c.requires.utf8 e.same e.len e.keyword

pub returns-then-rest-eq41-clause-place : goal.returns-then-rest-eq41-clause-place
returns-then-rest-eq41-clause-place c place is =
    let n = c.args.nesting.now in
    let text = c.args.rest.now in
    let head : first text ≡ Some 41 = head_is text c.requires.some ∙ ap Some c.if-rest-eq41.true in
    kw_breaks n (record { due = Operator; opened = term_ended (drop 1 n.opened) }) Close
    (41 ∷ []) 41 text place close_word
    (reads_close n c.requires.due (sym c.is_group.ensures ∙ c.if-not-is_group.false))
    (term_twice (drop 1 n.opened)) head (c.keyword.ensures.place place is)

pub returns-then-rest-eq65-clause-token : goal.returns-then-rest-eq65-clause-token
returns-then-rest-eq65-clause-token c =
    let n = c.args.nesting.now in
    let text = c.args.rest.now in
    let head : first text ≡ Some 65 = head_is text c.requires.some ∙ ap Some c.if-rest-eq65.true in
    let e = c.keyword-then-rest-eq65.ensures in
    kw_ok n (record { due = Term; opened = n.opened }) And
    (65 ∷ 78 ∷ 68 ∷ []) 65 text c.keyword-then-rest-eq65.result and_word
    (omega arith, (omega arith, (omega arith, tt))) (omega arith)
    (reads_and n c.requires.due) (tt) head c.requires.utf8 e.same e.len e.keyword

pub returns-then-rest-eq65-clause-place : goal.returns-then-rest-eq65-clause-place
returns-then-rest-eq65-clause-place c place is =
    let n = c.args.nesting.now in
    let text = c.args.rest.now in
    let head : first text ≡ Some 65 = head_is text c.requires.some ∙ ap Some c.if-rest-eq65.true in
    kw_breaks n (record { due = Term; opened = n.opened }) And (65 ∷ 78 ∷ 68 ∷ []) 65 text place and_word
    (reads_and n c.requires.due) (tt) head (c.keyword-then-rest-eq65.ensures.place place is)

pub returns-then-rest-eq79-clause-token : goal.returns-then-rest-eq79-clause-token
returns-then-rest-eq79-clause-token c =
    let n = c.args.nesting.now in
    let text = c.args.rest.now in
    let head : first text ≡ Some 79 = head_is text c.requires.some ∙ ap Some c.if-rest-eq79.true in
    let e = c.keyword-then-rest-eq79.ensures in
    kw_ok n (record { due = Term; opened = n.opened }) Or
    (79 ∷ 82 ∷ []) 79 text c.keyword-then-rest-eq79.result or_word (omega arith, (omega arith, tt)) (omega arith)
    (reads_or n c.requires.due) (tt) head c.requires.utf8 e.same e.len e.keyword

pub returns-then-rest-eq79-clause-place : goal.returns-then-rest-eq79-clause-place
returns-then-rest-eq79-clause-place c place is =
    let n = c.args.nesting.now in
    let text = c.args.rest.now in
    let head : first text ≡ Some 79 = head_is text c.requires.some ∙ ap Some c.if-rest-eq79.true in
    kw_breaks n (record { due = Term; opened = n.opened }) Or (79 ∷ 82 ∷ []) 79 text place or_word
    (reads_or n c.requires.due) (tt) head (c.keyword-then-rest-eq79.ensures.place place is)

pub returns-clause-place : goal.returns-clause-place
returns-clause-place c place is =
    let n = c.args.nesting.now in
    let text = c.args.rest.now in
    let same : 0 ≡ place = cc in
    subst (BreaksThere (Rest n) text) same
    (no_operator n text (get_or text 0 0) c.requires.due c.requires.settled (head_is text c.requires.some)
    (dark_head text c.requires.some c.requires.sharp) c.if-rest-eq41.false c.if-rest-eq65.false c.if-rest-eq79.false)
