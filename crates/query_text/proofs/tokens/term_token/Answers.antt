use Rattle.std.proofs.Common.{◌≡◌, ◌∷◌, [], ◌<◌, Some, length, get_or, ap, ◌∙◌, subst, arith}
use Rattle.query_text.specs.declared.nesting.Due.TheVariants.{Term, Operator}
use Rattle.query_text.specs.declared.nesting.Opened.TheVariants.{Group, Negation}
use Rattle.query_text.specs.declared.query.Token.TheVariants.{Open, Not, Every}
use Rattle.query_text.specs.Stages.{first}
use Rattle.query_text.specs.Reading.{term_ended, BreaksThere, Rest}
use Rattle.query_text.proofs.TokenLemmas.{open_word, not_word, every_word}
use Rattle.query_text.proofs.TokenReads.{head_is, dark_head, kw_ok, kw_breaks, test_ok, test_breaks, opens_group, opens_not, reads_every, full_group, full_not, term_twice}
use Rattle.query_text.proofs.tokens.term_token.Goals as goal

pub returns-then-not-has_room-clause-place : goal.returns-then-not-has_room-clause-place
returns-then-not-has_room-clause-place c place is =
    let n = c.args.nesting.now in
    let text = c.args.rest.now in
    let head : first text ≡ Some 40 = head_is text c.requires.some ∙ ap Some c.if-rest-eq40.true in
    let no_room : length n.opened < 64 → ⊥ = (λ fits. let said = c.has_room.ensures.1 fits in grind arith) in
    let same : 0 ≡ place = cc in
    subst (BreaksThere (Rest n) text) same (full_group n text c.requires.due head no_room)

pub returns-then-not-has_room-2-clause-place : goal.returns-then-not-has_room-2-clause-place
returns-then-not-has_room-2-clause-place c place is =
    let n = c.args.nesting.now in
    let text = c.args.rest.now in
    let head : first text ≡ Some 78 = head_is text c.requires.some ∙ ap Some c.if-rest-eq78.true in
    let no_room : length n.opened < 64
    → ⊥ = (λ fits. let said = c.has_room-then-rest-eq78.ensures.1 fits in grind arith) in
    let same : 0 ≡ place = cc in
    subst (BreaksThere (Rest n) text) same (full_not n text c.requires.due head no_room)

pub returns-then-rest-eq40-clause-token : goal.returns-then-rest-eq40-clause-token
returns-then-rest-eq40-clause-token c =
    let n = c.args.nesting.now in
    let text = c.args.rest.now in
    let head : first text ≡ Some 40 = head_is text c.requires.some ∙ ap Some c.if-rest-eq40.true in
    let e = c.keyword.ensures in
    kw_ok n (record { due = Term; opened = Group ∷ n.opened }) Open (40 ∷ []) 40 text c.keyword.result open_word
    (omega arith, tt) (omega arith)
    (opens_group n c.requires.due (c.has_room.ensures.0 (grind arith))) (tt) head c.requires.utf8 e.same e.len e.keyword

pub returns-then-rest-eq40-clause-place : goal.returns-then-rest-eq40-clause-place
returns-then-rest-eq40-clause-place c place is =
    let n = c.args.nesting.now in
    let text = c.args.rest.now in
    let head : first text ≡ Some 40 = head_is text c.requires.some ∙ ap Some c.if-rest-eq40.true in
    kw_breaks n (record { due = Term; opened = Group ∷ n.opened }) Open (40 ∷ []) 40 text place open_word
    (opens_group n c.requires.due (c.has_room.ensures.0 (grind arith))) (tt) head (c.keyword.ensures.place place is)

pub returns-then-rest-eq78-clause-token : goal.returns-then-rest-eq78-clause-token
returns-then-rest-eq78-clause-token c =
    let n = c.args.nesting.now in
    let text = c.args.rest.now in
    let head : first text ≡ Some 78 = head_is text c.requires.some ∙ ap Some c.if-rest-eq78.true in
    let e = c.keyword-then-rest-eq78.ensures in
    kw_ok n (record { due = Term; opened = Negation ∷ n.opened }) Not
    (78 ∷ 79 ∷ 84 ∷ []) 78 text c.keyword-then-rest-eq78.result not_word
    (omega arith, (omega arith, (omega arith, tt))) (omega arith)
    (opens_not n c.requires.due (c.has_room-then-rest-eq78.ensures.0 (grind arith)))
    (tt) head c.requires.utf8 e.same e.len e.keyword

pub returns-then-rest-eq78-clause-place : goal.returns-then-rest-eq78-clause-place
returns-then-rest-eq78-clause-place c place is =
    let n = c.args.nesting.now in
    let text = c.args.rest.now in
    let head : first text ≡ Some 78 = head_is text c.requires.some ∙ ap Some c.if-rest-eq78.true in
    kw_breaks n (record { due = Term; opened = Negation ∷ n.opened }) Not (78 ∷ 79 ∷ 84 ∷ []) 78 text place not_word
    (opens_not n c.requires.due (c.has_room-then-rest-eq78.ensures.0 (grind arith))) (tt) head
    (c.keyword-then-rest-eq78.ensures.place place is)

pub returns-then-rest-eq42-clause-token : goal.returns-then-rest-eq42-clause-token
returns-then-rest-eq42-clause-token c =
    let n = c.args.nesting.now in
    let text = c.args.rest.now in
    let head : first text ≡ Some 42 = head_is text c.requires.some ∙ ap Some c.if-rest-eq42.true in
    let e = c.keyword-then-rest-eq42.ensures in
    kw_ok n (record { due = Operator; opened = term_ended n.opened }) Every
    (42 ∷ 58 ∷ 42 ∷ []) 42 text c.keyword-then-rest-eq42.result every_word
    (omega arith, (omega arith, (omega arith, tt))) (omega arith)
    (reads_every n c.requires.due) (term_twice n.opened) head c.requires.utf8 e.same e.len e.keyword

pub returns-then-rest-eq42-clause-place : goal.returns-then-rest-eq42-clause-place
returns-then-rest-eq42-clause-place c place is =
    let n = c.args.nesting.now in
    let text = c.args.rest.now in
    let head : first text ≡ Some 42 = head_is text c.requires.some ∙ ap Some c.if-rest-eq42.true in
    kw_breaks n (record { due = Operator; opened = term_ended n.opened }) Every
    (42 ∷ 58 ∷ 42 ∷ []) 42 text place every_word
    (reads_every n c.requires.due) (term_twice n.opened) head (c.keyword-then-rest-eq42.ensures.place place is)

pub returns-clause-token : goal.returns-clause-token
returns-clause-token c =
    let n = c.args.nesting.now in
    let text = c.args.rest.now in
    test_ok n text (get_or text 0 0) c.test_token.result c.requires.due (head_is text c.requires.some)
    (dark_head text c.requires.some c.requires.sharp)
    c.if-rest-eq40.false c.if-rest-eq78.false c.if-rest-eq42.false c.requires.utf8 c.test_token.ensures.token

pub returns-clause-place : goal.returns-clause-place
returns-clause-place c place is =
    let n = c.args.nesting.now in
    let text = c.args.rest.now in
    test_breaks n text (get_or text 0 0) place c.requires.due (head_is text c.requires.some)
    (dark_head text c.requires.some c.requires.sharp)
    c.if-rest-eq40.false c.if-rest-eq78.false c.if-rest-eq42.false (c.test_token.ensures.place place is)
