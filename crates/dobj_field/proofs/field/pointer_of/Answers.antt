use Rattle.std.proofs.Common.{◌≡◌, ◌+◌, sym, ℕ, List}
use Rattle.dobj_field.proofs.PointerLemmas.{start, after_slash, after_byte, token_text, at_fault, at_end, rest_is}
use Rattle.dobj_field.proofs.field.pointer_of.Goals as goal

pub loop-at-init : goal.loop-at-init
loop-at-init c =
    rw (c.new-tokens.ensures.items, c.new-token.ensures.items) (start c.args.text.now c.requires.slash c.requires.utf8)

pub str_of-requires : goal.str_of-requires
str_of-requires c =
    let l = c.loop-at in
    token_text c.args.text.now l.at l.tokens.items l.token.items l.invariant
    (rw (rest_is c.args.text.now l.at) at (c.in-Slash.ensures))

pub loop-at-preserved-in-Slash : goal.loop-at-preserved-in-Slash
loop-at-preserved-in-Slash c =
    let l = c.loop-at in
    let more : List (List ℕ) = c.push.new.self.items in
    let next = after_slash c.args.text.now l.at l.tokens.items l.token.items l.invariant c.loop-at-test.true
    (rw (rest_is c.args.text.now l.at) at (c.in-Slash.ensures)) in
    rw (c.in_ok-push-in-Slash.ensures.items, c.new-token-in-Slash.ensures.items, c.str_of.ensures) next

pub loop-at-preserved : goal.loop-at-preserved
loop-at-preserved c =
    let l = c.loop-at in
    let next = after_byte c.args.text.now l.at l.tokens.items l.token.items c.in-Byte.byte c.in-Byte.width l.invariant
    (rw (rest_is c.args.text.now l.at) at (c.in-Byte.ensures)) in
    rw (c.in_ok-push-in-Byte.ensures.items) next

pub returns-in-Fault-clause-place : goal.returns-in-Fault-clause-place
returns-in-Fault-clause-place c place is =
    let l = c.loop-at in
    let same : l.at + c.in-Fault.place ≡ place = cc in
    rw (sym same) (at_fault c.args.text.now l.at l.tokens.items l.token.items c.in-Fault.place l.invariant
    (rw (rest_is c.args.text.now l.at) at (c.in-Fault.ensures)))

pub returns-clause-tokens : goal.returns-clause-tokens
returns-clause-tokens c =
    let l = c.loop-at in
    let whole = (at_end c.args.text.now l.at l.tokens.items l.token.items l.invariant c.loop-at-test.false).0 in
    rw (c.in_ok-push.ensures.items, c.str_of-2.ensures) whole
