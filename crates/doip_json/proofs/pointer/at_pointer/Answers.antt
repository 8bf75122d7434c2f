use Rattle.std.proofs.Common.{◌≡◌, None, option_and_then, sym, ap, ◌∙◌, arith, rules}
use Rattle.std.proofs.lemmas.Str.Pattern.{strip_prefix_char, split_parts}
use Rattle.doip_json.specs.Meaning.{value_of}
use Rattle.doip_json.specs.Pointer.{named_by, parts_of, followed}
use Rattle.doip_json.proofs.Tokens.{parts_of-last, parts_of-more, followed-one, no_slash}
use Rattle.doip_json.proofs.pointer.at_pointer.Goals as goal

pub returns-in_err-rest : goal.returns-in_err-rest
returns-in_err-rest c =
    let text = c.args.pointer.now in
    let gone : c.from_residual.result ≡ None = grind arith in
    let other = rw c.in_err-rest.was at (strip_prefix_char 47 text c.strip_prefix.result c.strip_prefix.ensures.cases (omega arith)) in
    rw gone (sym (no_slash text (value_of c.args.value.now) (grind arith) other))

pub returns-in_err-found : goal.returns-in_err-found
returns-in_err-found c =
    let l = c.tokens in
    let v = value_of l.found.now in
    let cut = rw c.in-Some.is at (split_parts 47 l.rest.now c.split_once.result c.split_once.ensures.cases (omega arith)) in
    let gone : c.from_residual-in_err-found.result ≡ None = grind arith in
    let turn = l.invariant.0 ∙ ap (λ ps. followed ps v) (ap parts_of cut.0 ∙ parts_of-more c.in-Some.token.now c.in-Some.more.now cut.1) in
    rw gone (sym (turn ∙ ap (option_and_then (followed (parts_of c.in-Some.more.now))) (sym c.in_err-found.ensures)))

pub tokens-preserved : goal.tokens-preserved
tokens-preserved c =
    let l = c.tokens in
    let v = value_of l.found.now in
    let cut = rw c.in-Some.is at (split_parts 47 l.rest.now c.split_once.result c.split_once.ensures.cases (omega arith)) in
    let turn = l.invariant.0 ∙ ap (λ ps. followed ps v) (ap parts_of cut.0 ∙ parts_of-more c.in-Some.token.now c.in-Some.more.now cut.1) in
    (turn ∙ ap (option_and_then (followed (parts_of c.in-Some.more.now))) (sym c.in_ok-found.ensures), search rules)

pub returns : goal.returns
returns c =
    let l = c.tokens in
    let v = value_of l.found.now in
    let none = rw c.in_default.is at (split_parts 47 l.rest.now c.split_once.result c.split_once.ensures.cases (omega arith)) in
    c.step-2.ensures ∙ sym (l.invariant.0 ∙ (ap (λ ps. followed ps v) (parts_of-last l.rest.now none) ∙ followed-one (named_by l.rest.now v)))
