use Rattle.std.proofs.Common.{◌≡◌, ◌+◌, ◌∷◌, drop, get_or, ap, ◌∙◌, arith}
use Rattle.std.proofs.lemmas.List.{drop_more, drop_all}
use Rattle.doip_json.specs.Pointer.{unescaped}
use Rattle.doip_json.proofs.Tokens.{unescaped-byte, unescaped-alone, unescaped-tilde, unescaped-slash, unescaped-fault, two_bytes}
use Rattle.doip_json.proofs.pointer.byte_at.Goals as goal

pub returns-then-byte-ne126-clause-value : goal.returns-then-byte-ne126-clause-value
returns-then-byte-ne126-clause-value c =
    let s = c.args.token.now in let i = c.args.at in
    ap unescaped (drop_more s i 0 c.requires) ∙ unescaped-byte (get_or s i 0) (drop (i + 1) s) (λ e. omega arith)

pub returns-then-at-token-clause-value : goal.returns-then-at-token-clause-value
returns-then-at-token-clause-value c =
    let s = c.args.token.now in let i = c.args.at in
    let first : get_or s i 0 ≡ 126 = omega arith in
    ap unescaped (drop_more s i 0 c.requires ∙ (ap (λ b. b ∷ drop (i + 1) s) first ∙ ap (λ l. 126 ∷ l) (drop_all (i + 1) s (omega arith)))) ∙ unescaped-alone

pub returns-then-escape-eq48-clause-value : goal.returns-then-escape-eq48-clause-value
returns-then-escape-eq48-clause-value c =
    let s = c.args.token.now in let i = c.args.at in
    ap unescaped (two_bytes s i 126 48 (omega arith) (omega arith) (omega arith)) ∙ unescaped-tilde (drop (i + 2) s)

pub returns-then-escape-eq49-clause-value : goal.returns-then-escape-eq49-clause-value
returns-then-escape-eq49-clause-value c =
    let s = c.args.token.now in let i = c.args.at in
    ap unescaped (two_bytes s i 126 49 (omega arith) (omega arith) (omega arith)) ∙ unescaped-slash (drop (i + 2) s)

pub returns-else-escape-eq49-clause-value : goal.returns-else-escape-eq49-clause-value
returns-else-escape-eq49-clause-value c =
    let s = c.args.token.now in let i = c.args.at in
    let y = get_or s (i + 1) 0 in
    ap unescaped (two_bytes s i 126 y (omega arith) (omega arith) (omega arith)) ∙ unescaped-fault y (drop (i + 2) s) (λ e. omega arith) (λ e. omega arith)
