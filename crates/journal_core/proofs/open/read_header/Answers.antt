use Rattle.std.proofs.Common.{◌≡◌, ℕ, ◌≤◌, ◌<◌, length, take, sym, ◌∙◌, ap, arith, length-take}
use Rattle.std.proofs.lemmas.List.{take_all}
use Rattle.journal_core.proofs.Headers.{too_short, header_of_prefix, prefix_of_header}
use Rattle.journal_core.proofs.Results.{match_of}
use Rattle.journal_core.proofs.open.read_header.Goals as goal

pub returns-then-branch-lt32-clause-found : goal.returns-then-branch-lt32-clause-found
returns-then-branch-lt32-clause-found g c = λ file is.
    let size : length c.fill.new.into ≡ 32 = omega (arith, c.fill.auto.into) in
    let read = c.in_ok-fill.ensures.bytes file is in
    let short : length file < 32 = omega (arith, ap length read, length-take c.in_ok-fill.field-0 c.fill.new.into, length-take (length c.fill.new.into) file, size, c.if-branch-lt32.true, c.in_ok-fill.ensures.bound) in
    λ area side has. too_short file area side short has

pub returns-clause-found : goal.returns-clause-found
returns-clause-found g c = λ file is.
    let size : length c.fill.new.into ≡ 32 = omega (arith, c.fill.auto.into) in
    let read = c.in_ok-fill.ensures.bytes file is in
    let all : length c.fill.new.into ≤ c.in_ok-fill.field-0 = omega (arith, size, c.if-branch-lt32.false) in
    let prefix : c.fill.new.into ≡ take 32 file = sym (take_all c.in_ok-fill.field-0 c.fill.new.into all) ∙ read ∙ ap (λ (n : ℕ). take n file) size in
    match_of c.header_of.result c.header_of.ensures.none c.header_of.ensures.some
    (λ none area side has. none area side (prefix_of_header file c.fill.new.into area side prefix has))
    (λ header has. header_of_prefix file c.fill.new.into header.area header.side prefix has)
