use Rattle.std.proofs.Common.{◌≡◌, ℕ, ◌+◌, max, List, ◌++◌, length, take, drop, ◌∙◌, ap, arith, rules, vec_len}
use Rattle.std.proofs.lemmas.List.{with_items_is}
use Rattle.disk_core.proofs.Lists.{written_filled_of}
use Rattle.disk_core.proofs.memory.overwrite.Goals as goal

pub returns-clause-written : goal.returns-clause-written
returns-clause-written c =
    let place = c.args.place in
    let piece = c.args.piece.now in
    let size : c.max-size.result ≡ max (length c.args.file.now.items) (place + length piece) = omega arith in
    let long : vec_len c.args.file.now ≡ length c.args.file.now.items = search rules in
    let filled = c.deref_mut.ensures.value ∙ c.in_ok-resize.ensures.items in
    with_items_is c.resize.new.self c.replace.new.file (omega (arith, c.replace.auto.file, c.deref_mut.ensures.len))
    ∙ c.replace.ensures
    ∙ ap (λ (l : List ℕ). take place l ++ (piece ++ drop (place + length piece) l)) filled
    ∙ written_filled_of place c.max-size.result (vec_len c.args.file.now) piece c.args.file.now.items long size
