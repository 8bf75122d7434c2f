use Rattle.std.proofs.Common.{◌/◌, [], ◌∷◌, length, take, arith, length-take}
use Rattle.disk_core.specs.Disk.{Torn}
use Rattle.disk_core.proofs.TornLemmas.{torn_alone, two, four, on_ok}
use Rattle.disk_core.proofs.torn.push_others.Goals as goal

pub returns-then-piece-eq1 : goal.returns-then-piece-eq1
returns-then-piece-eq1 c = on_ok c.push_byte.result (λ pushed.
    let place = c.args.place in
    let n = length c.args.piece.now in
    let old = c.args.old.now in
    (_, pushed, four (Torn place n old) _ _ _ _ (torn_alone old (0 ∷ []) place n (omega arith)) (torn_alone old (1 ∷ []) place n (omega arith)) (torn_alone old (2 ∷ []) place n (omega arith)) (torn_alone old (255 ∷ []) place n (omega arith)))) c.push_byte.ensures

pub returns-else-piece-eq1 : goal.returns-else-piece-eq1
returns-else-piece-eq1 c = on_ok c.push_piece.result (λ pushed.
    let place = c.args.place in
    let piece = c.args.piece.now in
    let n = length piece in
    let old = c.args.old.now in
    (_, pushed.2, two (Torn place n old) _ _ (torn_alone old (take (length piece / 2) piece) place n (omega (arith, length-take (length piece / 2) piece))) (torn_alone old pushed.0 place n (omega (arith, pushed.1))))) c.push_piece.ensures
