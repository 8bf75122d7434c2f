use Rattle.std.proofs.Common.{◌≡◌, ◌+◌, ◌*◌, ◌≤◌, [], ◌∷◌, ◌++◌, ℕ, replicate, ap, sym, subst, ◌∙◌}
use lib.ListN.{get_or-replicate, length-replicate}
use Rattle.atomic_table.specs.Table.{opening}
use Rattle.history_lock.specs.declared.board.Slot.{Slot}
use Rattle.history_lock.specs.History.{Leads}
use Rattle.history_lock.specs.Rule.{Kept, opening_view}
use Rattle.history_lock.proofs.Ends.{starts}
use Rattle.history_lock.proofs.opening.lay.Goals as goal

pub new-requires-2 : goal.new-requires-2
new-requires-2 g c =
    let L = Leads {E = g.row.T-Entry.Denot} g.T.Turned.step in
    let f : g.row.T.Denot = c.of.result.value in
    let n : ℕ = (c.args.passes + 2) * 16 in
    let few : c.args.passes ≤ 64 = c.requires in
    let slot : Slot g.row.T.Denot g.row.T-Entry.Denot = c.of-slot.result in
    let words : c.as_slice.result.now ≡ replicate n 0 = c.as_slice.ensures.value ∙ c.in-Ok-vec.ensures.items_if_clones_equal (λ y same. cc (same)) in
    let slots : c.push.new.self.items ≡ slot ∷ [] = c.in_default-push.ensures.items ∙ ap (λ xs. xs ++ slot ∷ []) c.new-slots.ensures.items in
    subst (λ ws. Kept L f c.args.passes (opening ws c.push.new.self.items (opening_view f c.args.passes))) (sym words)
    (subst (λ xs. Kept L f c.args.passes (opening (replicate n 0) xs (opening_view f c.args.passes))) (sym slots)
    (starts L f c.args.passes (replicate n 0) slot few (length-replicate n 0) (λ i l. get_or-replicate n i 0 0 l) (c.of-slot.ensures ∙ sym c.of.ensures)))
