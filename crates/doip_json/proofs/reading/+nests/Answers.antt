use Rattle.std.proofs.Common.{◌≡◌, ◌+◌, ◌≤◌, List, [], ◌∷◌, ◌++◌, take, refl, sym, ap, ◌∙◌, append_assoc, arith}
use Rattle.std.proofs.lemmas.List.{take_more}
use Rattle.serde_json.specs.Data.{depth, items_depth, members_depth}
use Rattle.serde_json.specs.View.{view, items_view, members_view}
use Rattle.serde_json.proofs.Views.{Entry}
use Rattle.doip_json.proofs.Parsed.{items_depth-append, item-le, members_depth-append}
use Rattle.doip_json.proofs.reading.+nests.Goals as goal

pub items_within-returns-then-not-nests_within : goal.items_within-returns-then-not-nests_within
items_within-returns-then-not-nests_within t c =
    let xs = c.deref-item-items.result.now in
    let all : items_depth (items_view xs) ≡ items_depth (items_view c.args.items.now.items) = ap (λ ys. items_depth (items_view ys)) c.deref-item-items.ensures.value in
    let le : depth (view c.item-item.result) ≤ items_depth (items_view xs) = item-le xs c.loop-item.item-index c.item-item.result c.loop-item-test.true c.item-item.is in
    (λ no. absurd (cc), λ shallow. c.if-not-nests_within.ensures.1 (omega arith))

pub items_within-loop-item-preserved : goal.items_within-loop-item-preserved
items_within-loop-item-preserved t c =
    let l = c.loop-item in
    let xs = c.deref-item-items.result.now in
    let x = c.item-item.result in
    let next : take (l.item-index + 1) xs ≡ take l.item-index xs ++ x ∷ [] = take_more xs l.item-index x c.loop-item-test.true ∙ ap (λ y. take l.item-index xs ++ y ∷ []) (sym c.item-item.is) in
    let grown : items_depth (items_view (take (l.item-index + 1) xs)) ≡ _ = ap (λ ys. items_depth (items_view ys)) next ∙ items_depth-append (take l.item-index xs) x in
    let shallow : depth (view x) ≤ c.args.depth = c.if-not-nests_within.ensures.0 refl in
    let before : items_depth (items_view (take l.item-index xs)) ≤ c.args.depth = l.invariant in
    let goal : items_depth (items_view (take (l.item-index + 1) xs)) ≤ c.args.depth = omega arith in goal

pub members_within-returns-then-not-nests_within : goal.members_within-returns-then-not-nests_within
members_within-returns-then-not-nests_within t c =
    let e : Entry = (c.in-Some.field-0-0.now, c.in-Some.member.now) in
    let done : List Entry = c.loop-member.invariant.0 in
    let left : List Entry = c.next.new.self in
    let all : c.args.members.now.entries ≡ done ++ e ∷ left = c.loop-member.invariant.1 ∙ ap (λ es. done ++ es) c.in-Some.ensures.steps in
    let depths : members_depth (members_view c.args.members.now.entries) ≡ _ = ap (λ es. members_depth (members_view es)) all ∙ members_depth-append done (e ∷ left) in
    (λ no. absurd (cc), λ shallow. c.if-not-nests_within.ensures.1 (omega arith))

pub members_within-loop-member-preserved : goal.members_within-loop-member-preserved
members_within-loop-member-preserved t c =
    let l = c.loop-member in
    let e : Entry = (c.in-Some.field-0-0.now, c.in-Some.member.now) in
    let done : List Entry = l.invariant.0 in
    let left : List Entry = c.next.new.self in
    let all : c.args.members.now.entries ≡ done ++ e ∷ left = l.invariant.1 ∙ ap (λ es. done ++ es) c.in-Some.ensures.steps in
    let shallow : depth (view c.in-Some.member.now) ≤ c.args.depth = c.if-not-nests_within.ensures.0 refl in
    let before : members_depth (members_view done) ≤ c.args.depth = l.invariant.2 in
    (done ++ e ∷ [], all ∙ sym (append_assoc done (e ∷ []) left), omega (arith, members_depth-append done (e ∷ [])))
