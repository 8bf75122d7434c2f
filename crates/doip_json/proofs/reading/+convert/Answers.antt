use Rattle.std.proofs.Common.{◌≡◌, List, [], ◌∷◌, ◌++◌, Some, option_map, string_bytes, sym, ap, ◌∙◌, subst, append_assoc}
use Rattle.std.specs.List.Sorted.{IsStrictlySortedBy}
use Rattle.std.specs.Map.{keys_of}
use Rattle.std.specs.String.{string_cmp}
use Rattle.std.specs.Vec.Iter.{into_iter_items}
use Rattle.serde_json.specs.View.{items_view, members_view}
use Rattle.serde_json.proofs.Views.{Entry}
use Rattle.doip_json.specs.Meaning.{value_of}
use Rattle.doip_json.specs.Read.{values_in, entries_in}
use Rattle.doip_json.proofs.Parsed.{items_after, entries_after, items_after-none, entries_after-none, item_done, entry_done, next_ascends, keys_grow, no_items}
use Rattle.doip_json.proofs.reading.+convert.Goals as goal

pub list_of-loop-item-preserved : goal.list_of-loop-item-preserved
list_of-loop-item-preserved t c =
    let l = c.loop-item in
    let left = into_iter_items c.next.new.self in
    let v = value_of c.in_ok-json_of.field-0 in
    l.invariant ∙ (ap (λ xs. option_map (items_after l.list) (values_in (items_view xs))) c.in-Some.ensures.steps.0
    ∙ (item_done l.list c.in-Some.item left v c.in_ok-json_of.ensures.value ∙ ap (λ vs. option_map (items_after vs) (values_in (items_view left))) (sym c.in_ok-push.ensures.ok)))

pub list_of-returns-clause-value : goal.list_of-returns-clause-value
list_of-returns-clause-value t c =
    let l = c.loop-item in
    let ended : into_iter_items l.item-iterator ≡ [] = no_items (into_iter_items l.item-iterator) (sym l.item-iterator.rest.ok.0 ∙ c.in-None.ensures.steps.0) in
    l.invariant ∙ (ap (λ xs. option_map (items_after l.list) (values_in (items_view xs))) ended ∙ ap Some (items_after-none l.list))

pub map_of-push_last-requires : goal.map_of-push_last-requires
map_of-push_last-requires t c =
    let l = c.loop-key in
    let e : Entry = (c.in-Some.key, c.in-Some.member) in
    let left : List Entry = c.next.new.self in
    let all : c.args.members.entries ≡ l.invariant.0 ++ e ∷ left = l.invariant.1 ∙ ap (λ es. l.invariant.0 ++ es) c.in-Some.ensures.steps in
    let sorted : IsStrictlySortedBy string_cmp (keys_of c.args.members.entries) = c.into_iter-key-iterator.ensures.into_iter_gives.5 in
    let ascends = next_ascends l.map l.invariant.0 e left (value_of c.in_ok-json_of.field-0) l.invariant.2 (subst (λ es. IsStrictlySortedBy string_cmp (keys_of es)) all sorted) in
    rw c.from_string.ensures ascends

pub map_of-loop-key-preserved : goal.map_of-loop-key-preserved
map_of-loop-key-preserved t c =
    let l = c.loop-key in
    let e : Entry = (c.in-Some.key, c.in-Some.member) in
    let left : List Entry = c.next.new.self in
    let done : List Entry = l.invariant.0 in
    let v = value_of c.in_ok-json_of.field-0 in
    let all : c.args.members.entries ≡ done ++ e ∷ left = l.invariant.1 ∙ ap (λ es. done ++ es) c.in-Some.ensures.steps in
    let put : c.push_last.new.self ≡ l.map ++ (string_bytes c.in-Some.key, v) ∷ [] = c.in_ok-push_last.ensures.ok ∙ ap (λ k. l.map ++ (k, v) ∷ []) c.from_string.ensures in (
      done ++ e ∷ [],
      all ∙ sym (append_assoc done (e ∷ []) left),
      ap keys_of put ∙ keys_grow l.map done e v l.invariant.2,
      l.invariant.3 ∙ (ap (λ xs. option_map (entries_after l.map) (entries_in (members_view xs))) c.in-Some.ensures.steps
          ∙ (entry_done l.map e left v c.in_ok-json_of.ensures.value ∙ ap (λ es. option_map (entries_after es) (entries_in (members_view left))) (sym put))),
    )

pub map_of-returns-clause-value : goal.map_of-returns-clause-value
map_of-returns-clause-value t c =
    let l = c.loop-key in
    l.invariant.3 ∙ (ap (λ xs. option_map (entries_after l.map) (entries_in (members_view xs))) c.in-None.ensures.steps.0 ∙ ap Some (entries_after-none l.map))
