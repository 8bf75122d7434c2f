use Rattle.std.proofs.Common.{rules, ℕ, List, Bor, map, subst}
use Rattle.std.specs.Cmp.{IsStrictWeakOrder}
use Rattle.std.specs.Cmp.Lexicographic.{nat_list_cmp_total}
use Rattle.std.specs.List.Sorted.{IsPermutation, IsSortedBy}
use Rattle.std.specs.Ordering.{is_lt}
use Rattle.std.proofs.lemmas.List.Sorted.{IsPermutation-map, ranks_by}
use Rattle.dobj_model.specs.declared.object.ObjectValue.{ObjectValue}
use Rattle.repo_state.specs.Least.{id_cmp}
use Rattle.repo_state.specs.Rows.{Row}
use Rattle.repo_state.proofs.AscendingLemmas.{ascending_values, sorted_by}
use Rattle.repo_state.proofs.compaction.ascending.Goals as goal

pub returns : goal.returns
returns c =
    let key : Bor ObjectValue → List ℕ = λ o. o.now.id in
    let value : Bor ObjectValue → ObjectValue = λ o. o.now in
    let row : Bor ObjectValue → Row = λ o. (o.now.id, o.now) in
    let sorted = c.sort_by.new.self.items in
    let strict : IsStrictWeakOrder (λ x y. is_lt (id_cmp (key x) (key y))) = ranks_by nat_list_cmp_total key in
    let up : IsSortedBy (λ x y. is_lt (id_cmp (key x) (key y))) sorted =
    sorted_by (λ x y. id_cmp (key x) (key y)) sorted strict c.in_ok-sort_by.ensures.sorted (λ a r f' k. search rules) in
    let moved : IsPermutation (map row c.in_ok-objects.objects.items) (map row sorted) =
    IsPermutation-map row _ _ c.in_ok-sort_by.ensures.permutation in
    ascending_values key value c.args.rows.now.rows sorted
    (subst (λ rows. IsPermutation rows (map row sorted)) c.in_ok-objects.ensures.rows moved)
    c.in_ok-objects.ensures.distinct up
