use Rattle.std.proofs.Common.{rules, ◌≡◌, ◌-◌, ℕ, map, take, drop, length, Bor, sym, ap, ◌∙◌, subst}
use Rattle.std.specs.Ordering.{is_lt}
use Rattle.std.specs.declared.cmp.Ordering.{Ordering}
use Rattle.std.specs.List.Sorted.{IsPermutation, IsSortedBy}
use Rattle.std.specs.Cmp.{IsStrictWeakOrder}
use Rattle.std.proofs.lemmas.List.{take-map, drop-map}
use Rattle.std.proofs.lemmas.List.Sorted.{IsPermutation-map, ranks_by}
use Rattle.dobj_model.specs.declared.object.ObjectValue.{ObjectValue}
use Rattle.query_core.specs.Order.{by_keys}
use Rattle.query_core.specs.Page.{IsPart}
use Rattle.query_core.proofs.OrderLemmas.{by_keys_total}
use Rattle.query_core.proofs.PageLemmas.{length_mapped, sorted_map, sorted_by, part_is}
use Rattle.query_core.proofs.hits.page.Goals as goal

pub returns : goal.returns
returns c =
    let value : Bor ObjectValue → ObjectValue = λ hit. hit.now in
    let keys = c.args.order.now in
    let sorted = c.sort_by.new.self.items in
    let by : Bor ObjectValue → Bor ObjectValue → Ordering = λ x y. by_keys keys x.now y.now in
    let strict : IsStrictWeakOrder (λ x y. is_lt (by x y)) = ranks_by (by_keys_total keys) value in
    let ascending : IsSortedBy (λ x y. is_lt (by x y)) sorted =
    sorted_by by sorted strict c.in_ok-sort_by.ensures.sorted (λ a r f' k. search rules) in
    let moved : IsPermutation c.in_ok-sorted.sorted.items sorted = c.in_ok-sort_by.ensures.permutation in
    let copied : c.in_ok-sorted.sorted.items ≡ c.hits.inside.hits.items = c.in_ok-sorted.ensures.items
    ∙ c.as_slice.ensures.value in
    let seen : map value c.in_ok-sorted.sorted.items ≡ c.args.hits.now = ap (map value) copied ∙ c.hits.view_is in
    let start : ℕ = c.bounds-start.result.0 in
    let end : ℕ = c.bounds-start.result.1 in
    let part : c.in_ok-from_slice.field-0.items ≡ take (end - start) (drop start sorted) =
    c.in_ok-from_slice.ensures.items ∙ ap (λ xs. take (end - start) (drop start xs)) c.deref.ensures.value in
    let long : c.len.result ≡ length (map value sorted) = c.len.ensures
    ∙ (sym c.deref.ensures.len ∙ (ap length c.deref.ensures.value ∙ sym (length_mapped value sorted))) in
    let cuts : IsPart (length (map value sorted)) c.args.number c.args.size start end =
    rw (sym long) c.bounds-start.ensures.page in
    record {
      sorted = map value sorted;
      all = subst (λ from. IsPermutation from (map value sorted)) seen (IsPermutation-map value _ _ moved);
      ascends = sorted_map value (λ x y. is_lt (by_keys keys x y)) sorted ascending;
      are = ap (map value) part ∙ (sym (take-map value (end - start) (drop start sorted))
          ∙ (ap (take (end - start)) (sym (drop-map value start sorted))
          ∙ part_is (map value sorted) c.args.number c.args.size start end cuts));
    }
