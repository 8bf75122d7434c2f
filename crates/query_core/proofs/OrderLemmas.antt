-- The order by keys is one.
use Rattle.std.proofs.Common.{◌≡◌, ℕ, ◌+◌, ◌<◌, Bool, true, false, if◌then◌else◌, List, [], ◌∷◌, length, get_or, drop, ap, ◌∙◌, sym}
use Rattle.std.specs.Cmp.{IsTotalOrder}
use Rattle.std.specs.Ordering.{ordering_then}
use Rattle.std.proofs.lemmas.Cmp.{on_total, then_total, back_total, nat_cmp_total, int_cmp_total, nat_list_cmp_total}
use Rattle.std.proofs.lemmas.List.{drop_more}
use Rattle.dobj_model.specs.declared.object.ObjectValue.{ObjectValue}
use Rattle.query_core.specs.declared.order.SortKey.{SortKey}
use Rattle.query_core.specs.Order.{kind_of, number_in, string_in, lack_of, key_of, rising, falling, by_key, by_keys}

rising_total : IsTotalOrder rising
rising_total = then_total (on_total kind_of nat_cmp_total)
    (then_total (on_total number_in int_cmp_total) (on_total string_in nat_list_cmp_total))

falling_total : IsTotalOrder falling
falling_total = then_total (on_total lack_of nat_cmp_total) (back_total rising_total)

either_total : (b : Bool) → IsTotalOrder (if b then falling else rising)
either_total true = falling_total
either_total false = rising_total

pub by_keys_total : (keys : List SortKey) → IsTotalOrder (by_keys keys)
by_keys_total [] = on_total (λ (object : ObjectValue). object.id) nat_list_cmp_total
by_keys_total (key ∷ keys) = then_total (on_total (key_of key.field) (either_total key.descending)) (by_keys_total keys)

-- the keys from a place on
pub next_key : (keys : List SortKey) (i : ℕ) (key : SortKey) (a b : ObjectValue) → i < length keys
    → key ≡ get_or keys i key
    → by_keys (drop i keys) a b ≡ ordering_then (by_key key a b) (by_keys (drop (i + 1) keys) a b)
next_key keys i key a b within is =
    ap (λ ks. by_keys ks a b) (drop_more keys i key within ∙ ap (λ k. k ∷ drop (i + 1) keys) (sym is))
