use Rattle.std.proofs.Common.{◌≡◌, ◌+◌, ◌-◌, ◌<◌, [], ◌∷◌, ℕ, suc, ap, sym, subst, ◌∙◌, refl, arith, Some, List, slice_get, length, ⊎_elim}
use Rattle.history_lock.specs.declared.board.Share.{Share}
use Rattle.history_lock.specs.History.{HoldsOwn, share_of, Leads, own_of, other_shares}
use Rattle.history_lock.specs.Told.{one_of, rest_of}
use Rattle.history_lock.specs.Rule.{opening_view}
use Rattle.history_lock.proofs.Ends.{splits_one}
use Rattle.history_lock.proofs.Lists.{get_snoc}
use Rattle.history_lock.proofs.opening.deal.Goals as goal

pub split_seat-seat-requires : goal.split_seat-seat-requires
split_seat-seat-requires g c = let words = c.args.lock.now.sized in let left = c.loop-dealt.invariant.left in (
  c.loop-dealt.invariant.same ∙ c.requires.lock,
  omega arith,
  splits_one (Leads g.T.Turned.step) c.args.lock.now.table.shared.key.first.value c.args.lock.now.table.shared.key.passes c.loop-dealt.source.id c.loop-dealt.source.me.0
      (ap (λ m. m.0.tickets) left, ap (λ m. m.0.come) left, ap (λ m. m.0.announced) left, ap (λ m. m.0.noted) left),
)

pub invariant_of-pass : goal.invariant_of-pass
invariant_of-pass g c = let f : g.row.T.Denot = c.args.lock.now.table.shared.key.first.value in let d : ℕ = c.loop-dealt.dealt in let k : ℕ = c.args.passes - 1 - d in
    let in_range : d < c.args.passes = c.loop-dealt-test.true in let next : c.args.passes - d ≡ suc k = omega arith in
    let here : c.split_seat-seat.result.me ≡ (one_of (opening_view f (suc k)), []) = c.split_seat-seat.ensures.4 ∙ ((λ i. (one_of (c.loop-dealt.invariant.left i).0, [])) ∙ ap (λ n. (one_of (opening_view f n), [])) next) in
    let one : List (Share g.row.T-Entry.Denot) = (record { number = k; own = [] }) ∷ [] in
    let shares : c.split_seat-seat.result.me.0.shares ≡ one = ap (λ m. m.0.shares) here in
    let words : c.split_seat-seat.result.table_id.words ≡ c.args.lock.now.table.shared.table_id.words = ap (λ z. z.words) (c.split_seat-seat.ensures.3 ∙ (c.loop-dealt.invariant.same ∙ c.requires.lock)) in
    let sized = c.args.lock.now.sized in let few = c.args.lock.now.few in let all = c.requires.passes in record {
      holds_own = subst (λ m. HoldsOwn m.0.seen m.0.shares) (sym here) refl;
      first_is_own = shares ∙ (λ i. share_of k (own_of (sym shares i)) ∷ other_shares (sym shares i));
      bare = ap (λ m. m.1) here;
      rests = (ap (λ m. m.0.tickets) here, ap (λ m. m.0.come) here, ap (λ m. m.0.announced) here, ap (λ m. m.0.noted) here);
      few = omega arith;
      inside = omega arith;
    }

pub loop-dealt-preserved : goal.loop-dealt-preserved
loop-dealt-preserved g c = let f : g.row.T.Denot = c.args.lock.now.table.shared.key.first.value in let d : ℕ = c.loop-dealt.dealt in let k : ℕ = c.args.passes - 1 - d in
    let in_range : d < c.args.passes = c.loop-dealt-test.true in let next : c.args.passes - d ≡ suc k = omega arith in let after : k ≡ c.args.passes - (d + 1) = omega arith in
    let inv = c.loop-dealt.invariant in
    let here : c.split_seat-seat.result.me ≡ (one_of (opening_view f (suc k)), []) = c.split_seat-seat.ensures.4 ∙ ((λ i. (one_of (inv.left i).0, [])) ∙ ap (λ n. (one_of (opening_view f n), [])) next) in
    let there : c.split_seat-seat.new.seat.me ≡ (opening_view f (c.args.passes - (d + 1)), []) =
    c.split_seat-seat.ensures.2 ∙ ((λ i. (rest_of (inv.left i).0, (inv.left i).1)) ∙ (ap (λ n. (rest_of (opening_view f n), [])) next ∙ ap (λ n. (opening_view f n, [])) after)) in
    let count = inv.count in let len = c.loop-dealt.waiting.ok in
    record {
      same = c.split_seat-seat.ensures.0 ∙ inv.same;
      left = there;
      count = c.add.ensures.len ∙ ap (λ n. n + 1) inv.count;
      room = omega (arith, inv.room, c.add.ensures.capacity);
      given = λ j p at. ⊎_elim (λ (h : slice_get c.loop-dealt.waiting.items j ≡ Some p). inv.given j p h)
          (λ (h : (j ≡ length c.loop-dealt.waiting.items) × (_ ≡ p)).
          let place : j ≡ d = h.0 ∙ (sym len.0 ∙ inv.count) in (
            ap (λ q. q.seat.table_id) (sym h.1) ∙ (c.split_seat-seat.ensures.3 ∙ inv.same),
            ap (λ q. q.seat.me.0.first) (sym h.1) ∙ (ap (λ m. m.0.first) here ∙ sym (ap (λ m. m.0.first) c.requires.source)),
            ap (λ q. q.seat.me.0.seen) (sym h.1) ∙ ap (λ m. m.0.seen) here,
            subst (λ q. q.seat.me.0.shares ≡ (record { number = q.number; own = [] }) ∷ []) h.1 (ap (λ m. m.0.shares) here),
            subst (λ q. q.number + (j + 1) ≡ c.args.passes) h.1 (omega arith),
          ))
          (get_snoc c.loop-dealt.waiting.items _ p j (ap (λ xs. slice_get xs j) (sym c.add.ensures.items) ∙ at));
    }
