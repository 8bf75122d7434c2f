-- What turns of a door leave.
use Rattle.std.proofs.Common.{◌≡◌, ◌⊎◌, inl, inr, ⊎_elim, ◌<◌, ◌≤◌, ℕ, List, [], ◌∷◌, ◌++◌, Option, None, Some, Ok, Err, refl, sym, ap, ◌∙◌, subst, arith}
use mathlib.Core.Logic.{dite}
use native.Mathlib.Decide.{ℕ_discrete}
use Rattle.base_core.specs.declared.failed.Failed.{Failed}
use Rattle.link_core.specs.Host.{IsNew}
use Rattle.link_core.specs.Link.{LinkState}
use Rattle.link_core.specs.Listener.{ListenerState, Accepts, AcceptsFirst}
use Rattle.lane_server.specs.declared.door.Door.{Door}
use Rattle.lane_server.specs.Admitting.{Admission, Admits, Admitted, Hold, LawOfAdmissions, accepted}

others_none : (taken others : List (List ℕ)) → [] ≡ taken ++ others → others ≡ []
others_none [] others is = sym is
others_none (x ∷ xs) others is = absurd (cc is)

module _ {Li L : Type 0} (link_state : L → LinkState) (state : Li → ListenerState) where
  -- the list as some turns left it
  First : Door Li → List (Admission L) → Door Li → List (List ℕ) → Type 0
  First first turns last waiting = (taken others : List (List ℕ)) × (waiting ≡ taken ++ others)
      × ((state last.listener).waiting ≡ Some others) × Hold link_state taken (accepted turns)

  -- the entry is the reply
  by_reply : (old new : Door Li) (call : Unit {0}) (entry reply : Admission L)
      → Admits link_state state old call entry reply new → Admits link_state state old call entry entry new
  by_reply old new call entry reply a = subst (λ (r : Admission L). Admits link_state state old call entry r new) (sym a.told) a

  -- a link was the first of the list
  link_first : (w : List (List ℕ)) (new : Option (List (List ℕ))) (link : L)
      → AcceptsFirst {T = L} {E = Failed} link_state (Some w) new (Ok (Some link))
      → (b : List ℕ) × (bs : List (List ℕ)) × (w ≡ b ∷ bs) × IsNew b (link_state link) × (new ≡ Some bs)
  link_first [] new link a = absurd (cc (a.0))
  link_first (b ∷ bs) new link a = (b, bs, refl, a.0, a.1)

  -- none is the end of the list, which stays
  none_last : (w : List (List ℕ)) (new : Option (List (List ℕ)))
      → AcceptsFirst {T = L} {E = Failed} link_state (Some w) new (Ok None) → (w ≡ []) × (new ≡ Some w)
  none_last [] new a = (refl, a.1)
  none_last (b ∷ bs) new a = absurd a.0

  -- a fault leaves the list
  fault_keeps : (w : List (List ℕ)) (new : Option (List (List ℕ))) (fault : Failed)
      → AcceptsFirst {T = L} {E = Failed} link_state (Some w) new (Err fault) → new ≡ Some w
  fault_keeps [] new fault a = a
  fault_keeps (b ∷ bs) new fault a = a

  first_by : (old new : Door Li) (reply : Admission L) (w : List (List ℕ)) → (state old.listener).waiting ≡ Some w
      → Accepts link_state (state old.listener) (state new.listener) reply
      → AcceptsFirst {T = L} {E = Failed} link_state (Some w) (state new.listener).waiting reply
  first_by old new reply w is a = subst
      (λ (o : Option (List (List ℕ))). AcceptsFirst {T = L} {E = Failed} link_state o (state new.listener).waiting reply)
      is a.first

  -- a turn that accepts a link, before others
  link_on : (first next last : Door Li) (link : L) (es : List (Admission L))
      → Admits link_state state first tt (Ok (Some link)) (Ok (Some link)) next
      → Admitted link_state state next es last → Admitted link_state state first (Ok (Some link) ∷ es) last
  link_on first next last link es s t =
      let inside : 0 < first.left = omega (arith, s.counted) in
      let a = s.accepts inside in
      record {
        left = omega (arith, s.counted, t.left);
        fresh = (a.fresh link refl, t.fresh);
        first_ones = λ w is.
            let f = link_first w (state next.listener).waiting link (first_by first next (Ok (Some link)) w is a) in
            let m = t.first_ones f.1 f.4 in
            (f.0 ∷ m.0, m.1, f.2 ∙ ap (λ (x : List (List ℕ)). f.0 ∷ x) m.2, m.3, (f.3, m.4));
        faults = omega (arith, t.faults, a.cause.later);
        end = λ has w is.
            let f = link_first w (state next.listener).waiting link (first_by first next (Ok (Some link)) w is a) in
            ⊎_elim (λ h. absurd (cc h)) (λ h. t.end h f.1 f.4) has;
      }

  -- what a turn without a link leaves of the list
  kept_by_none : (first next : Door Li) → Admits link_state state first tt (Ok None) (Ok None) next
      → (w : List (List ℕ)) → (state first.listener).waiting ≡ Some w
      → ((state next.listener).waiting ≡ Some w) × ((first.left ≡ 0) ⊎ (w ≡ []))
  kept_by_none first next s w is = dite (ℕ_discrete first.left 0)
      (λ shut. (ap (λ (l : Li). (state l).waiting) (s.shut shut).1 ∙ is, inl shut))
      (λ open_. let n = none_last w (state next.listener).waiting
      (first_by first next (Ok None) w is (s.accepts (omega (arith, open_)))) in (n.1, inr n.0))

  later_by_none : (first next : Door Li) → Admits link_state state first tt (Ok None) (Ok None) next
      → (state first.listener).faults ≤ (state next.listener).faults
  later_by_none first next s = dite (ℕ_discrete first.left 0)
      (λ shut. let e = ap (λ (l : Li). (state l).faults) (s.shut shut).1 in omega (arith, e))
      (λ open_. (s.accepts (omega (arith, open_))).cause.later)

  none_on : (first next last : Door Li) (es : List (Admission L))
      → Admits link_state state first tt (Ok None) (Ok None) next
      → Admitted link_state state next es last → Admitted link_state state first (Ok None ∷ es) last
  none_on first next last es s t = record {
    left = omega (arith, s.counted, t.left);
    fresh = t.fresh;
    first_ones = λ w is. t.first_ones w (kept_by_none first next s w is).0;
    faults = let l = later_by_none first next s in omega (arith, t.faults, l);
    end = λ has w is. let k = kept_by_none first next s w is in
        ⊎_elim
        (λ here. ⊎_elim (λ shut. inl (omega (arith, s.counted, t.left, shut)))
        (λ none. let m = t.first_ones w k.0 in
        inr (m.3 ∙ ap Some (others_none m.0 m.1 (sym none ∙ m.2)))) k.1)
        (λ h. t.end h w k.0) has;
  }

  fault_on : (first next last : Door Li) (fault : Failed) (es : List (Admission L))
      → Admits link_state state first tt (Err fault) (Err fault) next
      → Admitted link_state state next es last → Admitted link_state state first (Err fault ∷ es) last
  fault_on first next last fault es s t =
      let inside : 0 < first.left =
      dite (ℕ_discrete first.left 0) (λ shut. absurd (cc ((s.shut shut).0))) (λ open_. omega (arith, open_)) in
      let a = s.accepts inside in
      record {
        left = omega (arith, s.counted, t.left);
        fresh = t.fresh;
        first_ones = λ w is. t.first_ones w
            (fault_keeps w (state next.listener).waiting fault (first_by first next (Err fault) w is a));
        faults = omega (arith, t.faults, a.cause.failed);
        end = λ has w is.
            ⊎_elim (λ h. absurd (cc h))
            (λ h. t.end h w (fault_keeps w (state next.listener).waiting fault (first_by first next (Err fault) w is a))) has;
      }

  turn_on : (first next last : Door Li) (e : Admission L) (es : List (Admission L))
      → Admits link_state state first tt e e next
      → Admitted link_state state next es last → Admitted link_state state first (e ∷ es) last
  turn_on first next last (Ok (Some link)) es s t = link_on first next last link es s t
  turn_on first next last (Ok None) es s t = none_on first next last es s t
  turn_on first next last (Err fault) es s t = fault_on first next last fault es s t

  pub law : LawOfAdmissions link_state state
  law first last [] r = record {
    left = let e = ap (λ (d : Door Li). d.left) r in omega (arith, e);
    fresh = tt;
    first_ones = λ w is. ([], w, refl, ap (λ (d : Door Li). (state d.listener).waiting) (sym r) ∙ is, tt);
    faults = let e = ap (λ (d : Door Li). (state d.listener).faults) r in omega (arith, e);
    end = λ has. absurd has;
  }
  law first last (e ∷ es) r =
      turn_on first r.0 last e es (by_reply first r.0 r.1.0 e r.1.1 r.1.2) (law r.0 last es r.2)
