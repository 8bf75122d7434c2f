-- The sessions of a lane, one after another.
use Rattle.std.proofs.Common.{◌≡◌, ◌≢◌, ◌<◌, ℕ, zero, suc, ◌+◌, List, [], ◌∷◌, ◌++◌, Bool, true, false, ◌&&◌, nat_eq, length, refl, sym, ap, ◌∙◌, subst, arith, length-append, ne_eqb}
use Rattle.std.proofs.lemmas.Bool.{eqb-true}
use Rattle.std.specs.List.{AllByRecursion}
use Rattle.history_lock.specs.declared.board.Entered.{Entered}
use Rattle.history_lock.specs.declared.board.Share.{Share}
use Rattle.history_lock.specs.declared.pass.Pass.{Pass}
use Rattle.history_lock.specs.declared.turned.Turned.{Ghosts}
use Rattle.history_lock.specs.History.{entries_by, held, number_of, own_of, share_of, HoldsAll, HoldsOwn}
use Rattle.history_lock.specs.Passes.{number, seen, shares}
use Rattle.history_lock.proofs.Histories.{held_own}
use Rattle.link_core.specs.Link.{LinkState}
use Rattle.doip_message.specs.Pairs.{Pair}
use Rattle.repo_step.specs.History.{Entry, is_of}
use Rattle.repo_step.specs.Laws.{IsAllOf}
use Rattle.repo_step.proofs.Histories.{pairs_none}
use Rattle.lane_server.specs.declared.served.ServedSession.{ServedSession}
use Rattle.lane_server.specs.Closing.{ServedAndClosed}
use Rattle.lane_server.specs.Growing.{Grew, is_by, pairs_by, with_more}
use Rattle.lane_server.specs.Lanes.{AreNumbered, IsServed, Serves, Terms}
use Rattle.lane_server.proofs.PairLemmas.{none_of, pairs_without}

pub all_weaker : {A : Type 0} {P Q : A → Type 0} (xs : List A) → ((x : A) → P x → Q x) → AllByRecursion P xs
    → AllByRecursion Q xs
all_weaker [] f all = tt
all_weaker (x ∷ xs) f all = (f x all.0, all_weaker xs f all.1)

pub all_both : {A : Type 0} {P Q R : A → Type 0} (xs : List A) → ((x : A) → P x → Q x → R x) → AllByRecursion P xs
    → AllByRecursion Q xs → AllByRecursion R xs
all_both [] f all both = tt
all_both (x ∷ xs) f all both = (f x all.0 both.0, all_both xs f all.1 both.1)

pub all-append : {A : Type 0} (P : A → Type 0) (xs ys : List A) → AllByRecursion P xs → AllByRecursion P ys
    → AllByRecursion P (xs ++ ys)
all-append P [] ys all more = more
all-append P (x ∷ xs) ys all more = (all.0, all-append P xs ys all.1 more)

split_both : (b c : Bool) → (b && c) ≡ true → (b ≡ true) × (c ≡ true)
split_both true c is = (refl, is)
split_both false c is = absurd (cc is)

-- the entry's lane and session
pub parts_of : (lane session : ℕ) (e : Entry) → is_of lane session e ≡ true → (e.lane ≡ lane) × (e.session ≡ session)
parts_of lane session e is =
    let b = split_both (nat_eq e.lane lane) (nat_eq e.session session) is in
    (eqb-true e.lane lane b.0, eqb-true e.session session b.1)

-- a pass with one number, that has more
pub lone_more : (lane : ℕ) (ss now : List (Share Entry)) (more : List Entry) → ss ≡ share_of lane (own_of ss) ∷ []
    → now ≡ with_more more ss → (now ≡ share_of lane (own_of now) ∷ []) × (own_of now ≡ own_of ss ++ more)
lone_more lane ss now more lone is =
    let e : now ≡ share_of lane (own_of ss ++ more) ∷ [] = is ∙ ap (with_more more) lone in
    (e ∙ ap (λ (o : List Entry). share_of lane o ∷ []) (sym (ap own_of e)), ap own_of e)

-- its own list is that of its number in what it has seen
pub lone_own : {E : Type 0} (lane : ℕ) (h : List (Entered E)) (ss : List (Share E)) → ss ≡ share_of lane (own_of ss) ∷ []
    → HoldsOwn h ss → own_of ss ≡ entries_by lane h
lone_own lane h ss lone holds = (held_own h (share_of lane (own_of ss) ∷ []) (subst (HoldsOwn h) lone holds)).0

module _ {L : Type 0} (link_state : L → LinkState) (t : Terms) (lane : ℕ) where
  numbered_more : (k : ℕ) (xs : List (ServedSession L)) (x : ServedSession L) → AreNumbered lane k xs → x.lane ≡ lane
      → x.session ≡ k + length xs → AreNumbered lane k (xs ++ x ∷ [])
  numbered_more k [] x a l s = (l, omega (arith, s), tt)
  numbered_more k (y ∷ ys) x a l s = (a.0, a.1, numbered_more (k + 1) ys x a.2 l (omega (arith, s)))

  pub numbered_below : (k : ℕ) (xs : List (ServedSession L)) → AreNumbered lane k xs
      → AllByRecursion (λ x. (x.lane ≡ lane) × (x.session < k + length xs)) xs
  numbered_below k [] a = tt
  numbered_below k (x ∷ xs) a =
      let here : x.session < k + length (x ∷ xs) = omega (arith, a.1) in (
        (a.0, here),
        all_weaker xs (λ y b. let low = b.1 in (b.0, omega (arith, low))) (numbered_below (k + 1) xs a.2),
      )

  -- before the first session
  pub serves_none : (seen : List (Entered Entry)) (own : List Entry) (xs : List (ServedSession L)) → xs ≡ [] → own ≡ []
      → Serves link_state t lane seen own xs
  serves_none seen [] [] is none = record { numbered = tt; each = tt; only = tt }
  serves_none seen own (x ∷ xs) is none = absurd (cc is)
  serves_none seen (e ∷ es) [] is none = absurd (cc none)

  -- one session more
  pub serves_more : (seen later more : List (Entered Entry)) (own grown : List Entry) (xs : List (ServedSession L))
      (x : ServedSession L) (k : ℕ) → Serves link_state t lane seen own xs → k ≡ length xs
      → own ≡ entries_by lane seen → later ≡ seen ++ more → grown ≡ own ++ entries_by lane more
      → IsAllOf lane k (entries_by lane more) → x.lane ≡ lane → x.session ≡ k
      → ServedAndClosed t.limits (pairs_by t.start lane k seen) (pairs_by t.start lane k later)
      (link_state x.begun.value) (link_state x.link) x.end
      → Serves link_state t lane later grown (xs ++ x ∷ [])
  serves_more seen later more own grown xs x k s count mine is_later is_grown all in_lane in_session served =
      let long : length (xs ++ x ∷ []) ≡ k + 1 =
      length-append xs (x ∷ []) ∙ ap (λ (n : ℕ). n + 1) (sym count) in
      let same : (j : ℕ) → j ≢ k → pairs_by t.start lane j later ≡ pairs_by t.start lane j seen =
      λ j other. ap (pairs_by t.start lane j) is_later
      ∙ pairs_without t.start lane j seen more
      (none_of lane j (λ (e : Entry). is_of lane k e ≡ true) more
      (λ e is. ne_eqb e.session j (λ at. other (sym at ∙ (parts_of lane k e is).1))) all) in
      let below : AllByRecursion (λ (e : Entry). (e.lane ≡ lane) × (e.session < k)) own =
      subst (λ (n : ℕ). AllByRecursion (λ (e : Entry). (e.lane ≡ lane) × (e.session < n)) own) (sym count) s.only in
      let none : pairs_by t.start lane k seen ≡ [] =
      pairs_none t.start.setting (λ (u : Entered Entry). u.entry) (is_by lane k) t.start.first seen
      (none_of lane k (λ (e : Entry). (e.lane ≡ lane) × (e.session < k)) seen
      (λ e is. ne_eqb e.session k (λ at. let low = is.1 in absurd (omega (arith, low, at))))
      (subst (AllByRecursion (λ (e : Entry). (e.lane ≡ lane) × (e.session < k))) mine below)) in
      record {
        numbered = numbered_more 0 xs x s.numbered in_lane (omega (arith, in_session, count));
        each = all-append (IsServed link_state t later) xs (x ∷ [])
            (all_both xs
            (λ y b d. subst (λ (ps : List Pair). ServedAndClosed t.limits [] ps (link_state y.begun.value) (link_state y.link)
            y.end)
            (sym (subst (λ (m : ℕ). pairs_by t.start m y.session later ≡ pairs_by t.start m y.session seen) (sym b.0)
            (same y.session (λ at. let low = b.1 in absurd (omega (arith, low, at, count)))))) d)
            (numbered_below 0 xs s.numbered) s.each) (
              subst (λ (m : ℕ × ℕ). ServedAndClosed t.limits [] (pairs_by t.start m.0 m.1 later) (link_state x.begun.value)
                  (link_state x.link) x.end) (λ i. (sym in_lane i, sym in_session i))
                  (subst (λ (ps : List Pair). ServedAndClosed t.limits ps (pairs_by t.start lane k later)
                  (link_state x.begun.value) (link_state x.link) x.end) none served),
              tt,
            );
        only = subst (AllByRecursion (λ (e : Entry). (e.lane ≡ lane) × (e.session < length (xs ++ x ∷ [])))) (sym is_grown)
            (all-append (λ (e : Entry). (e.lane ≡ lane) × (e.session < length (xs ++ x ∷ []))) own (entries_by lane more)
            (all_weaker own (λ e b. let low = b.1 in (b.0, omega (arith, low, long))) below)
            (all_weaker (entries_by lane more)
            (λ e is. let b = parts_of lane k e is in let at = b.1 in (b.0, omega (arith, at, long))) all));
      }

  -- one session more, from the pass before it to the pass after it
  pub served_on : {T C R : Type 0} {g : Ghosts T C R Entry} (before after : Pass T C R Entry g)
      (xs ys : List (ServedSession L)) (x : ServedSession L) (k : ℕ)
      → Serves link_state t lane (seen before) (own_of (shares before)) xs → k ≡ length xs
      → shares before ≡ share_of lane (own_of (shares before)) ∷ [] → Grew lane k before after → x.lane ≡ lane
      → x.session ≡ k
      → ServedAndClosed t.limits (pairs_by t.start lane k (seen before)) (pairs_by t.start lane k (seen after))
      (link_state x.begun.value) (link_state x.link) x.end → ys ≡ xs ++ x ∷ []
      → Serves link_state t lane (seen after) (own_of (shares after)) ys
      × (shares after ≡ share_of lane (own_of (shares after)) ∷ [])
  served_on before after xs ys x k s count lone grew in_lane in_session served is =
      let at : number before ≡ lane = ap number_of lone in
      let more : List Entry = entries_by lane grew.more in
      let has : shares after ≡ with_more more (shares before) =
      grew.has_own ∙ ap (λ (n : ℕ). with_more (entries_by n grew.more) (shares before)) at in
      let l = lone_more lane (shares before) (shares after) more lone has in (
        subst (Serves link_state t lane (seen after) (own_of (shares after))) (sym is)
            (serves_more (seen before) (seen after) grew.more (own_of (shares before)) (own_of (shares after)) xs x k s
            count (lone_own lane (seen before) (shares before) lone before.holds_own) grew.has_seen l.1
            (subst (λ (n : ℕ). IsAllOf lane k (entries_by n grew.more)) at grew.only) in_lane in_session served),
        l.0,
      )

-- the only pass of a lock holds each of its numbers
pub holds_alone : {E : Type 0} (passes : ℕ) (ss : List (Share E)) → passes ≡ 1 → ss ≡ share_of 0 (own_of ss) ∷ []
    → HoldsAll passes ss
holds_alone passes ss one alone zero below = subst (λ (x : List (Share _)). 0 < held 0 x) (sym alone) (omega arith)
holds_alone passes ss one alone (suc k) below = absurd (omega (arith, below, one))
