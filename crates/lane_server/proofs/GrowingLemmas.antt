-- How a pass grows by the turns of a session.
use Rattle.std.proofs.Common.{◌≡◌, ℕ, ◌<◌, List, [], ◌∷◌, ◌++◌, true, refl, sym, ap, ◌∙◌, subst, arith, append_assoc, append-nil, eq-eqb}
use Rattle.std.specs.List.{AllByRecursion}
use Rattle.history_lock.specs.declared.board.Entered.{Entered}
use Rattle.history_lock.specs.declared.board.Share.{Share}
use Rattle.history_lock.specs.declared.pass.Pass.{Pass}
use Rattle.history_lock.specs.declared.turned.Turned.{Ghosts}
use Rattle.history_lock.specs.History.{entered, entries_by, held, grown, number_of, share_of, FirstIs, HoldsOwn}
use Rattle.history_lock.specs.Laws.{NoneBetween}
use Rattle.history_lock.specs.Passes.{IsTurn, lock_of, seen, shares, number}
use Rattle.history_lock.proofs.Histories.{by-append, by_here}
use Rattle.history_lock.proofs.Lists.{same_here}
use Rattle.repo_step.specs.History.{Entry, is_of}
use Rattle.repo_step.specs.Laws.{IsAllOf}
use Rattle.lane_server.specs.Growing.{Grew, with_more}

all_and : {X : Type 0} (P : X → Type 0) (xs : List X) (x : X) → AllByRecursion P xs → P x → AllByRecursion P (xs ++ x ∷ [])
all_and P [] x all one = (one, tt)
all_and P (y ∷ xs) x all one = (all.0, all_and P xs x all.1 one)

own : (lane session : ℕ) (e : Entry) → e.lane ≡ lane → e.session ≡ session → is_of lane session e ≡ true
own lane session e l s = rw (eq-eqb e.lane lane l, eq-eqb e.session session s) refl

-- shares that have nothing more
more_none : (ss : List (Share Entry)) → ss ≡ with_more [] ss
more_none [] = refl
more_none (s ∷ ss) = λ i. share_of s.number (sym (append-nil s.own) i) ∷ ss

-- shares that have one entry more, and shares that had more before that
more_one : (e : Entry) (more : List Entry) (ss : List (Share Entry)) → grown e (with_more more ss) ≡ with_more (more ++ e ∷ []) ss
more_one e more [] = refl
more_one e more (s ∷ ss) = λ i. share_of s.number (append_assoc s.own more (e ∷ []) i) ∷ ss

more_number : (more : List Entry) (ss : List (Share Entry)) → number_of (with_more more ss) ≡ number_of ss
more_number more [] = refl
more_number more (s ∷ ss) = refl

pub grown_number : (e : Entry) (ss : List (Share Entry)) → number_of (grown e ss) ≡ number_of ss
grown_number e [] = refl
grown_number e (s ∷ ss) = refl

-- the first number is held
held_first : (k : ℕ) (ss : List (Share Entry)) → FirstIs k ss → 0 < held (number_of ss) ss
held_first k [] is = absurd (cc is)
held_first k (s ∷ ss) is = let one = same_here s.number s.number refl in omega arith

-- between what a pass had seen and its turn stand turns of others
pub none_mine : (before between : List (Entered Entry)) (k : ℕ) (ss now : List (Share Entry)) (e : Entry) (after : List (Entered Entry))
    → NoneBetween before between ss e → FirstIs k ss → HoldsOwn before ss → HoldsOwn after now
    → after ≡ (before ++ between) ++ entered (number_of ss) e ∷ [] → now ≡ grown e ss → entries_by (number_of ss) between ≡ []
none_mine before between k ss now e after law is holds held_now has_seen has_own =
    law holds (subst (λ (x : List (Entered Entry) × List (Share Entry)). HoldsOwn x.0 x.1) (λ i. (has_seen i, has_own i)) held_now)
    (number_of ss) (held_first k ss is)

module _ {T C R : Type 0} {g : Ghosts T C R Entry} (lane session : ℕ) where
  -- before the first turn
  pub grew_none : (p : Pass T C R Entry g) → Grew lane session p p
  grew_none p = record {
    lock = refl;
    more = [];
    has_seen = sym (append-nil (seen p));
    has_own = more_none (shares p);
    only = tt;
  }

  -- one turn more
  pub grew_more : (step : T → C → Entry → R → T → Type 0) (first : T) (begun before after : Pass T C R Entry g) (call : C) (reply : R)
      → Grew lane session begun before → (turn : IsTurn step first before after call reply) → lock_of after ≡ lock_of before
      → turn.entry.lane ≡ lane → turn.entry.session ≡ session
      → entries_by (number before) turn.between ≡ []
      → Grew lane session begun after
  grew_more step first begun before after call reply grew turn lock is_lane is_session none =
      let n : ℕ = number begun in
      let e : Entry = turn.entry in
      let same : number before ≡ n = ap number_of grew.has_own ∙ more_number (entries_by n grew.more) (shares begun) in
      let later : List (Entered Entry) = (grew.more ++ turn.between) ++ entered n e ∷ [] in
      let mine : entries_by n later ≡ entries_by n grew.more ++ e ∷ [] =
      by_here n (grew.more ++ turn.between) e
      ∙ ap (λ (w : List Entry). w ++ e ∷ [])
      (by-append n grew.more turn.between
      ∙ ((λ i. entries_by n grew.more ++ (ap (λ (k : ℕ). entries_by k turn.between) (sym same) ∙ none) i)
      ∙ append-nil (entries_by n grew.more))) in
      record {
        lock = lock ∙ grew.lock;
        more = later;
        has_seen = turn.has_seen
            ∙ ((λ i. (grew.has_seen i ++ turn.between) ++ entered (same i) e ∷ [])
            ∙ (ap (λ (w : List (Entered Entry)). w ++ entered n e ∷ []) (append_assoc (seen begun) grew.more turn.between)
            ∙ append_assoc (seen begun) (grew.more ++ turn.between) (entered n e ∷ [])));
        has_own = turn.has_own
            ∙ (ap (grown e) grew.has_own
            ∙ (more_one e (entries_by n grew.more) (shares begun) ∙ ap (λ (w : List Entry). with_more w (shares begun)) (sym mine)));
        only = subst (IsAllOf lane session) (sym mine)
            (all_and _ (entries_by n grew.more) e grew.only (own lane session e is_lane is_session));
      }

-- from an equal pass, in an equal session
pub grew_from : {T C R : Type 0} {g : Ghosts T C R Entry} (lane lane' session session' : ℕ) (begun begun' now : Pass T C R Entry g)
    → lane ≡ lane' → session ≡ session' → lock_of begun ≡ lock_of begun' → seen begun ≡ seen begun'
    → shares begun ≡ shares begun' → Grew lane session begun now → Grew lane' session' begun' now
grew_from lane lane' session session' begun begun' now in_lane in_session lock seen_is shares_are grew =
    let at : number begun ≡ number begun' = ap number_of shares_are in
    record {
      lock = grew.lock ∙ lock;
      more = grew.more;
      has_seen = grew.has_seen ∙ ap (λ (h : List (Entered Entry)). h ++ grew.more) seen_is;
      has_own = grew.has_own ∙ (λ i. with_more (entries_by (at i) grew.more) (shares_are i));
      only = subst (λ (n : ℕ). IsAllOf lane' session' (entries_by n grew.more)) at
          (subst (λ (s : ℕ × ℕ). IsAllOf s.0 s.1 (entries_by (number begun) grew.more))
          (λ i. (in_lane i, in_session i)) grew.only);
    }
