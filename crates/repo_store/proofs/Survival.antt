-- The law of runs, by induction over the history.
use Rattle.std.proofs.Common.{◌≡◌, ◌⊎◌, ◌↔◌, inl, inr, ⊎_elim, ℕ, ◌+◌, ◌-◌, ◌^◌, ◌<◌, ◌≤◌, min, leb, Bool, true, false, ◌&&◌, if◌then◌else◌, List, [], ◌∷◌, ◌++◌, length, take, map, Option, Some, None, IsSome, refl, sym, ap, ◌∙◌, subst, arith, append_assoc, length-append}
use Rattle.std.proofs.lemmas.Bool.{lt-leb}
use Rattle.std.proofs.lemmas.List.{append-nil, take_at}
use Rattle.std.specs.List.{AllByRecursion}
use mathlib.Core.Logic.{dite}
use native.Mathlib.Decide.{dec_le}
use Rattle.base_core.specs.Causes.{Rose}
use Rattle.disk_core.specs.declared.disk.Disk.{Ghosts}
use Rattle.history_lock.specs.History.{Runs}
use Rattle.journal_core.specs.declared.journal.Journal.{Journal}
use Rattle.journal_core.specs.declared.journal.Room.{Room}
use Rattle.record_core.specs.declared.change.Change.{Change}
use Rattle.repo_state.specs.Contents.{Contents, Stamped}
use Rattle.repo_step.specs.declared.brought.Brought.{Brought}
use Rattle.repo_step.specs.declared.outcome.Outcome.{Outcome}
use Rattle.repo_step.specs.declared.outcome.Outcome.TheVariants.{Done, NoMemory, DiskFault, Closed}
use Rattle.repo_step.specs.Setting.{Setting, State}
use Rattle.repo_step.specs.Step.{after_change}
use Rattle.repo_step.specs.History.{Entry, after, state_with, step_of, state_of, reply, MomentsFrom, GoesOn, AreClosed, OutcomesFrom, IsWhole}
use Rattle.repo_store.specs.Saved.{room_in, moment_in, left_in, faults_in, Reports, KeepsPast}
use Rattle.repo_store.specs.Stands.{Stands, LeftBy}
use Rattle.repo_store.specs.Store.{Seen, state_in, IsReady, Ends}
use Rattle.repo_store.specs.Survival.{is_done, is_fault, stamped, change_of, changes_where, changes, acknowledged, changed, StandsForPrefix, Survives}
use Rattle.repo_store.specs.Law.{IsTurn, HasFault, GivesTimes, Leaves, LeavesOpen, LawOfRuns}
use Rattle.repo_store.proofs.Keeping.{not_both, kept_stands}

-- ---- lists of changes

pub changed-append : (c : Contents) (xs ys : List Stamped) → changed c (xs ++ ys) ≡ changed (changed c xs) ys
changed-append c [] ys = refl
changed-append c (x ∷ xs) ys = changed-append (changed c (x ∷ [])) xs ys

-- the contents after a change are those with its list
change_made : (brought : Brought) (s : State) (change : Option Change) → (after_change brought change s).contents ≡ changed s.contents (stamped brought s change)
change_made brought s None = refl
change_made brought s (Some change) = refl

-- a turn whose change counts in its history
abbrev counts : Outcome → Bool
counts Done = true
counts NoMemory = false
counts DiskFault = true
counts Closed = false

abbrev IsOn : Outcome → Type 0
IsOn Done = Unit {0}
IsOn NoMemory = Unit {0}
IsOn DiskFault = ⊥
IsOn Closed = ⊥

-- the part of a list that a turn adds
abbrev part : Outcome → List Stamped → List Stamped
part o c = if counts o then c else []

part_first : (o : Outcome) (c l : List Stamped) → (if counts o then c ++ l else l) ≡ part o c ++ l
part_first Done c l = refl
part_first NoMemory c l = refl
part_first DiskFault c l = refl
part_first Closed c l = refl

joined : (o : Outcome) (change : Option Change) (c a d f : List Stamped) (Closing : Type 0) → GoesOn o change (a ≡ d ++ f) Closing → (Closing → (a ≡ []) × (d ≡ []) × (f ≡ []))
    → (if counts o then c ++ a else a) ≡ (if is_done o then c ++ d else d) ++ (if is_fault o then c ++ f else f)
joined Done change c a d f Closing on none = ap (λ (l : List Stamped). c ++ l) on ∙ sym (append_assoc c d f)
joined NoMemory change c a d f Closing on none = on
joined DiskFault change c a d f Closing on none =
    let nil = none on.1 in
    ap (λ (l : List Stamped). c ++ l) (nil.0 ∙ sym nil.2) ∙ ap (λ (l : List Stamped). l ++ (c ++ f)) (sym nil.1)
joined Closed change c a d f Closing on none = absurd on

went_with : (o : Outcome) (change : Option Change) (A B C E : Type 0) → (A → B) → (C → E) → GoesOn o change A C → GoesOn o change B E
went_with Done change A B C E f h on = f on
went_with NoMemory change A B C E f h on = f on
went_with DiskFault change A B C E f h on = (on.0, h on.1)
went_with Closed change A B C E f h on = on

went_on : (o : Outcome) (change : Option Change) → IsOn o → (A C : Type 0) → A → GoesOn o change A C
went_on Done change on A C a = a
went_on NoMemory change on A C a = a
went_on DiskFault change on A C a = absurd on
went_on Closed change on A C a = absurd on

state_on : (o : Outcome) (brought : Brought) (s : State) (setting : Setting) (e : Entry) → IsOn o
    → (state_with o e.brought (step_of setting s e) s).contents ≡ changed s.contents (part o (change_of setting s e))
state_on Done brought s setting e on = change_made e.brought s (step_of setting s e).change
state_on NoMemory brought s setting e on = refl
state_on DiskFault brought s setting e on = absurd on
state_on Closed brought s setting e on = absurd on

few : (o : Outcome) (b : Bool) (c l : List Stamped) → length (if is_done o && b then c ++ l else l) ≤ length (part o c) + length l
few Done true c l = omega (arith, length-append c l)
few Done false c l = omega arith
few NoMemory b c l = omega arith
few DiskFault b c l = omega arith
few Closed b c l = omega arith

early : (o : Outcome) (b : Bool) (c l : List Stamped) → b ≡ false → (if is_done o && b then c ++ l else l) ≡ l
early Done b c l is = ap (λ (x : Bool). if x then c ++ l else l) is
early NoMemory b c l is = refl
early DiskFault b c l is = refl
early Closed b c l is = refl

not_done : (o : Outcome) (b : Bool) (c l : List Stamped) → o ≡ DiskFault → (if is_done o && b then c ++ l else l) ≡ l
not_done Done b c l is = absurd (cc)
not_done NoMemory b c l is = refl
not_done DiskFault b c l is = refl
not_done Closed b c l is = refl

counts_fault : (o : Outcome) → o ≡ DiskFault → counts o ≡ true
counts_fault o is = ap counts is

module _ (setting : Setting) where
  -- the changes of a history as they come
  abbrev in_order : State → List Entry → List Stamped
  in_order = changes_where (λ e. counts e.outcome) setting

  -- closed turns change nothing, if the test lets none of them pass
  none_where : (passes : Entry → Bool) (s : State) (es : List Entry) → ((e : Entry) → e.outcome ≡ Closed → passes e ≡ false) → AreClosed (λ e. e) es → changes_where passes setting s es ≡ []
  none_where passes s [] fails closed = refl
  none_where passes s (e ∷ es) fails closed =
      ap (λ (b : Bool). if b then change_of setting s e ++ changes_where passes setting (after setting s e) es else changes_where passes setting (after setting s e) es) (fails e closed.0)
      ∙ none_where passes (after setting s e) es fails closed.1

  closed_nil : (s : State) (es : List Entry) → AreClosed (λ e. e) es → (in_order s es ≡ []) × (changes_where (λ e. is_done e.outcome) setting s es ≡ []) × (changes_where (λ e. is_fault e.outcome) setting s es ≡ [])
  closed_nil s es closed = (
    none_where (λ e. counts e.outcome) s es (λ e is. ap counts is) closed,
    none_where (λ e. is_done e.outcome) s es (λ e is. ap is_done is) closed,
    none_where (λ e. is_fault e.outcome) s es (λ e is. ap is_fault is) closed,
  )

  in_order_is : (s : State) (es : List Entry) → OutcomesFrom setting (λ e. e) s es → in_order s es ≡ changes setting s es
  in_order_is s [] legal = refl
  in_order_is s (e ∷ es) legal = joined e.outcome (step_of setting s e).change (change_of setting s e)
      (in_order (after setting s e) es) (changes_where (λ e. is_done e.outcome) setting (after setting s e) es) (changes_where (λ e. is_fault e.outcome) setting (after setting s e) es)
      (AreClosed (λ e. e) es)
      (went_with e.outcome (step_of setting s e).change _ _ _ _ (λ on. in_order_is (after setting s e) es on) (λ closed. closed) legal)
      (λ closed. closed_nil (after setting s e) es closed)

  -- nothing is acknowledged by closed turns
  closed_acknowledged : (s : State) (es : List Entry) (m : ℕ) → AreClosed (λ e. e) es → acknowledged setting s es m ≡ 0
  closed_acknowledged s es m closed = ap length (none_where (λ e. is_done e.outcome && leb e.moment m) s es (λ e is. ap (λ (o : Outcome). is_done o && leb e.moment m) is) closed)

  -- the image stands for a prefix of the changes as they come
  record Reopens (image : List ℕ) (s : State) (es : List Entry) (m : ℕ) : Type 0 where
    made : List Stamped
    rest : List Stamped
    is : in_order s es ≡ made ++ rest
    all : acknowledged setting s es m ≤ length made
    stands : Stands image (changed s.contents made)

  as_prefix : (image : List ℕ) (s : State) (es : List Entry) (m : ℕ) → OutcomesFrom setting (λ e. e) s es → Reopens image s es m → StandsForPrefix image setting s es m
  as_prefix image s es m legal r =
      let same : changes setting s es ≡ r.made ++ r.rest = sym (in_order_is s es legal) ∙ r.is in
      record {
        made = length r.made;
        all = r.all;
        within = omega (arith, ap length same, length-append r.made r.rest);
        stands = subst (λ (l : List Stamped). Stands image (changed s.contents l)) (sym (take_at r.made r.rest (length r.made) refl) ∙ ap (λ (l : List Stamped). take (length r.made) l) (sym same)) r.stands;
      }

  -- what is left inside a turn, if nothing of the history is acknowledged by then
  stays : (image : List ℕ) (s : State) (es : List Entry) (m : ℕ) → acknowledged setting s es m ≡ 0 → Stands image s.contents → Reopens image s es m
  stays image s es m none h = record { made = []; rest = _; is = refl; all = omega (arith, none); stands = h }

  moves : (image : List ℕ) (s : State) (e : Entry) (es : List Entry) (m : ℕ) → counts e.outcome ≡ true → acknowledged setting s (e ∷ es) m ≡ 0
      → Stands image (after_change e.brought (step_of setting s e).change s).contents → Reopens image s (e ∷ es) m
  moves image s e es m count none h = record {
    made = change_of setting s e;
    rest = in_order (after setting s e) es;
    is = ap (λ (b : Bool). if b then change_of setting s e ++ in_order (after setting s e) es else in_order (after setting s e) es) count;
    all = omega (arith, none);
    stands = subst (λ (c : Contents). Stands image c) (change_made e.brought s (step_of setting s e).change) h;
  }

  reopens_in : (o : Outcome) (image : List ℕ) (s : State) (e : Entry) (es : List Entry) (m : ℕ) → e.outcome ≡ o → acknowledged setting s (e ∷ es) m ≡ 0
      → LeftBy o s.contents (after_change e.brought (step_of setting s e).change s).contents image → Reopens image s (e ∷ es) m
  reopens_in Done image s e es m is none leaves = ⊎_elim (λ (h : Stands image s.contents). stays image s (e ∷ es) m none h)
      (λ (h : Stands image (after_change e.brought (step_of setting s e).change s).contents). moves image s e es m (ap counts is) none h) leaves
  reopens_in DiskFault image s e es m is none leaves = ⊎_elim (λ (h : Stands image s.contents). stays image s (e ∷ es) m none h)
      (λ (h : Stands image (after_change e.brought (step_of setting s e).change s).contents). moves image s e es m (ap counts is) none h) leaves
  reopens_in NoMemory image s e es m is none leaves = stays image s (e ∷ es) m none leaves
  reopens_in Closed image s e es m is none leaves = stays image s (e ∷ es) m none leaves

-- ---- a store without a disk

room_on : (brought : Brought) (change : Option Change) (s : State) → s.room ≡ None → (after_change brought change s).room ≡ None
room_on brought None s is = is
room_on brought (Some change) s is = ap (λ (r : Option Room). Rattle.repo_step.specs.Step.room_after change r) is

pub room_with : (o : Outcome) (setting : Setting) (s : State) (e : Entry) → s.room ≡ None → (state_with o e.brought (step_of setting s e) s).room ≡ None
room_with Done setting s e is = room_on e.brought (step_of setting s e).change s is
room_with NoMemory setting s e is = is
room_with DiskFault setting s e is = is
room_with Closed setting s e is = is

module _ {D : Type 0} (g : Ghosts D) (setting : Setting) where
  reported_runs : (first last : Seen D g) (es : List Entry) → Runs (IsTurn setting) first es last → Reports last.journal → Reports first.journal
  reported_runs first last [] r reports = subst (λ (s : Seen D g). Reports s.journal) (sym r) reports
  reported_runs first last (e ∷ es) r reports = r.1.1.reported (reported_runs r.0 last es r.2 reports)

  later_runs : (first last : Seen D g) (es : List Entry) → Runs (IsTurn setting) first es last → moment_in first.journal ≤ moment_in last.journal
  later_runs first last [] r = omega (arith, ap (λ (s : Seen D g). moment_in s.journal) r)
  later_runs first last (e ∷ es) r = omega (arith, r.1.1.clock, later_runs r.0 last es r.2)

  count_runs : (first last : Seen D g) (es : List Entry) → Runs (IsTurn setting) first es last → faults_in first.journal ≤ faults_in last.journal
  count_runs first last [] r = omega (arith, ap (λ (s : Seen D g). faults_in s.journal) r)
  count_runs first last (e ∷ es) r = omega (arith, r.1.1.count, count_runs r.0 last es r.2)

  ready_runs : (first last : Seen D g) (es : List Entry) → Runs (IsTurn setting) first es last → IsReady first → IsReady last
  ready_runs first last [] r ready = subst (λ (s : Seen D g). IsReady s) r ready
  ready_runs first last (e ∷ es) r ready = ready_runs r.0 last es r.2 (r.1.1.ready ready)

  pub state_runs : (first last : Seen D g) (es : List Entry) → Runs (IsTurn setting) first es last → state_in last ≡ state_of setting (state_in first) es
  state_runs first last [] r = ap (λ (s : Seen D g). state_in s) (sym r)
  state_runs first last (e ∷ es) r = state_runs r.0 last es r.2 ∙ ap (λ (s : State). state_of setting s es) r.1.1.state_is

  times_runs : (first last : Seen D g) (es : List Entry) → Runs (IsTurn setting) first es last → GivesTimes first.given last.given (map (λ e. e.brought.time) es)
  times_runs first last [] r = λ given is. (given, ap (λ (s : Seen D g). s.given) r ∙ is, sym (append-nil given))
  times_runs first last (e ∷ es) r = λ given is.
      let on = times_runs r.0 last es r.2 given is in
      let one = r.1.1.time on.0 on.1 in
      (one.0, one.1, on.2 ∙ ap (λ (l : List ℕ). l ++ map (λ e. e.brought.time) es) one.2 ∙ append_assoc one.0 (e.brought.time ∷ []) (map (λ e. e.brought.time) es))

  moments_runs : (first last : Seen D g) (es : List Entry) → Runs (IsTurn setting) first es last → MomentsFrom (λ e. e) (moment_in first.journal) es
  moments_runs first last [] r = tt
  moments_runs first last (e ∷ es) r =
      let step = r.1.1 in
      (omega (arith, step.clock, step.moment), subst (λ (m : ℕ). MomentsFrom (λ e. e) m es) (sym step.moment) (moments_runs r.0 last es r.2))

  from_zero : (m : ℕ) (es : List Entry) → MomentsFrom (λ e. e) m es → MomentsFrom (λ e. e) 0 es
  from_zero m [] moments = tt
  from_zero m (e ∷ es) moments = (omega arith, moments.1)

  -- an entry that comes later isn't acknowledged yet
  pub early_acknowledged : (first last : Seen D g) (es : List Entry) → Runs (IsTurn setting) first es last → (s : State) (m : ℕ) → m < moment_in first.journal → acknowledged setting s es m ≡ 0
  early_acknowledged first last [] r s m low = refl
  early_acknowledged first last (e ∷ es) r s m low =
      let next : m < moment_in r.0.journal = omega (arith, low, r.1.1.clock) in
      ap length (early e.outcome (leb e.moment m) (change_of setting s e) (changes_where (λ e. is_done e.outcome && leb e.moment m) setting (after setting s e) es) (lt-leb e.moment m (omega (arith, next, r.1.1.moment))))
      ∙ early_acknowledged r.0 last es r.2 (after setting s e) m next

  -- a closed store stays as it is
  closed_step : (o : Outcome) (old new : Seen D g) (e : Entry) → IsSome old.closed → Ends o setting old e new → (o ≡ Closed) × (new.closed ≡ old.closed) × (new.journal ≡ old.journal)
  closed_step Done old new e closed ends = absurd (not_both old.closed ends.0 closed)
  closed_step NoMemory old new e closed ends = absurd (not_both old.closed ends.0 closed)
  closed_step DiskFault old new e closed ends = absurd (not_both old.closed ends.0 closed)
  closed_step Closed old new e closed ends = (refl, ends.1, ends.2)

  closed_runs : (first last : Seen D g) (es : List Entry) → IsSome first.closed → Runs (IsTurn setting) first es last → (last.closed ≡ first.closed) × (last.journal ≡ first.journal) × AreClosed (λ e. e) es
  closed_runs first last [] closed r = (ap (λ (s : Seen D g). s.closed) (sym r), ap (λ (s : Seen D g). s.journal) (sym r), tt)
  closed_runs first last (e ∷ es) closed r =
      let one = closed_step e.outcome first r.0 e closed r.1.1.ends in
      let rest = closed_runs r.0 last es (subst (λ (c : Option ℕ). IsSome c) (sym one.1) closed) r.2 in
      (rest.0 ∙ one.1, rest.1 ∙ one.2, (one.0, rest.2))

  -- a turn that leaves the store open
  record Went (o : Outcome) (new : Seen D g) : Type 0 where
    open_is : new.closed ≡ None
    on : IsOn o
    whole : o ≡ DiskFault → ⊥

  -- a turn that met a disk fault
  record Fell (o : Outcome) (old : Seen D g) (e : Entry) (new : Seen D g) : Type 0 where
    is : o ≡ DiskFault
    count : new.closed ≡ Some (min (faults_in new.journal) (2 ^ 64 - 1))
    rose : Rose (faults_in old.journal) (faults_in new.journal)
    one : IsSome (step_of setting (state_in old) e).change
    disk : IsSome old.journal

  open_step : (o : Outcome) (old new : Seen D g) (e : Entry) → old.closed ≡ None → Ends o setting old e new → Went o new ⊎ Fell o old e new
  open_step Done old new e is ends = inl (record { open_is = ends.1; on = tt; whole = λ same. cc })
  open_step NoMemory old new e is ends = inl (record { open_is = ends.1; on = tt; whole = λ same. cc })
  open_step DiskFault old new e is ends = inr (record { is = refl; count = ends.1; rose = ends.2; one = ends.3; disk = ends.4 })
  open_step Closed old new e is ends = absurd (not_both old.closed is ends.0)

  fell_closed : (o : Outcome) (old new : Seen D g) (e : Entry) → Fell o old e new → IsSome new.closed
  fell_closed o old new e fell = subst (λ (c : Option ℕ). IsSome c) (sym fell.count) refl

  outcomes_runs : (first last : Seen D g) (es : List Entry) → first.closed ≡ None → Runs (IsTurn setting) first es last → OutcomesFrom setting (λ e. e) (state_in first) es
  outcomes_runs first last [] open_is r = tt
  outcomes_runs first last (e ∷ es) open_is r =
      let next : Seen D g = r.0 in
      let step = r.1.1 in
      let change : Option Change = (step_of setting (state_in first) e).change in
      elim (open_step e.outcome first next e open_is step.ends) [
        | inl went ↦ went_on e.outcome change went.on _ _ (subst (λ (s : State). OutcomesFrom setting (λ e. e) s es) step.state_is (outcomes_runs next last es went.open_is r.2))
        | inr fell ↦
            let closed : AreClosed (λ e. e) es = (closed_runs next last es (fell_closed e.outcome first next e fell) r.2).2 in
            subst (λ (o : Outcome). GoesOn o change (OutcomesFrom setting (λ e. e) (after setting (state_in first) e) es) (AreClosed (λ e. e) es)) (sym fell.is) (fell.one, closed)
      ]

  no_faults : (es : List Entry) → AreClosed (λ e. e) es → HasFault es → ⊥
  no_faults [] closed fault = fault
  no_faults (e ∷ es) closed fault = ⊎_elim (λ (h : e.outcome ≡ DiskFault). cc (closed.0, h)) (λ (h : HasFault es). no_faults es closed.1 h) fault

  cause_runs : (first last : Seen D g) (es : List Entry) → first.closed ≡ None → Runs (IsTurn setting) first es last → HasFault es
      → Rose (faults_in first.journal) (faults_in last.journal) × (last.closed ≡ Some (min (faults_in last.journal) (2 ^ 64 - 1)))
  cause_runs first last [] open_is r fault = absurd fault
  cause_runs first last (e ∷ es) open_is r fault =
      let next : Seen D g = r.0 in
      let step = r.1.1 in
      elim (open_step e.outcome first next e open_is step.ends) [
        | inl went ↦
            let rest = cause_runs next last es went.open_is r.2 (⊎_elim (λ (h : e.outcome ≡ DiskFault). absurd (went.whole h)) (λ (h : HasFault es). h) fault) in
            (omega (arith, rest.0, step.count), rest.1)
        | inr fell ↦
            let same = closed_runs next last es (fell_closed e.outcome first next e fell) r.2 in
            let count : faults_in last.journal ≡ faults_in next.journal = ap (λ (j : Option (Journal D g)). faults_in j) same.1 in
            (subst (λ (n : ℕ). Rose (faults_in first.journal) n) (sym count) fell.rose, same.0 ∙ fell.count ∙ ap (λ (n : ℕ). Some (min n (2 ^ 64 - 1))) (sym count))
      ]

  pub bare : (j : Option (Journal D g)) → room_in j ≡ None → j ≡ None
  bare None is = refl
  bare (Some j) is = absurd (cc)

  none_some : (j : Option (Journal D g)) → j ≡ None → IsSome j → ⊥
  none_some None none some = cc
  none_some (Some j) none some = cc

  whole_step : (o : Outcome) (old new : Seen D g) (e : Entry) → old.closed ≡ None → old.journal ≡ None → Ends o setting old e new → IsWhole o × (new.closed ≡ None)
  whole_step Done old new e open_is none ends = (tt, ends.1)
  whole_step NoMemory old new e open_is none ends = (tt, ends.1)
  whole_step DiskFault old new e open_is none ends = absurd (none_some old.journal none ends.4)
  whole_step Closed old new e open_is none ends = absurd (not_both old.closed open_is ends.0)

  whole_runs : (first last : Seen D g) (es : List Entry) → first.closed ≡ None → Runs (IsTurn setting) first es last → first.journal ≡ None → AllByRecursion (λ e. IsWhole e.outcome) es
  whole_runs first last [] open_is r none = tt
  whole_runs first last (e ∷ es) open_is r none =
      let next : Seen D g = r.0 in
      let step = r.1.1 in
      let one = whole_step e.outcome first next e open_is none step.ends in
      let room : room_in first.journal ≡ None = ap (λ (j : Option (Journal D g)). room_in j) none in
      (one.0, whole_runs next last es one.1 r.2 (bare next.journal (ap (λ (s : State). s.room) step.state_is ∙ room_with e.outcome setting (state_in first) e room)))

  pub past_runs : (first last : Seen D g) (es : List Entry) → first.closed ≡ None → IsReady first → Runs (IsTurn setting) first es last → Reports last.journal → KeepsPast first.journal last.journal
  past_runs first last [] open_is ready r reports = λ m image low. subst (λ (s : Seen D g). left_in first.journal m image ↔ left_in s.journal m image) r ((λ left. left), (λ left. left))
  past_runs first last (e ∷ es) open_is ready r reports = λ m image low.
      let next : Seen D g = r.0 in
      let step = r.1.1 in
      let here = (step.crash ready open_is (reported_runs next last es r.2 reports)).same m image low in
      elim (open_step e.outcome first next e open_is step.ends) [
        | inl went ↦
            let on = past_runs next last es went.open_is (step.ready ready) r.2 reports m image (omega (arith, low, step.clock)) in
            ((λ left. on.0 (here.0 left)), (λ left. here.1 (on.1 left)))
        | inr fell ↦
            let same = (closed_runs next last es (fell_closed e.outcome first next e fell) r.2).1 in
            subst (λ (j : Option (Journal D g)). left_in first.journal m image ↔ left_in j m image) (sym same) here
      ]

  reopens_runs : (first last : Seen D g) (es : List Entry) → first.closed ≡ None → IsReady first → Runs (IsTurn setting) first es last → Reports last.journal
      → (m : ℕ) (image : List ℕ) → moment_in first.journal ≤ m → m ≤ moment_in last.journal → left_in last.journal m image → Reopens setting image (state_in first) es m
  reopens_runs first last [] open_is ready r reports m image low high left =
      let kept = ready open_is in
      let now : m ≡ moment_in first.journal = omega (arith, low, high, ap (λ (s : Seen D g). moment_in s.journal) r) in
      stays setting image (state_in first) [] m refl
      (kept_stands g first.journal kept.0 first.contents kept.1 kept.2 (subst (λ (s : Seen D g). Reports s.journal) (sym r) reports) image
      (subst (λ (k : ℕ). left_in first.journal k image) now (subst (λ (s : Seen D g). left_in s.journal m image) (sym r) left)))
  reopens_runs first last (e ∷ es) open_is ready r reports m image low high left =
      let next : Seen D g = r.0 in
      let step = r.1.1 in
      let s : State = state_in first in
      let crash = step.crash ready open_is (reported_runs next last es r.2 reports) in
      elim (open_step e.outcome first next e open_is step.ends) [
        | inl went ↦
            dite (dec_le (moment_in next.journal) m)
            (λ late. later_turn first next e es m image step.state_is went.on (reopens_runs next last es went.open_is (step.ready ready) r.2 reports m image late high left))
            (λ not_late.
            let before : m < moment_in next.journal = omega (arith, not_late) in
            reopens_in setting e.outcome image s e es m refl
            (ap length (early e.outcome (leb e.moment m) (change_of setting s e) (changes_where (λ e. is_done e.outcome && leb e.moment m) setting (after setting s e) es) (lt-leb e.moment m (omega (arith, before, step.moment))))
            ∙ early_acknowledged next last es r.2 (after setting s e) m before)
            (crash.each m image low (omega (arith, before)) ((past_runs next last es went.open_is (step.ready ready) r.2 reports m image (omega (arith, before))).1 left)))
        | inr fell ↦
            let closed = closed_runs next last es (fell_closed e.outcome first next e fell) r.2 in
            let till : m ≤ moment_in next.journal = omega (arith, high, ap (λ (j : Option (Journal D g)). moment_in j) closed.1) in
            reopens_in setting e.outcome image s e es m refl
            (ap length (not_done e.outcome (leb e.moment m) (change_of setting s e) (changes_where (λ e. is_done e.outcome && leb e.moment m) setting (after setting s e) es) fell.is)
            ∙ closed_acknowledged setting (after setting s e) es m closed.2)
            (crash.each m image low till (subst (λ (j : Option (Journal D g)). left_in j m image) closed.1 left))
      ]
    where
      -- what a later turn leaves stands for a prefix of this one's history
      later_turn : (first next : Seen D g) (e : Entry) (es : List Entry) (m : ℕ) (image : List ℕ) → state_in next ≡ after setting (state_in first) e → IsOn e.outcome
          → Reopens setting image (state_in next) es m → Reopens setting image (state_in first) (e ∷ es) m
      later_turn first next e es m image state_is on_is on =
          let s : State = state_in first in
          let mine : List Stamped = part e.outcome (change_of setting s e) in
          let there : (state_in next).contents ≡ changed s.contents mine = ap (λ (t : State). t.contents) state_is ∙ state_on e.outcome e.brought s setting e on_is in
          let also : in_order setting (after setting s e) es ≡ on.made ++ on.rest = ap (λ (t : State). in_order setting t es) (sym state_is) ∙ on.is in
          let count : acknowledged setting (after setting s e) es m ≡ acknowledged setting (state_in next) es m = ap (λ (t : State). acknowledged setting t es m) (sym state_is) in
          record {
            made = mine ++ on.made;
            rest = on.rest;
            is = part_first e.outcome (change_of setting s e) (in_order setting (after setting s e) es) ∙ ap (λ (l : List Stamped). mine ++ l) also ∙ sym (append_assoc mine on.made on.rest);
            all = omega (arith, few e.outcome (leb e.moment m) (change_of setting s e) (changes_where (λ e. is_done e.outcome && leb e.moment m) setting (after setting s e) es), on.all, count, length-append mine on.made);
            stands = subst (λ (c : Contents). Stands image c) (ap (λ (c : Contents). changed c on.made) there ∙ sym (changed-append s.contents mine on.made)) on.stands;
          }

  pub survives_runs : (first last : Seen D g) (es : List Entry) → first.closed ≡ None → IsReady first → Runs (IsTurn setting) first es last → Reports last.journal
      → Survives last.journal (moment_in first.journal) setting (state_in first) es
  survives_runs first last es open_is ready r reports = λ m image low high left.
      as_prefix setting image (state_in first) es m (outcomes_runs first last es open_is r) (reopens_runs first last es open_is ready r reports m image low high left)

  -- nothing of a history is acknowledged before it begins
  pub begins : (first last : Seen D g) (es : List Entry) → first.closed ≡ None → Runs (IsTurn setting) first es last → (m : ℕ) (image : List ℕ) → m < moment_in first.journal
      → Stands image first.contents → StandsForPrefix image setting (state_in first) es m
  begins first last es open_is r m image low stands =
      as_prefix setting image (state_in first) es m (outcomes_runs first last es open_is r) (stays setting image (state_in first) es m (early_acknowledged first last es r (state_in first) m low) stands)

  -- no entry is later than the end
  within_runs : (first last : Seen D g) (es : List Entry) → Runs (IsTurn setting) first es last → AllByRecursion (λ e. e.moment ≤ moment_in last.journal) es
  within_runs first last [] r = tt
  within_runs first last (e ∷ es) r = (omega (arith, r.1.1.moment, later_runs r.0 last es r.2), within_runs r.0 last es r.2)

  -- a store that is closed at the end met a disk fault
  closed_cause : (first last : Seen D g) (es : List Entry) → first.closed ≡ None → Runs (IsTurn setting) first es last → IsSome last.closed → HasFault es
  closed_cause first last [] open_is r closed = not_both last.closed (ap (λ (s : Seen D g). s.closed) (sym r) ∙ open_is) closed
  closed_cause first last (e ∷ es) open_is r closed =
      elim (open_step e.outcome first r.0 e open_is r.1.1.ends) [
        | inl went ↦ inr (closed_cause r.0 last es went.open_is r.2 closed)
        | inr fell ↦ inl fell.is
      ]

  pub leaves_runs : (first last : Seen D g) (es : List Entry) → Runs (IsTurn setting) first es last → Leaves setting first es last
  leaves_runs first last es r = record {
    state = state_runs first last es r;
    times = times_runs first last es r;
    moments = moments_runs first last es r;
    within = within_runs first last es r;
    clock = later_runs first last es r;
    count = count_runs first last es r;
    reported = reported_runs first last es r;
    ready = ready_runs first last es r;
  }

  pub open_runs : (first last : Seen D g) (es : List Entry) → first.closed ≡ None → Runs (IsTurn setting) first es last → LeavesOpen setting first es last
  open_runs first last es open_is r = record {
    legal = record { moments = from_zero (moment_in first.journal) es (moments_runs first last es r); outcomes = outcomes_runs first last es open_is r };
    cause = cause_runs first last es open_is r;
    closed = closed_cause first last es open_is r;
    whole = whole_runs first last es open_is r;
    past = λ ready reports. past_runs first last es open_is ready r reports;
    survives = λ ready reports. survives_runs first last es open_is ready r reports;
  }

module _ {D : Type 0} (g : Ghosts D) where
  pub law : LawOfRuns g
  law = record {
    leaves = λ setting first last es r. leaves_runs g setting first last es r;
    from_open = λ setting first last es open_is r. open_runs g setting first last es open_is r;
    reply = λ setting first old new es e text r step. step.text_is ∙ ap (λ (s : State). Rattle.doip_message.specs.Reply.reply_text (reply setting s e)) (state_runs g setting first old es r);
  }
