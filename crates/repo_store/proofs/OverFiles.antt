-- What turns leave of the file that a store was opened over.
use Rattle.std.proofs.Common.{◌≡◌, ⊎_elim, ℕ, ◌≤◌, ◌-◌, ◌^◌, min, List, [], ◌∷◌, Option, Some, None, IsSome, is_some, refl, sym, ap, ◌∙◌, subst, arith}
use Rattle.std.specs.List.{AllByRecursion}
use Rattle.disk_core.specs.declared.disk.Disk.{Ghosts}
use Rattle.history_lock.specs.History.{Runs}
use Rattle.journal_core.specs.Journal.{disk_of, state_of, area_of, side_of}
use Rattle.journal_core.specs.declared.journal.Journal.{Journal}
use Rattle.journal_core.specs.declared.journal.Room.{Room}
use Rattle.record_core.specs.declared.change.Change.{Change}
use Rattle.repo_state.specs.Contents.{Contents}
use Rattle.repo_step.specs.declared.brought.Brought.{Brought}
use Rattle.repo_step.specs.declared.outcome.Outcome.{Outcome}
use Rattle.repo_step.specs.declared.outcome.Outcome.TheVariants.{Done, NoMemory, DiskFault, Closed}
use Rattle.repo_step.specs.Setting.{Setting, State, state}
use Rattle.repo_step.specs.Step.{after_change, room_after}
use Rattle.repo_step.specs.History.{Entry, IsWhole, MomentsFrom, after, state_of as state_after_all, state_with, step_of}
use Rattle.repo_store.specs.Saved.{disk_in, room_in, left_in, faults_in, moment_in, Reports}
use Rattle.repo_store.specs.Store.{Seen, seen, state_in}
use Rattle.repo_store.specs.Survival.{Survives}
use Rattle.repo_store.specs.Opening.{OpensFile}
use Rattle.repo_store.specs.Law.{HasFault, IsTurn}
use Rattle.repo_store.specs.Files.{RanOver, IsDiskless, LawOfFiles, turns_taken}
use Rattle.repo_store.proofs.Survival.{bare, room_with, leaves_runs, open_runs}
use Rattle.repo_store.proofs.Since.{law as since}

some_after : (change : Change) (r : Option Room) → IsSome r → IsSome (room_after change r)
some_after change None is = is
some_after change (Some room) is = refl

some_on : (brought : Brought) (change : Option Change) (s : State) → IsSome s.room → IsSome (after_change brought change s).room
some_on brought None s is = is
some_on brought (Some change) s is = some_after change s.room is

module _ (setting : Setting) where
  some_with : (o : Outcome) (s : State) (e : Entry) → IsSome s.room → IsSome (state_with o e.brought (step_of setting s e) s).room
  some_with Done s e is = some_on e.brought (step_of setting s e).change s is
  some_with NoMemory s e is = is
  some_with DiskFault s e is = is
  some_with Closed s e is = is

  -- a state keeps that it has an area, or that it has none
  pub some_all : (s : State) (es : List Entry) → IsSome s.room → IsSome (state_after_all setting s es).room
  some_all s [] is = is
  some_all s (e ∷ es) is = some_all (after setting s e) es (some_with e.outcome s e is)

  none_all : (s : State) (es : List Entry) → s.room ≡ None → (state_after_all setting s es).room ≡ None
  none_all s [] is = is
  none_all s (e ∷ es) is = none_all (after setting s e) es (room_with e.outcome setting s e is)

no_moments : (n : ℕ) (es : List Entry) → n ≡ 0 → AllByRecursion (λ e. e.moment ≤ n) es → AllByRecursion (λ e. e.moment ≡ 0) es
no_moments n [] zero within = tt
no_moments n (e ∷ es) zero within = (omega (arith, within.0, zero), no_moments n es zero within.1)

-- what holds from a moment on holds from an earlier one
pub sooner : (early late : ℕ) (es : List Entry) → early ≤ late → MomentsFrom (λ e. e) late es → MomentsFrom (λ e. e) early es
sooner early late [] low from = tt
sooner early late (e ∷ es) low from = (omega (arith, low, from.0), from.1)

-- turns without a disk meet no disk fault
whole_outcome : (o : Outcome) → IsWhole o → o ≡ DiskFault → ⊥
whole_outcome Done whole is = cc
whole_outcome NoMemory whole is = cc
whole_outcome DiskFault whole is = whole
whole_outcome Closed whole is = whole

pub whole_fault : (es : List Entry) → AllByRecursion (λ e. IsWhole e.outcome) es → HasFault es → ⊥
whole_fault [] whole fault = fault
whole_fault (e ∷ es) whole fault = ⊎_elim (λ (h : e.outcome ≡ DiskFault). whole_outcome e.outcome whole.0 h) (λ (h : HasFault es). whole_fault es whole.1 h) fault

none_by : (o : Option ℕ) → (IsSome o → ⊥) → o ≡ None
none_by None not = refl
none_by (Some x) not = absurd (not refl)

module _ {D : Type 0} (g : Ghosts D) where
  pub journal_there : (j : Option (Journal D g)) → IsSome (room_in j) → (k : Journal D g) × (j ≡ Some k)
  journal_there None is = absurd (cc)
  journal_there (Some k) is = (k, refl)

  module _ (start : D) (j : Journal D g) (c : Contents) (given : Option (List ℕ)) (setting : Setting) (last : Seen D g) (es : List Entry)
      (opened : OpensFile (g.state start) j c) (r : Runs (IsTurn setting) (seen (Some j) c None given) es last) (k : Journal D g) (is : last.journal ≡ Some k) where
    first : Seen D g
    first = seen (Some j) c None given

    reports_last : IsSome (state_of k).content → Reports last.journal
    reports_last there = subst (λ (o : Option (Journal D g)). Reports o) (sym is) there

    ran_over : RanOver (g.state start) (state_of k) (turns_taken setting (state c (room_in (Some j))) es last.closed)
    unfolding first
    ran_over =
        let leaves = leaves_runs g setting first last es r in
        let faults : faults_in last.journal ≡ (state_of k).faults = ap (λ (o : Option (Journal D g)). faults_in o) is in
        let moments : moment_in last.journal ≡ (state_of k).moment = ap (λ (o : Option (Journal D g)). moment_in o) is in
        record {
          stands = λ file at.
              let s = opened.stands file at in
              record {
                records = s.0;
                area = area_of j;
                side = side_of j;
                holds = s.2;
                give = s.1;
                room = ap (λ (n : ℕ). Some (record { used = n; area = area_of j })) s.3;
              };
          survives = λ settled file at.
              let reports : Reports last.journal = reports_last (ap is_some at) in
              subst (λ (o : Option (Journal D g)). Survives o (g.state start).moment setting (state_in first) es) is
              ((since g).survives start setting first last es refl (λ _. opened.keeps settled)
              ((since g).opens start j c opened settled (leaves.reported reports)) r reports);
          same = λ settled file at. λ m image low.
              let reports : Reports last.journal = reports_last (ap is_some at) in
              let past = (since g).past start setting first last es refl (λ _. opened.keeps settled)
              ((since g).opens start j c opened settled (leaves.reported reports)) r reports m image low in (
                (λ left. subst (λ (o : Option (Journal D g)). left_in o m image) is (past.0 left)),
                (λ left. past.1 (subst (λ (o : Option (Journal D g)). left_in o m image) (sym is) left)),
              );
          moments = sooner (g.state start).moment (moment_in first.journal) es opened.alone.clock leaves.moments;
          within = subst (λ (n : ℕ). AllByRecursion (λ (e : Entry). e.moment ≤ n) es) moments leaves.within;
          fault = λ fault.
              let cause = (open_runs g setting first last es refl r).cause fault in
              (omega (arith, cause.0, opened.alone.count, faults), cause.1 ∙ ap (λ (n : ℕ). Some (min n (2 ^ 64 - 1))) faults);
          closed = (open_runs g setting first last es refl r).closed;
          count = omega (arith, opened.alone.count, leaves.count, faults);
          clock = omega (arith, opened.alone.clock, leaves.clock, moments);
        }

  over : (start : D) (j : Journal D g) (c : Contents) (given : Option (List ℕ)) (setting : Setting) (last : Seen D g) (es : List Entry) → OpensFile (g.state start) j c
      → Runs (IsTurn setting) (seen (Some j) c None given) es last
      → (disk : D) × (disk_in last.journal ≡ Some disk) × RanOver (g.state start) (g.state disk) (turns_taken setting (state c (room_in (Some j))) es last.closed)
  over start j c given setting last es opened r =
      let first : Seen D g = seen (Some j) c None given in
      let room : IsSome (room_in last.journal) = subst (λ (s : State). IsSome s.room) (sym (leaves_runs g setting first last es r).state) (some_all setting (state_in first) es refl) in
      let there = journal_there last.journal room in
      (disk_of there.0, ap (λ (o : Option (Journal D g)). disk_in o) there.1, ran_over start j c given setting last es opened r there.0 there.1)

  without : (c : Contents) (given : Option (List ℕ)) (setting : Setting) (last : Seen D g) (es : List Entry) → Runs (IsTurn setting) (seen None c None given) es last
      → (disk_in last.journal ≡ None) × IsDiskless (turns_taken setting (state c None) es last.closed)
  without c given setting last es r =
      let first : Seen D g = seen None c None given in
      let leaves = leaves_runs g setting first last es r in
      let whole : AllByRecursion (λ e. IsWhole e.outcome) es = (open_runs g setting first last es refl r).whole refl in
      let none : last.journal ≡ None = bare g setting last.journal (ap (λ (s : State). s.room) leaves.state ∙ none_all setting (state_in first) es refl) in (
        ap (λ (o : Option (Journal D g)). disk_in o) none,
        record {
          moments = no_moments (moment_in last.journal) es (ap (λ (o : Option (Journal D g)). moment_in o) none) leaves.within;
          whole = whole;
          not_closed = none_by last.closed (λ some. whole_fault es whole ((open_runs g setting first last es refl r).closed some));
        },
      )

  pub law : LawOfFiles g
  law = record { over = over; without = without }
