-- What turns leave of the file of a store that was opened and then shrunk.
use Rattle.std.proofs.Common.{◌≡◌, inl, inr, ⊎_elim, ℕ, ◌≤◌, ◌-◌, ◌^◌, min, List, length, Option, Some, None, IsSome, is_some, refl, sym, ap, ◌∙◌, subst, arith}
use Rattle.std.specs.List.{AllByRecursion}
use Rattle.disk_core.specs.Disk.{IsSettled}
use Rattle.disk_core.specs.declared.disk.Disk.{Ghosts}
use Rattle.history_lock.specs.History.{Runs}
use Rattle.journal_core.specs.File.{listed}
use Rattle.journal_core.specs.Journal.{disk_of, state_of, area_of, side_of, used_of}
use Rattle.journal_core.specs.declared.journal.Journal.{Journal}
use Rattle.journal_core.specs.declared.journal.Room.{Room}
use Rattle.journal_core.specs.declared.layout.Format.TheVariants.{Second}
use Rattle.repo_state.specs.Contents.{Contents}
use Rattle.repo_step.specs.Setting.{Setting, State}
use Rattle.repo_step.specs.History.{Entry}
use Rattle.repo_store.specs.Compaction.{Compacts, Shrinks, WantsCompaction}
use Rattle.repo_store.specs.Files.{turns_taken}
use Rattle.repo_store.specs.Law.{IsTurn, Rewrites, Since}
use Rattle.repo_store.specs.Opening.{OpensFile}
use Rattle.repo_store.specs.Saved.{disk_in, room_in, left_in, faults_in, moment_in, Reports}
use Rattle.repo_store.specs.Shrunk.{IsRoomLeft, RanShrunk, LawOfShrunkFiles}
use Rattle.repo_store.specs.Stands.{GiveContents}
use Rattle.repo_store.specs.Store.{Seen, seen, state_in, IsReady}
use Rattle.repo_store.specs.Survival.{Survives}
use Rattle.repo_store.proofs.Survival.{leaves_runs, open_runs}
use Rattle.repo_store.proofs.Since.{law as since}
use Rattle.repo_store.proofs.OverFiles.{some_all, sooner, journal_there}

module _ {D : Type 0} (g : Ghosts D) (start : D) (j : Journal D g) (c : Contents) (given : Option (List ℕ)) (setting : Setting) (first last : Seen D g) (left : Room) (es : List Entry)
    (opened : OpensFile (g.state start) j c) (step : Rewrites (seen (Some j) c None given) first) (shrinks : Shrinks (seen (Some j) c None given) first left) (r : Runs (IsTurn setting) first es last) where
  abbrev Done : Type 0
  Done = WantsCompaction (room_in (Some j)) c × Compacts (seen (Some j) c None given) first left

  abbrev NotDone : Type 0
  NotDone = (WantsCompaction (room_in (Some j)) c → ⊥) × (room_in (Some j) ≡ Some left) × (first ≡ seen (Some j) c None given)

  not_closed : first.closed ≡ None
  not_closed = ⊎_elim (λ (h : Done). h.1.not_closed) (λ (h : NotDone). ap (λ (s : Seen D g). s.closed) h.2) shrinks

  room_first : room_in first.journal ≡ Some left
  room_first = ⊎_elim (λ (h : Done). h.1.room) (λ (h : NotDone). ap (λ (s : Seen D g). room_in s.journal) h.2 ∙ h.1) shrinks

  room_left : IsRoomLeft (record { used = used_of j; area = area_of j }) c (room_in first.journal)
  room_left = ⊎_elim
      (λ (h : Done). let l : IsRoomLeft (record { used = used_of j; area = area_of j }) c (room_in first.journal) = inl (h.0, room_first ∙ ap Some h.1.left_is) in l)
      (λ (h : NotDone). let l : IsRoomLeft (record { used = used_of j; area = area_of j }) c (room_in first.journal) = inr (h.0, room_first ∙ sym h.1) in l) shrinks

  ready_first : IsSettled (g.state start) → IsReady first
  ready_first settled = step.ready (λ _. opened.keeps settled)

  since_first : IsSettled (g.state start) → Reports first.journal → Since (g.state start) first.journal first.contents
  since_first settled reports = (since g).rewrites start (seen (Some j) c None given) first (λ _. opened.keeps settled) refl reports
      ((since g).opens start j c opened settled (step.reported reports)) step

  module _ (k : Journal D g) (is : last.journal ≡ Some k) where
    reports_last : IsSome (state_of k).content → Reports last.journal
    reports_last there = subst (λ (o : Option (Journal D g)). Reports o) (sym is) there

    ran_shrunk : RanShrunk (g.state start) (state_of k) (turns_taken setting (state_in first) es last.closed)
    ran_shrunk =
        let leaves = leaves_runs g setting first last es r in
        let on = open_runs g setting first last es not_closed r in
        let faults : faults_in last.journal ≡ (state_of k).faults = ap (λ (o : Option (Journal D g)). faults_in o) is in
        let moments : moment_in last.journal ≡ (state_of k).moment = ap (λ (o : Option (Journal D g)). moment_in o) is in
        record {
          stands = λ file at.
              let s = opened.stands file at in
              record {
                records = s.0;
                area = area_of j;
                side = side_of j;
                holds = s.2;
                give = subst (λ (d : Contents). GiveContents s.0 d) (sym step.contents) s.1;
                room = subst (λ (d : Contents). IsRoomLeft (record { used = length (listed Second s.0); area = area_of j }) d (room_in first.journal)) (sym step.contents)
                    (subst (λ (n : ℕ). IsRoomLeft (record { used = n; area = area_of j }) c (room_in first.journal)) s.3 room_left);
              };
          survives = λ settled file at.
              let reports : Reports last.journal = reports_last (ap is_some at) in
              subst (λ (o : Option (Journal D g)). Survives o (g.state start).moment setting (state_in first) es) is
              ((since g).survives start setting first last es not_closed (ready_first settled) (since_first settled (leaves.reported reports)) r reports);
          same = λ settled file at. λ m image low.
              let reports : Reports last.journal = reports_last (ap is_some at) in
              let past = (since g).past start setting first last es not_closed (ready_first settled) (since_first settled (leaves.reported reports)) r reports m image low in (
                (λ left. subst (λ (o : Option (Journal D g)). left_in o m image) is (past.0 left)),
                (λ left. past.1 (subst (λ (o : Option (Journal D g)). left_in o m image) (sym is) left)),
              );
          moments = sooner (g.state start).moment (moment_in first.journal) es (omega (arith, opened.alone.clock, step.clock)) leaves.moments;
          within = subst (λ (n : ℕ). AllByRecursion (λ (e : Entry). e.moment ≤ n) es) moments leaves.within;
          fault = λ fault.
              let cause = on.cause fault in
              (omega (arith, cause.0, opened.alone.count, step.count, faults), cause.1 ∙ ap (λ (n : ℕ). Some (min n (2 ^ 64 - 1))) faults);
          closed = on.closed;
          count = omega (arith, opened.alone.count, step.count, leaves.count, faults);
          clock = omega (arith, opened.alone.clock, step.clock, leaves.clock, moments);
        }

  over : (disk : D) × (disk_in last.journal ≡ Some disk) × RanShrunk (g.state start) (g.state disk) (turns_taken setting (state_in first) es last.closed)
  over =
      let room : IsSome (room_in last.journal) = subst (λ (s : State). IsSome s.room) (sym (leaves_runs g setting first last es r).state) (some_all setting (state_in first) es (ap is_some room_first)) in
      let there = journal_there g last.journal room in
      (disk_of there.0, ap (λ (o : Option (Journal D g)). disk_in o) there.1, ran_shrunk there.0 there.1)

pub law : {D : Type 0} (g : Ghosts D) → LawOfShrunkFiles g
law g = record {
  over = λ start j c given setting first last left es opened step shrinks r. over g start j c given setting first last left es opened step shrinks r;
}
