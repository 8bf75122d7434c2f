-- A file of format 1 that is brought over, exit by exit.
use Rattle.std.proofs.Common.{◌≡◌, inl, inr, ⊎_elim, ℕ, ◌≤◌, ◌<◌, Bool, true, false, List, length, Some, IsSome, Result, Ok, Err, if◌then◌else◌, nat_eq, refl, sym, ap, ◌∙◌, subst, arith}
use Rattle.std.specs.FinMap as finite
use Rattle.std.specs.Option.{ForSome}
use Rattle.std.proofs.lemmas.Option.{slice_get_within}
use Rattle.base_core.specs.Causes.{Rose}
use Rattle.disk_core.specs.Disk.{DiskState}
use Rattle.disk_core.specs.Runs.{LeavesAlone}
use Rattle.disk_core.specs.declared.disk.Disk.{Ghosts}
use Rattle.disk_core.proofs.RunLaws.{reported}
use Rattle.std.proofs.lemmas.Bool.{eqb-true, eq-eqb}
use Rattle.journal_core.specs.File.{HoldsAt, HasVersion}
use Rattle.journal_core.specs.First.{OpensFirst, Migrates, IsNotMigrated, SurvivesMigration, first_disk, first_state, first_area, first_side}
use Rattle.journal_core.specs.First as journals
use Rattle.journal_core.specs.Journal.{disk_of, state_of, side_of, room_for, told}
use Rattle.journal_core.specs.Layout.{most_number}
use Rattle.journal_core.specs.Open.{IsRefused}
use Rattle.journal_core.specs.Turn.{IsTooLong, turned}
use Rattle.journal_core.specs.declared.first.FirstJournal.{FirstJournal}
use Rattle.journal_core.specs.declared.journal.CommitFault.{CommitFault}
use Rattle.journal_core.specs.declared.journal.CommitFault.TheVariants.{Full, DiskFault}
use Rattle.journal_core.specs.declared.journal.Journal.{Journal}
use Rattle.journal_core.specs.declared.layout.Format.TheVariants.{First, Second}
use Rattle.journal_core.specs.declared.open.OpenFault.{OpenFault}
use Rattle.journal_core.specs.declared.open.OpenFault.TheVariants as opens
use Rattle.journal_core.specs.declared.records.Record.{Record}
use Rattle.record_core.specs.declared.format.Format.TheVariants as bodies
use Rattle.repo_state.specs.Compacted.{compacted}
use Rattle.repo_state.specs.Contents.{Contents, replay}
use Rattle.repo_state.specs.Held.{Held}
use Rattle.repo_state.specs.Recorded.{AreRecordsOf}
use Rattle.repo_state.specs.Replayed.{Opens, migrated}
use Rattle.repo_state.specs.Sound.{IsConsistent}
use Rattle.repo_state.specs.declared.replay.ReplayFault.{ReplayFault}
use Rattle.repo_state.specs.declared.replay.ReplayFault.TheVariants as replays
use Rattle.repo_store.specs.Opening.{IsInside}
use Rattle.repo_store.specs.declared.fault.StoreFault.{StoreFault}
use Rattle.repo_store.specs.declared.fault.StoreFault.TheVariants as stores
use Rattle.store_files.specs.declared.fault.RewriteFault.TheVariants as faults
use Rattle.store_files.specs.declared.migration.Migration.TheVariants.{Done, Already}
use Rattle.store_files.specs.First.{GivesInFirst, IsFirstCause, IsGiven, fault_of_replay, unread}
use Rattle.store_files.specs.First as files
use Rattle.store_files.specs.Rewriting.{Rewriting, IsAnew, IsShortest, WritesAnew}
use Rattle.store_files.proofs.Anew.{crash, shortest}

abbrev Replays : List Record → Result Held ReplayFault → Type 0
Replays = Opens bodies.First migrated

pub inside : (records : List Record) (fault : ReplayFault) → Replays records (Err fault) → IsInside records fault
inside records (replays.NotARecord index) made = let within : index < length records = slice_get_within records index made.other made.there in omega (arith, within)
inside records (replays.Unsound id) made = tt
inside records replays.Memory made = tt

-- the number of what a list of format 1 gives
pub numbered : (kept : List Record) (c : Contents) → IsGiven kept c → c.number ≤ most_number
numbered kept c given = let one : c.number ≡ 1 = ap (λ (d : Contents). d.number) given.3 in omega (arith, one)

-- a file that isn't read as one of format 1
of_version : (before after : DiskState) (byte : ℕ) → IsRefused First before after (opens.Version byte) → (b : Bool) → nat_eq byte 2 ≡ b
    → files.Migrates before after (if b then Ok Already else Err (faults.Store (stores.Version byte)))
of_version before after byte refused true is = ((λ file there. subst (λ (n : ℕ). HasVersion First file n) (eqb-true byte 2 is) (refused.cause file there)), refused.alone)
of_version before after byte refused false is =
    ((λ file there. (refused.cause file there, λ two. let e : true ≡ false = sym (eq-eqb byte 2 two) ∙ is in absurd (cc))), refused.alone)

pub not_read : (before after : DiskState) (fault : OpenFault) → IsRefused First before after fault → files.Migrates before after (unread fault)
not_read before after opens.NotAStore refused = (refused.cause, refused.alone)
not_read before after (opens.Version byte) refused = of_version before after byte refused (nat_eq byte 2) refl
not_read before after (opens.Damaged place) refused = ((λ file there. inl (refused.cause file there)), refused.alone)
not_read before after opens.DiskFault refused = (refused.disk_fault refl, inl refused.alone)
not_read before after opens.Memory refused = refused.alone

module _ {D : Type 0} (g : Ghosts D) (j : FirstJournal D g) (kept : List Record) (before : DiskState) (opened : OpensFirst before j kept) where
  -- a list that a replay refuses
  replay_cause : (file : List ℕ) → before.content ≡ Some file → (fault : ReplayFault) → Replays kept (Err fault) → IsFirstCause file (fault_of_replay (first_area j) (first_side j) kept fault)
  replay_cause file is (replays.NotARecord index) made = inr (record {
    records = kept;
    area = first_area j;
    side = first_side j;
    holds = opened.holds file is;
    index = index;
    is = made;
    place_is = refl;
  })
  replay_cause file is (replays.Unsound id) made = (kept, (first_area j, first_side j, opened.holds file is), made.0, made.1, made.2)
  replay_cause file is replays.Memory made = tt

  refused_in_place : (after : DiskState) (fault : ReplayFault) → Replays kept (Err fault) → LeavesAlone before after
      → files.Migrates before after (Err (faults.Store (fault_of_replay (first_area j) (first_side j) kept fault)))
  refused_in_place after (replays.NotARecord index) made alone = ((λ file is. replay_cause file is (replays.NotARecord index) made), alone)
  refused_in_place after (replays.Unsound id) made alone = ((λ file is. replay_cause file is (replays.Unsound id) made), alone)
  refused_in_place after replays.Memory made alone = alone

  -- the same of what the calls returned
  pub not_replayed : (fault : ReplayFault) → Replays kept (Err fault) → (disk : D) (side area : ℕ) (result : StoreFault) → disk ≡ first_disk j → side ≡ first_side j → area ≡ first_area j
      → result ≡ fault_of_replay area side kept fault → files.Migrates before (g.state disk) (Err (faults.Store result))
  not_replayed fault made disk side area result disk_is side_is area_is is =
      let same : result ≡ fault_of_replay (first_area j) (first_side j) kept fault = is ∙ ap (λ (a : ℕ). fault_of_replay a side kept fault) area_is ∙ ap (λ (s : ℕ). fault_of_replay (first_area j) s kept fault) side_is in
      subst (λ (f : StoreFault). files.Migrates before (g.state disk) (Err (faults.Store f))) (sym same)
      (subst (λ (d : D). files.Migrates before (g.state d) (Err (faults.Store (fault_of_replay (first_area j) (first_side j) kept fault)))) (sym disk_is)
      (refused_in_place (first_state j) fault made opened.alone))

  -- out of memory before anything was written
  pub starved : (disk : D) → disk ≡ first_disk j → files.Migrates before (g.state disk) (Err (faults.Store stores.Memory))
  starved disk is = subst (λ (d : D). LeavesAlone before (g.state d)) (sym is) opened.alone

  module _ (c : Contents) (given : IsGiven kept c) (list : List Record) (are : AreRecordsOf bodies.Second list (compacted c)) (consistent : IsConsistent c)
      (law : (d : Contents) → IsConsistent d → replay (compacted d) ≡ d) where
    abbrev r : Rewriting
    r = record { contents = c; area = first_area j; side = first_side j; records = list }

    short : IsShortest r
    short = shortest r consistent (law c consistent) are

    stood : ForSome before.content (GivesInFirst r)
    stood = λ file is. (kept, opened.holds file is, given)

    writes : (after : DiskState) → (IsTooLong (first_area j) list → ⊥) → SurvivesMigration j after list → ForSome after.content (λ _. IsSome (first_state j).content)
        → (first_state j).faults ≤ after.faults → (first_state j).moment ≤ after.moment → WritesAnew GivesInFirst before after r
    writes after fits survives told count clock = record {
      shortest = short;
      stood = stood;
      fits = fits;
      crash = crash GivesInFirst r First before (first_state j) after opened.alone stood told (λ settled. (kept, opened.keeps settled, (λ image h. (kept, h, given)))) survives;
      count = omega (arith, opened.alone.count, count);
      clock = omega (arith, opened.alone.clock, clock);
    }

    -- the list is written
    module _ (k : Journal D g) (done : journals.Migrates j k list) where
      anew : IsAnew GivesInFirst before (state_of k) r
      anew = record {
        writes = writes (state_of k) done.fits done.crash done.reported done.count done.clock;
        bytes = λ now now_is file file_is.
            let mid = reported (first_state j).content (done.reported now now_is) in
            let same : mid.0 ≡ file = cc (opened.alone.reported mid.0 mid.1, file_is) in
            let is = done.bytes mid.0 mid.1 in
            let e : now ≡ turned (first_area j) (first_side j) list mid.0 = cc (is, now_is) in
            e ∙ ap (λ (f : List ℕ). turned (first_area j) (first_side j) list f) same;
        holds = λ settled file is.
            let held = (done.keeps kept (opened.keeps settled)).list.holds file is in
            subst (λ (s : ℕ). HoldsAt Second file (first_area j) s list) done.side
            (subst (λ (a : ℕ). HoldsAt Second file a (side_of k) list) done.area held);
        settled = λ settled. (done.keeps kept (opened.keeps settled)).list.settled;
      }

      pub ok : (disk : D) → disk ≡ disk_of k → (objects : ℕ) → objects ≡ finite.len c.objects → files.Migrates before (g.state disk) (Ok (Done objects))
      ok disk disk_is objects objects_is = (r, subst (λ (d : D). IsAnew GivesInFirst before (g.state d) r) (sym disk_is) anew, objects_is)

    -- the list doesn't fit
    module _ (disk : D) (fault : CommitFault) (found : IsNotMigrated j disk fault list) where
      pub full : (used asked : ℕ) → fault ≡ Full used asked → files.Migrates before (g.state disk) (Err (faults.Full used asked))
      full used asked fault_is =
          let full_is : fault ≡ Full 2 (told (room_for list)) = ⊎_elim (λ (h : fault ≡ DiskFault). absurd (cc)) (λ (h : fault ≡ Full 2 (told (room_for list))). h) found.others in
          let long : IsTooLong (first_area j) list = found.full.0 full_is in
          record {
            rewriting = r;
            shortest = short;
            stood = stood;
            long = long;
            used_is = cc (full_is, fault_is);
            asked_is = cc (full_is, fault_is);
            alone = subst (λ (d : D). LeavesAlone before (g.state d)) (sym (found.unchanged long)) opened.alone;
          }

      -- the disk failed
      pub disk_fault : fault ≡ DiskFault → files.Migrates before (g.state disk) (Err (faults.Store stores.DiskFault))
      disk_fault fault_is =
          let rose : Rose (first_state j).faults (g.state disk).faults = found.disk_fault fault_is in
          let fits : IsTooLong (first_area j) list → ⊥ = λ over. absurd (cc (found.full.1 over, fault_is)) in
          (omega (arith, opened.alone.count, rose), inr (r, writes (g.state disk) fits found.crash found.reported found.count found.clock))
