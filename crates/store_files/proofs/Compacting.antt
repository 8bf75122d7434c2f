-- A file that is compacted, exit by exit.
use Rattle.std.proofs.Common.{◌≡◌, ◌⊎◌, inl, inr, ⊎_elim, ℕ, List, Result, Ok, Err, refl, sym, ap, ◌∙◌, subst, arith}
use Rattle.std.specs.Option.{ForSome}
use Rattle.base_core.specs.Causes.{Rose}
use Rattle.disk_core.specs.Disk.{DiskState}
use Rattle.disk_core.specs.Runs.{LeavesAlone}
use Rattle.disk_core.specs.declared.disk.Disk.{Ghosts}
use Rattle.disk_core.proofs.RunLaws.{reported}
use Rattle.journal_core.specs.Compact as journals
use Rattle.journal_core.specs.File.{HoldsAt}
use Rattle.journal_core.specs.Journal.{disk_of, state_of, area_of, side_of, used_of, room_for, told}
use Rattle.journal_core.specs.Turn.{IsTooLong, turned}
use Rattle.journal_core.specs.declared.journal.CommitFault.{CommitFault}
use Rattle.journal_core.specs.declared.journal.CommitFault.TheVariants.{Full, DiskFault}
use Rattle.journal_core.specs.declared.journal.Journal.{Journal}
use Rattle.journal_core.specs.declared.journal.Room.{Room}
use Rattle.journal_core.specs.declared.layout.Format.TheVariants.{Second}
use Rattle.journal_core.specs.declared.records.Record.{Record}
use Rattle.record_core.specs.declared.format.Format.TheVariants as bodies
use Rattle.repo_state.specs.Compacted.{compacted}
use Rattle.repo_state.specs.Contents.{Contents, replay}
use Rattle.repo_state.specs.Recorded.{AreRecordsOf}
use Rattle.repo_state.specs.Sound.{IsConsistent}
use Rattle.repo_store.specs.Opening.{IsRefusedFor, OpensFile}
use Rattle.repo_store.specs.declared.fault.StoreFault.{StoreFault}
use Rattle.repo_store.specs.declared.fault.StoreFault.TheVariants as stores
use Rattle.store_files.specs.declared.fault.RewriteFault.TheVariants as faults
use Rattle.store_files.specs.Rewriting.{Rewriting, Compacts, GivesContents, IsAnew, IsShortest, LacksRoom, WritesAnew, room_of}
use Rattle.store_files.proofs.Anew.{crash, shortest}

-- a file that an opening refuses
pub refused : (before after : DiskState) (fault : StoreFault) → IsRefusedFor before after fault → Compacts before after (Err (faults.Store fault))
refused before after stores.NotAStore r = (r.cause, r.alone)
refused before after (stores.Version byte) r = (r.cause, r.alone)
refused before after (stores.Damaged place) r = (r.cause, r.alone)
refused before after (stores.Unsound id) r = (r.cause, r.alone)
refused before after stores.DiskFault r = (r.disk_fault refl, inl r.alone)
refused before after stores.Memory r = r.alone

same_room : (a b : Room) → a.used ≡ b.used → a.area ≡ b.area → a ≡ b
same_room a b used area =
    ap (λ (n : ℕ). let r : Room = record { used = n; area = a.area } in r) used
    ∙ ap (λ (n : ℕ). let r : Room = record { used = b.used; area = n } in r) area

module _ {D : Type 0} (g : Ghosts D) (j : Journal D g) (c : Contents) (list : List Record) (are : AreRecordsOf bodies.Second list (compacted c)) (consistent : IsConsistent c)
    (law : (d : Contents) → IsConsistent d → replay (compacted d) ≡ d) (k : Journal D g) (survives : journals.SurvivesCompact j k list) (disk : D) (disk_is : disk ≡ disk_of k)
    (before : DiskState) (opens : OpensFile before j c) where
  abbrev r : Rewriting
  r = record { contents = c; area = area_of j; side = side_of j; records = list }

  short : IsShortest r
  short = shortest r consistent (law c consistent) are

  stood : ForSome before.content (GivesContents r)
  stood = λ file is. let s = opens.stands file is in (s.0, s.2, s.1)

  at_disk : (P : DiskState → Type 0) → P (state_of k) → P (g.state disk)
  at_disk P h = subst (λ (d : D). P (g.state d)) (sym disk_is) h

  module _ {T : Type 0} (result : Result T CommitFault) (cause : journals.HasCompactCause j k list result) where
    writes : (IsTooLong (area_of j) list → ⊥) → WritesAnew GivesContents before (state_of k) r
    writes fits = record {
      shortest = short;
      stood = stood;
      fits = fits;
      crash = crash GivesContents r Second before (state_of j) (state_of k) opens.alone stood cause.turn.reported
          (λ settled. let keeps = opens.keeps settled in (keeps.0, keeps.1.list, (λ image h. (keeps.0, h, keeps.2)))) survives;
      count = omega (arith, opens.alone.count, cause.turn.count);
      clock = omega (arith, opens.alone.clock, cause.turn.clock);
    }

  -- the list is written
  module _ {T : Type 0} (done : T) (cause : journals.HasCompactCause j k list (Ok done)) (moment : ℕ) (replaced : journals.Replaces j k list moment) (room : Room)
      (used : room.used ≡ used_of k) (area : room.area ≡ area_of k) where
    anew : IsAnew GivesContents before (state_of k) r
    anew = record {
      writes = writes (Ok done) cause (λ long. absurd (cc (cause.turn.full.1 long)));
      bytes = λ now now_is file file_is.
          let mid = reported (state_of j).content (cause.turn.reported now now_is) in
          let same : mid.0 ≡ file = cc (opens.alone.reported mid.0 mid.1, file_is) in
          let is = replaced.bytes mid.0 mid.1 in
          let e : now ≡ turned (area_of j) (side_of j) list mid.0 = cc (is, now_is) in
          e ∙ ap (λ (f : List ℕ). turned (area_of j) (side_of j) list f) same;
      holds = λ settled file is.
          let keeps = opens.keeps settled in
          let held = (replaced.keeps keeps.0 keeps.1).list.holds file is in
          subst (λ (s : ℕ). HoldsAt Second file (area_of j) s list) replaced.side
          (subst (λ (a : ℕ). HoldsAt Second file a (side_of k) list) cause.area held);
      settled = λ settled. let keeps = opens.keeps settled in (replaced.keeps keeps.0 keeps.1).list.settled;
    }

    pub ok : Compacts before (g.state disk) (Ok room)
    ok = (r, at_disk (λ s. IsAnew GivesContents before s r) anew, same_room room (room_of r) (used ∙ replaced.used) (area ∙ cause.area))

  -- the list doesn't fit
  module _ {T : Type 0} (fault : CommitFault) (found : journals.HasCompactCause {T = T} j k list (Err fault)) (used asked : ℕ) (fault_is : fault ≡ Full used asked) where
    cause : journals.HasCompactCause {T = T} j k list (Err (Full used asked))
    cause = subst (λ (f : CommitFault). journals.HasCompactCause {T = T} j k list (Err f)) fault_is found

    full_is : Full used asked ≡ Full 2 (told (room_for list))
    full_is = ⊎_elim (λ (h : Full used asked ≡ DiskFault). absurd (cc)) (λ (h : Full used asked ≡ Full 2 (told (room_for list))). h) cause.turn.others

    long : IsTooLong (area_of j) list
    long = cause.turn.full.0 (ap (λ (f : CommitFault). let e : Result T CommitFault = Err f in e) full_is)

    alone : LeavesAlone before (state_of k)
    alone = subst (λ (x : Journal D g). LeavesAlone before (state_of x)) (sym (cause.unchanged long)) opens.alone

    lacks : LacksRoom GivesContents before (state_of k) used asked
    lacks = record {
      rewriting = r;
      shortest = short;
      stood = stood;
      long = long;
      used_is = cc (full_is);
      asked_is = cc (full_is);
      alone = alone;
    }

    pub full : Compacts before (g.state disk) (Err (faults.Full used asked))
    full = at_disk (λ s. LacksRoom GivesContents before s used asked) lacks

  -- the disk failed
  module _ {T : Type 0} (fault : CommitFault) (found : journals.HasCompactCause {T = T} j k list (Err fault)) (fault_is : fault ≡ DiskFault) where
    failed : journals.HasCompactCause {T = T} j k list (Err DiskFault)
    failed = subst (λ (f : CommitFault). journals.HasCompactCause {T = T} j k list (Err f)) fault_is found

    abbrev Fails : DiskState → Type 0
    Fails s = Rose before.faults s.faults × (LeavesAlone before s ⊎ ((x : Rewriting) × WritesAnew GivesContents before s x))

    fails : Fails (state_of k)
    fails =
        let rose : Rose (state_of j).faults (state_of k).faults = failed.turn.disk_fault refl in
        (omega (arith, opens.alone.count, rose), inr (r, writes (Err DiskFault) failed (λ over. absurd (cc (failed.turn.full.1 over)))))

    pub disk_fault : Compacts before (g.state disk) (Err (faults.Store stores.DiskFault))
    disk_fault = at_disk Fails fails
