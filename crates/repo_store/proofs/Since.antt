-- The law of runs since the opening, and what an image means.
use Rattle.std.proofs.Common.{◌≡◌, ◌⊎◌, inl, inr, ⊎_elim, ℕ, ◌<◌, List, Some, None, refl, sym, ap, ◌∙◌, subst, arith}
use mathlib.Core.Logic.{dite}
use native.Mathlib.Decide.{dec_le}
use Rattle.disk_core.specs.Disk.{IsSettled}
use Rattle.disk_core.specs.declared.disk.Disk.{Ghosts}
use Rattle.history_lock.specs.History.{Runs}
use Rattle.journal_core.specs.File.{Holds, HoldsAt, IsDamaged, holds, not_a_store, other_version, damaged}
use Rattle.journal_core.specs.declared.layout.Format.TheVariants.{Second}
use Rattle.journal_core.specs.Journal.{state_of, area_of, side_of}
use Rattle.journal_core.specs.declared.journal.Journal.{Journal}
use Rattle.journal_core.specs.declared.records.Record.{Record}
use Rattle.journal_core.proofs.LawLemmas.{one_meaning}
use Rattle.record_core.specs.declared.format.Format.TheVariants as bodies
use Rattle.repo_state.specs.Contents.{Contents, Stamped, replay}
use Rattle.repo_state.specs.Recorded.{AreRecordsOf}
use Rattle.repo_state.specs.Replayed.{IsFirstOther}
use Rattle.repo_state.specs.Sound.{IsConsistent, least_unsound}
use Rattle.repo_step.specs.Setting.{Setting}
use Rattle.repo_step.specs.History.{Entry}
use Rattle.repo_store.specs.Saved.{moment_in, Reports}
use Rattle.repo_store.specs.Stands.{Stands}
use Rattle.repo_store.specs.Store.{Seen, state_in, IsReady}
use Rattle.repo_store.specs.Survival.{Survives}
use Rattle.repo_store.specs.declared.fault.StoreFault.{StoreFault}
use Rattle.repo_store.specs.declared.fault.StoreFault.TheVariants.{NotAStore, Version, Damaged, Unsound, DiskFault, Memory}
use Rattle.repo_store.specs.Opening.{IsStoreCause, HasOtherBody, IsUnsound, OpensFile}
use Rattle.repo_store.specs.Law.{IsTurn, Since, LawSince, LawOfReopening}
use Rattle.repo_store.proofs.Keeping.{there}
use Rattle.repo_store.proofs.Survival.{past_runs, survives_runs, begins}

module _ {D : Type 0} (g : Ghosts D) where
  since_runs : (start : D) (setting : Setting) (first last : Seen D g) (es : List Entry) → first.closed ≡ None → IsReady first → Since (g.state start) first.journal first.contents
      → Runs (IsTurn setting) first es last → Reports last.journal → Survives last.journal (g.state start).moment setting (state_in first) es
  since_runs start setting first last es open_is ready since r reports = λ m image low high left. dite (dec_le (moment_in first.journal) m)
      (λ late. survives_runs g setting first last es open_is ready r reports m image late high left)
      (λ not_late.
      let under : m < moment_in first.journal = omega (arith, not_late) in
      begins g setting first last es open_is r m image under
      (since.each m image low (omega (arith, under)) ((past_runs g setting first last es open_is ready r reports m image (omega (arith, under))).1 left)))

  -- what opening a settled disk leaves
  opened_since : (start : D) (j : Journal D g) (c : Contents) → OpensFile (g.state start) j c → IsSettled (g.state start) → Reports (Some j) → Since (g.state start) (Some j) c
  opened_since start j c opened settled reports =
      let last = there (state_of j).content reports in
      let run = opened.alone.crash last.0 last.1 in
      let file = there (g.state start).content run.0 in
      record {
        later = run.1.later;
        same = run.1.same;
        each = λ m image low high left.
            let from = run.1.inside m image low high left in
            let same : image ≡ file.0 = from.2 ∙ settled file.0 file.1 from.0 from.1 in
            let stands = opened.stands file.0 file.1 in
            record {
              records = stands.0;
              holds = (area_of j, side_of j, subst (λ (f : List ℕ). HoldsAt Second f (area_of j) (side_of j) stands.0) (sym same) stands.2);
              give = stands.1;
            };
      }

  pub law : LawSince g
  law = record {
    opens = opened_since;
    survives = since_runs;
    past = λ start setting first last es open_is ready since r reports m image low.
        let one = since.same m image low in
        let two = past_runs g setting first last es open_is ready r reports m image (omega (arith, low, since.later)) in
        ((λ left. two.0 (one.0 left)), (λ left. one.1 (two.1 left)));
    rewrites = λ start old new ready open_is reports since step.
        let on = step.crash ready open_is reports in
        record {
          later = omega (arith, since.later, on.later);
          same = λ m image low.
              let one = since.same m image low in
              let two = on.same m image (omega (arith, low, since.later)) in
              ((λ left. two.0 (one.0 left)), (λ left. one.1 (two.1 left)));
          each = λ m image low high left. dite (dec_le (moment_in old.journal) m)
              (λ late. subst (λ (c : Contents). Stands image c) (sym step.contents) (on.each m image late high left))
              (λ not_late.
              let under : m < moment_in old.journal = omega (arith, not_late) in
              subst (λ (c : Contents). Stands image c) (sym step.contents) (since.each m image low (omega (arith, under)) ((on.same m image (omega (arith, under))).1 left)));
        };
  }

-- ---- what an image means

abbrev Decide : Type 0
Decide = (records : List Record) (some others : List Stamped) → AreRecordsOf bodies.Second records some → AreRecordsOf bodies.Second records others → some ≡ others

-- a file holds one list of records
one_list : (file : List ℕ) (rs ss : List Record) → Holds Second file rs → Holds Second file ss → rs ≡ ss
one_list file rs ss a b = let one = one_meaning Second file (holds rs) (holds ss) a b in cc

module _ (decides : Decide) (reads : (records : List Record) (some : List Stamped) (place : ℕ) → AreRecordsOf bodies.Second records some → IsFirstOther bodies.Second records place → ⊥) (sound : (c : Contents) → IsConsistent c → least_unsound c.objects ≡ None) where
  unsound : (file : List ℕ) (c : Contents) (id : List ℕ) → Stands file c → IsUnsound file id → ⊥
  unsound file c id stands fault =
      let records : stands.records ≡ fault.0 = one_list file stands.records fault.0 stands.holds fault.1 in
      let changes : stands.give.changes ≡ fault.3.changes = decides fault.0 stands.give.changes fault.3.changes (subst (λ (l : List Record). AreRecordsOf bodies.Second l stands.give.changes) records stands.give.are) fault.3.are in
      let contents : fault.2 ≡ c = fault.3.gives ∙ ap (λ (l : List Stamped). replay l) (sym changes) ∙ stands.give.gives in
      let none : least_unsound fault.2.objects ≡ None = sound fault.2 (subst (λ (d : Contents). IsConsistent d) (sym contents) stands.give.consistent) in
      cc (none, fault.4)

  other_body : (file : List ℕ) (c : Contents) (place : ℕ) → Stands file c → HasOtherBody file place → ⊥
  other_body file c place stands other =
      let records : stands.records ≡ other.records = one_list file stands.records other.records stands.holds (other.area, other.side, other.holds) in
      reads other.records stands.give.changes other.index (subst (λ (l : List Record). AreRecordsOf bodies.Second l stands.give.changes) records stands.give.are) other.is

  refused : (file : List ℕ) (c : Contents) (fault : StoreFault) → Stands file c → IsStoreCause file fault → (fault ≡ DiskFault) ⊎ (fault ≡ Memory)
  refused file c NotAStore stands cause = absurd (cc (one_meaning Second file (holds stands.records) not_a_store stands.holds cause))
  refused file c (Version byte) stands cause = absurd (cc (one_meaning Second file (holds stands.records) (other_version byte) stands.holds cause))
  refused file c (Damaged place) stands cause = ⊎_elim
      (λ (h : IsDamaged Second file place). absurd (cc (one_meaning Second file (holds stands.records) (damaged place) stands.holds h)))
      (λ (h : HasOtherBody file place). absurd (other_body file c place stands h)) cause
  refused file c (Unsound id) stands cause = absurd (unsound file c id stands cause)
  refused file c DiskFault stands cause = inl refl
  refused file c Memory stands cause = inr refl

  -- one list of records gives one contents
  same : (file : List ℕ) (c other : Contents) → Stands file c → Stands file other → c ≡ other
  same file c other a b =
      let records : a.records ≡ b.records = one_list file a.records b.records a.holds b.holds in
      let changes : a.give.changes ≡ b.give.changes = decides b.records a.give.changes b.give.changes (subst (λ (l : List Record). AreRecordsOf bodies.Second l a.give.changes) records a.give.are) b.give.are in
      sym a.give.gives ∙ ap (λ (l : List Stamped). replay l) changes ∙ b.give.gives

  pub reopening : LawOfReopening
  reopening = record { refused = refused; same = same }
