-- Contents that are written anew: what a crash may leave, whatever the format of the old list.
use Rattle.std.proofs.Common.{◌≡◌, ◌⊎◌, inl, inr, ⊎_elim, ℕ, List, Some, IsSome, sym, subst}
use Rattle.std.specs.Option.{ForSome}
use Rattle.disk_core.specs.Disk.{DiskState, IsSettled, Same}
use Rattle.disk_core.specs.Runs.{LeavesAlone, LeavesOnly}
use Rattle.disk_core.proofs.RunLaws.{leaves, leaves_on, reported}
use Rattle.journal_core.specs.File.{HoldsAt}
use Rattle.journal_core.specs.Journal.{KeepsIn}
use Rattle.journal_core.specs.Turn.{SurvivesTurn, other_side}
use Rattle.journal_core.specs.declared.layout.Format.{Format}
use Rattle.journal_core.specs.declared.layout.Format.TheVariants.{Second}
use Rattle.journal_core.specs.declared.records.Record.{Record}
use Rattle.record_core.specs.declared.format.Format.TheVariants as bodies
use Rattle.repo_state.specs.Compacted.{compacted}
use Rattle.repo_state.specs.Contents.{replay}
use Rattle.repo_state.specs.Recorded.{AreRecordsOf}
use Rattle.repo_state.specs.Sound.{IsConsistent}
use Rattle.store_files.specs.Rewriting.{Rewriting, HoldsAnew, IsShortest}

-- the records of a table are the shortest list
pub shortest : (r : Rewriting) → IsConsistent r.contents → replay (compacted r.contents) ≡ r.contents → AreRecordsOf bodies.Second r.records (compacted r.contents) → IsShortest r
shortest r consistent same are = record {
  are = are;
  give = record { changes = compacted r.contents; are = are; gives = same; consistent = consistent };
}

module _ (Stood : Rewriting → List ℕ → Type 0) (r : Rewriting) (format : Format) (before mid after : DiskState) (alone : LeavesAlone before mid) (stood : ForSome before.content (Stood r))
    (told : ForSome after.content (λ _. IsSome mid.content)) where
  abbrev OneOf : List ℕ → Type 0
  OneOf image = Stood r image ⊎ HoldsAnew r image

  -- what the opening leaves is the file
  opening : IsSettled before → (file : List ℕ) → mid.content ≡ Some file → LeavesOnly before mid OneOf
  opening settled file is =
      let was = alone.reported file is in
      leaves before mid Same OneOf file (settled file was) (λ image same. inl (subst (Stood r) (sym same) (stood file was))) (alone.crash file is).1

  -- and then the list is written in the other area
  pub crash : ((settled : IsSettled before) → (kept : List Record) × KeepsIn format mid r.area r.side kept × ((image : List ℕ) → HoldsAt format image r.area r.side kept → Stood r image))
      → SurvivesTurn format mid after r.area r.side r.records → IsSettled before → ForSome after.content (λ _. LeavesOnly before after OneOf)
  crash keeps survives settled last is =
      let file = reported mid.content (told last is) in
      let kept = keeps settled in
      let all = survives last is kept.0 kept.1 in
      leaves_on before mid after OneOf (opening settled file.0 file.1) (record {
        later = all.later;
        same = all.same;
        each = λ moment image low high left. ⊎_elim
            (λ (h : HoldsAt format image r.area r.side kept.0). let o : OneOf image = inl (kept.2 image h) in o)
            (λ (h : HoldsAt Second image r.area (other_side r.side) r.records). let o : OneOf image = inr h in o)
            (all.each moment image low high left);
      })
