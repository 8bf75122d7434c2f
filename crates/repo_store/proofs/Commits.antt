-- What a commit says of an optional journal.
use Rattle.std.proofs.Common.{◌≡◌, inl, inr, ⊎_elim, ℕ, ◌+◌, List, ◌++◌, length, Option, Some, None, sym, ap, ◌∙◌, subst, arith}
use Rattle.disk_core.specs.declared.disk.Disk.{Ghosts}
use Rattle.journal_core.specs.declared.journal.Journal.{Journal}
use Rattle.journal_core.specs.declared.journal.Room.{Room}
use Rattle.journal_core.specs.declared.layout.Format.TheVariants.{Second}
use Rattle.journal_core.specs.declared.records.Record.{Record}
use Rattle.journal_core.specs.declared.records.Stamp.{Stamp}
use Rattle.journal_core.specs.File.{HoldsAt}
use Rattle.journal_core.specs.Journal.{state_of, area_of, side_of, used_of, one, room_for, Keeps, SurvivesCommit}
use Rattle.repo_store.specs.Saved.{room_in, Reports, KeepsRecords, LeavesBetween, HoldsOrMore, room_saved}
use Rattle.repo_store.proofs.Keeping.{there}

module _ {D : Type 0} (g : Ghosts D) where
  pub some_crash : (log : Option (Journal D g)) (j k : Journal D g) (entries : List Record) → log ≡ Some j → SurvivesCommit j k entries
      → Reports (Some k) → (kept : List Record) → KeepsRecords log kept → LeavesBetween log (Some k) (HoldsOrMore kept entries)
  some_crash None j k entries is survives reports kept keeps = absurd (cc)
  some_crash (Some i) j k entries is survives reports kept keeps =
      let same : i ≡ j = cc in
      let file = there (state_of k).content reports in
      let all = survives file.0 file.1 kept (subst (λ (x : Journal D g). Keeps x kept) same keeps) in
      subst (λ (x : Journal D g). LeavesBetween (Some x) (Some k) (HoldsOrMore kept entries)) (sym same)
      (record {
        later = all.later;
        same = all.same;
        each = λ moment image low high left. ⊎_elim
            (λ (h : HoldsAt Second image (area_of j) (side_of j) kept). inl (area_of j, side_of j, h))
            (λ (h : HoldsAt Second image (area_of j) (side_of j) (kept ++ entries)). inr (area_of j, side_of j, h))
            (all.each moment image low high left);
      })

  pub some_keeps : (log : Option (Journal D g)) (j k : Journal D g) (entries : List Record) → log ≡ Some j → ((kept : List Record) → Keeps j kept → Keeps k (kept ++ entries))
      → (kept : List Record) → KeepsRecords log kept → Keeps k (kept ++ entries)
  some_keeps None j k entries is grows kept keeps = absurd (cc)
  some_keeps (Some i) j k entries is grows kept keeps =
      let same : i ≡ j = cc in
      grows kept (subst (λ (x : Journal D g). Keeps x kept) same keeps)

  pub some_room : (log : Option (Journal D g)) (j k : Journal D g) (stamp : Stamp) (body : List ℕ) → log ≡ Some j → used_of k ≡ used_of j + room_for (one stamp body) → area_of k ≡ area_of j
      → room_in (Some k) ≡ room_saved body (room_in log)
  some_room None j k stamp body is used area = absurd (cc)
  some_room (Some i) j k stamp body is used area =
      let same : i ≡ j = cc in
      let more : used_of k ≡ used_of i + length body + 57 = omega (arith, used, ap (λ (x : Journal D g). used_of x) same) in
      let place : area_of k ≡ area_of i = area ∙ ap (λ (x : Journal D g). area_of x) (sym same) in
      ap (λ (n : ℕ). let r : Room = record { used = n; area = area_of k } in Some r) more ∙ ap (λ (n : ℕ). let r : Room = record { used = used_of i + length body + 57; area = n } in Some r) place
