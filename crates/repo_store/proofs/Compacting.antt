-- The compaction of a store's list, exit by exit.
use Rattle.std.proofs.Common.{◌≡◌, ⊎_elim, ℕ, ◌+◌, ◌-◌, ◌^◌, min, List, [], ◌∷◌, length, map, take, Option, Some, None, option_map, Result, Ok, Err, refl, sym, ap, ◌∙◌, subst, arith}
use Rattle.std.proofs.lemmas.List.{take-map}
use Rattle.std.proofs.lemmas.Option.{slice_get-map}
use Rattle.disk_core.specs.declared.disk.Disk.{Ghosts}
use Rattle.journal_core.specs.Compact as journals
use Rattle.journal_core.specs.File.{HoldsAt}
use Rattle.journal_core.specs.Journal.{state_of, area_of, side_of, used_of, room_for, told}
use Rattle.journal_core.specs.Turn.{other_side, IsTooLong}
use Rattle.journal_core.specs.declared.journal.CommitFault.{CommitFault}
use Rattle.journal_core.specs.declared.journal.CommitFault.TheVariants.{Full, DiskFault}
use Rattle.journal_core.specs.declared.journal.Journal.{Journal}
use Rattle.journal_core.specs.declared.journal.Room.{Room}
use Rattle.journal_core.specs.declared.layout.Format.TheVariants.{Second}
use Rattle.journal_core.specs.declared.records.Record.{Record}
use Rattle.journal_core.specs.declared.records.Stamp.{Stamp}
use Rattle.record_core.specs.declared.format.Format.TheVariants as bodies
use Rattle.repo_state.specs.Compacted.{compacted, IsRecordAt}
use Rattle.repo_state.specs.Contents.{Contents, Stamped, replay}
use Rattle.repo_state.specs.Recorded.{AreRecordsOf, IsRecordOf}
use Rattle.repo_state.specs.Sound.{IsConsistent}
use Rattle.repo_store.specs.Compaction.{Compacts, HasRewriteCause, compacted_list, compacted_room, recorded}
use Rattle.repo_store.specs.Law.{Rewrites}
use Rattle.repo_store.specs.Saved.{Reports, LeavesBetween}
use Rattle.repo_store.specs.Stands.{Stands, GiveContents}
use Rattle.repo_store.specs.Store.{Seen, seen, KeepsContents}
use Rattle.repo_store.proofs.Keeping.{there, still}
use Rattle.repo_store.proofs.Opened.{room_next}

-- ---- the list

pub record_is : (r : Record) (s : Stamped) → IsRecordOf bodies.Second r s → r ≡ recorded s
record_is r s is =
    ap (λ (t : Stamp). let x : Record = record { stamp = t; body = r.body } in x) is.stamp
    ∙ ap (λ (b : List ℕ). let x : Record = record { stamp = s.stamp; body = b } in x) is.body.is

-- records of changes are the list of their records
pub list_is : (rs : List Record) (ss : List Stamped) → AreRecordsOf bodies.Second rs ss → rs ≡ map recorded ss
list_is [] [] are = refl
list_is [] (s ∷ ss) are = absurd are
list_is (r ∷ rs) [] are = absurd are
list_is (r ∷ rs) (s ∷ ss) are = ap (λ (x : Record). x ∷ rs) (record_is r s are.0) ∙ ap (λ (l : List Record). recorded s ∷ l) (list_is rs ss are.1)

pub list_gives : (c : Contents) (records : List Record) → IsConsistent c → replay (compacted c) ≡ c → AreRecordsOf bodies.Second records (compacted c) → GiveContents (compacted_list c) c
list_gives c records consistent same are = record {
  changes = compacted c;
  are = subst (λ (l : List Record). AreRecordsOf bodies.Second l (compacted c)) (list_is records (compacted c) are) are;
  gives = same;
  consistent = consistent;
}

-- one record more of a list
pub room_more : (changes : List Stamped) (i : ℕ) (r : Record) → IsRecordAt changes i r → room_for (map recorded (take (i + 1) changes)) ≡ room_for (map recorded (take i changes)) + (57 + length r.body)
room_more changes i r is =
    ap room_for (sym (take-map recorded (i + 1) changes))
    ∙ room_next (map recorded changes) i r
    (slice_get-map recorded changes i ∙ ap (λ (o : Option Stamped). option_map recorded o) is.there ∙ ap (λ (x : Record). Some x) (sym (record_is r is.change is.is)))
    ∙ ap (λ (l : List Record). room_for l + (57 + length r.body)) (take-map recorded i changes)

room_same : (a b : Room) → a.used ≡ b.used → a.area ≡ b.area → a ≡ b
room_same a b used area =
    ap (λ (n : ℕ). let r : Room = record { used = n; area = a.area } in r) used
    ∙ ap (λ (n : ℕ). let r : Room = record { used = b.used; area = n } in r) area

-- ---- a store that is as it was

module _ {D : Type 0} (g : Ghosts D) where
  pub stays : (s : Seen D g) → Rewrites s s
  stays s = record {
    contents = refl;
    given = refl;
    clock = omega arith;
    count = omega arith;
    reported = λ reports. reports;
    ready = λ ready. ready;
    crash = λ ready open_is reports. still g s.journal s.contents (ready open_is) reports (λ image. Stands image s.contents) (λ image stands. stands);
  }

-- ---- a journal that is compacted

module _ {D : Type 0} (g : Ghosts D) (c : Contents) (given : Option (List ℕ)) (list : List Record) (are : AreRecordsOf bodies.Second list (compacted c)) (consistent : IsConsistent c)
    (law : (d : Contents) → IsConsistent d → replay (compacted d) ≡ d) (j k : Journal D g) (log : Option (Journal D g)) (is : log ≡ Some j) (closed : Option ℕ) (open_is : closed ≡ None)
    (crash : journals.SurvivesCompact j k list) where
  at_log : (P : Option (Journal D g) → Type 0) → P (Some j) → P log
  at_log P h = subst P (sym is) h

  on_list : (P : List Record → Type 0) → P list → P (compacted_list c)
  on_list P h = subst P (list_is list (compacted c) are) h

  give : GiveContents (compacted_list c) c
  give = list_gives c list consistent (law c consistent) are

  each : Reports (Some k) → KeepsContents (Some j) c → LeavesBetween (Some j) (Some k) (λ image. Stands image c)
  each reports keeps =
      let file = there (state_of k).content reports in
      let survives : journals.SurvivesCompact j k (compacted_list c) = on_list (λ l. journals.SurvivesCompact j k l) crash in
      let all = survives file.0 file.1 keeps.0 keeps.1.list in
      record {
        later = all.later;
        same = all.same;
        each = λ moment image low high left. ⊎_elim
            (λ (h : HoldsAt Second image (area_of j) (side_of j) keeps.0). let s : Stands image c = record { records = keeps.0; holds = (area_of j, side_of j, h); give = keeps.2 } in s)
            (λ (h : HoldsAt Second image (area_of j) (other_side (side_of j)) (compacted_list c)). let s : Stands image c = record { records = compacted_list c; holds = (area_of j, other_side (side_of j), h); give = give } in s)
            (all.each moment image low high left);
      }

  rewritten : {T : Type 0} (result : Result T CommitFault) (after : Option ℕ) → journals.HasCompactCause j k list result
      → (after ≡ None → KeepsContents (Some j) c → KeepsContents (Some k) c) → Rewrites (seen log c closed given) (seen (Some k) c after given)
  rewritten result after cause keeps = at_log (λ o. Rewrites (seen o c closed given) (seen (Some k) c after given)) (record {
    contents = refl;
    given = refl;
    clock = cause.turn.clock;
    count = cause.turn.count;
    reported = λ reports. let file = there (state_of k).content reports in cause.turn.reported file.0 file.1;
    ready = λ ready is. keeps is (ready open_is);
    crash = λ ready is reports. each reports (ready is);
  })

  -- the list is written
  module _ {T : Type 0} (done : T) (cause : journals.HasCompactCause j k list (Ok done)) (moment : ℕ) (replaced : journals.Replaces j k list moment) where
    replaces : journals.Replaces j k (compacted_list c) moment
    replaces = on_list (λ l. journals.Replaces j k l moment) replaced

    fits : IsTooLong (area_of j) (compacted_list c) → ⊥
    fits = on_list (λ l. IsTooLong (area_of j) l → ⊥) (λ long. absurd (cc (cause.turn.full.1 long)))

    pub ok_rewrites : Rewrites (seen log c closed given) (seen (Some k) c closed given)
    ok_rewrites = rewritten (Ok done) closed cause (λ _ keeps. (compacted_list c, replaces.keeps keeps.0 keeps.1, give))

    pub ok_compacts : (left : Room) → left.used ≡ used_of k → left.area ≡ area_of k → Compacts (seen log c closed given) (seen (Some k) c closed given) left
    ok_compacts left used area = at_log (λ o. Compacts (seen o c closed given) (seen (Some k) c closed given) left) (record {
      fits = fits;
      left_is = room_same left (compacted_room (area_of j) c) (used ∙ replaces.used) (area ∙ cause.area);
      room = ap Some (room_same (record { used = used_of k; area = area_of k }) left (sym used) (sym area));
      side = replaces.side;
      not_closed = open_is;
      keeps = replaces.keeps;
      durable = λ kept keeps reports m image low high left.
          let file = there (state_of k).content reports in
          (area_of j, side_of k, replaces.durable file.0 file.1 kept keeps m image (omega (arith, replaces.now, low)) high left);
      bytes = replaces.bytes;
    })

  -- the list doesn't fit
  module _ {T : Type 0} (fault : CommitFault) (found : journals.HasCompactCause {T = T} j k list (Err fault)) (used asked : ℕ) (fault_is : fault ≡ Full used asked) where
    cause : journals.HasCompactCause {T = T} j k list (Err (Full used asked))
    cause = subst (λ (f : CommitFault). journals.HasCompactCause {T = T} j k list (Err f)) fault_is found

    full_is : Full used asked ≡ Full 2 (told (room_for list))
    full_is = ⊎_elim (λ (h : Full used asked ≡ DiskFault). absurd (cc)) (λ (h : Full used asked ≡ Full 2 (told (room_for list))). h) cause.turn.others

    too_long : IsTooLong (area_of j) list
    too_long = cause.turn.full.0 (ap (λ (f : CommitFault). let r : Result T CommitFault = Err f in r) full_is)

    same : k ≡ j
    same = cause.unchanged too_long

    asked_is : asked ≡ told (room_for list)
    asked_is = cc (full_is)

    pub full_rewrites : Rewrites (seen log c closed given) (seen (Some k) c closed given)
    full_rewrites = at_log (λ o. Rewrites (seen o c closed given) (seen (Some k) c closed given))
        (subst (λ (x : Journal D g). Rewrites (seen (Some j) c closed given) (seen (Some x) c closed given)) (sym same) (stays g (seen (Some j) c closed given)))

    pub full_cause : HasRewriteCause (seen log c closed given) (seen (Some k) c closed given) (Full used asked)
    full_cause = at_log (λ o. HasRewriteCause (seen o c closed given) (seen (Some k) c closed given) (Full used asked))
        (on_list (λ l. IsTooLong (area_of j) l) too_long, cc (full_is), on_list (λ l. asked ≡ told (room_for l)) asked_is, ap (λ (x : Journal D g). seen (Some x) c closed given) same)

  -- the disk failed
  module _ {T : Type 0} (fault : CommitFault) (found : journals.HasCompactCause {T = T} j k list (Err fault)) (fault_is : fault ≡ DiskFault) (count : ℕ) (count_is : count ≡ min (state_of k).faults (2 ^ 64 - 1)) where
    disk_cause : journals.HasCompactCause {T = T} j k list (Err DiskFault)
    disk_cause = subst (λ (f : CommitFault). journals.HasCompactCause {T = T} j k list (Err f)) fault_is found

    pub fault_rewrites : Rewrites (seen log c closed given) (seen (Some k) c (Some count) given)
    fault_rewrites = rewritten (Err DiskFault) (Some count) disk_cause (λ none. absurd (cc))

    pub fault_cause : HasRewriteCause (seen log c closed given) (seen (Some k) c (Some count) given) DiskFault
    fault_cause = at_log (λ o. HasRewriteCause (seen o c closed given) (seen (Some k) c (Some count) given) DiskFault) (
      on_list (λ l. IsTooLong (area_of j) l → ⊥) (λ long. absurd (cc (disk_cause.turn.full.1 long))),
      (record {
        rose = disk_cause.turn.disk_fault refl;
        closed = ap Some count_is;
        room = ap Some (room_same (record { used = used_of k; area = area_of k }) (record { used = used_of j; area = area_of j }) disk_cause.used disk_cause.area);
      }),
    )
