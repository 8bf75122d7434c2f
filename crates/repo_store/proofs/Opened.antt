-- What the opening of a file says.
use Rattle.std.proofs.Common.{◌≡◌, inl, inr, ℕ, ◌+◌, ◌<◌, ◌≤◌, List, [], ◌∷◌, ◌++◌, length, take, slice_get, Some, Result, Ok, Err, refl, sym, ap, ◌∙◌, subst, arith}
use Rattle.std.specs.List.{All, fold}
use Rattle.std.proofs.lemmas.List.{take_more}
use Rattle.std.proofs.lemmas.List.Elements.{All-head, All-tail}
use Rattle.std.proofs.lemmas.List.Sums.{sum_by-append}
use Rattle.std.proofs.lemmas.Option.{slice_get_within, get_or_from_slice_get}
use Rattle.disk_core.specs.Disk.{DiskState}
use Rattle.disk_core.specs.Runs.{LeavesAlone}
use Rattle.disk_core.specs.declared.disk.Disk.{Ghosts}
use Rattle.journal_core.specs.Journal.{disk_of, area_of, side_of, record_length, room_for, IsNumbered}
use Rattle.journal_core.specs.Layout.{most_number}
use Rattle.journal_core.specs.Open as journals
use Rattle.journal_core.specs.declared.journal.Journal.{Journal}
use Rattle.journal_core.specs.declared.layout.Format.TheVariants.{Second}
use Rattle.journal_core.specs.declared.open.OpenFault.{OpenFault}
use Rattle.journal_core.specs.declared.open.OpenFault.TheVariants as opens
use Rattle.journal_core.specs.declared.records.Record.{Record}
use Rattle.journal_core.specs.declared.records.Stamp.{Stamp}
use Rattle.record_core.specs.declared.format.Format.TheVariants as bodies
use Rattle.repo_state.specs.Contents.{Contents, Stamped, apply, replay}
use Rattle.repo_state.specs.Held.{Held}
use Rattle.repo_state.specs.Recorded.{AreRecordsOf}
use Rattle.repo_state.specs.Replayed as replayed
use Rattle.repo_state.specs.Sound.{IsConsistent}
use Rattle.repo_state.specs.declared.replay.ReplayFault.{ReplayFault}
use Rattle.repo_state.specs.declared.replay.ReplayFault.TheVariants as replays
use Rattle.repo_store.specs.declared.fault.StoreFault.{StoreFault}
use Rattle.repo_store.specs.declared.fault.StoreFault.TheVariants as faults
use Rattle.repo_store.specs.Opening.{OpensFile, IsRefusedFor, IsStoreCause, IsInside, fault_of_opening, fault_of_replay}
use Rattle.repo_store.specs.Stands.{GiveContents}

abbrev Replays : List Record → Result Held ReplayFault → Type 0
Replays = replayed.Opens bodies.Second (λ c. c)

-- the contents of a table that a replay gave
gives : (records : List Record) (table : Held) → Replays records (Ok table) → IsConsistent table.contents → GiveContents records table.contents
gives records table made consistent = record {
  changes = made.1.changes;
  are = made.1.are;
  gives = sym made.1.gives ∙ sym made.3;
  consistent = consistent;
}

-- the number of contents is that of the last record
number_after : (c : Contents) (rs : List Record) (ss : List Stamped) → c.number ≤ most_number → AreRecordsOf bodies.Second rs ss → All IsNumbered rs → (fold (λ before s. apply s before) c ss).number ≤ most_number
number_after c [] [] low are numbered = low
number_after c [] (s ∷ ss) low are numbered = absurd are
number_after c (r ∷ rs) [] low are numbered = absurd are
number_after c (r ∷ rs) (s ∷ ss) low are numbered =
    number_after (apply s c) rs ss (subst (λ (t : Stamp). t.number ≤ most_number) are.0.stamp (All-head IsNumbered r rs numbered)) are.1 (All-tail IsNumbered r rs numbered)

number_replayed : (rs : List Record) (ss : List Stamped) → AreRecordsOf bodies.Second rs ss → All IsNumbered rs → (replay ss).number ≤ most_number
number_replayed rs ss are numbered = number_after _ rs ss (omega arith) are numbered

pub number_opened : (records : List Record) (table : Held) → All IsNumbered records → Replays records (Ok table) → table.contents.number ≤ most_number
number_opened records table numbered made =
    subst (λ (c : Contents). c.number ≤ most_number) (sym made.1.gives ∙ sym made.3) (number_replayed records made.1.changes made.1.are numbered)

pub inside : (records : List Record) (fault : ReplayFault) → Replays records (Err fault) → IsInside records fault
inside records (replays.NotARecord index) made = let within : index < length records = slice_get_within records index made.other made.there in omega (arith, within)
inside records (replays.Unsound id) made = tt
inside records replays.Memory made = tt

-- one record more
pub room_next : (rs : List Record) (i : ℕ) (r : Record) → slice_get rs i ≡ Some r → room_for (take (i + 1) rs) ≡ room_for (take i rs) + (57 + length r.body)
room_next rs i r is =
    ap room_for (take_more rs i r (slice_get_within rs i r is) ∙ ap (λ (x : Record). take i rs ++ x ∷ []) (get_or_from_slice_get rs i r r is))
    ∙ sum_by-append record_length (take i rs) (r ∷ []) ∙ omega arith

opening_cause : (file : List ℕ) (fault : OpenFault) → journals.IsCauseOf Second file fault → IsStoreCause file (fault_of_opening fault)
opening_cause file opens.NotAStore cause = cause
opening_cause file (opens.Version byte) cause = cause
opening_cause file (opens.Damaged place) cause = inl cause
opening_cause file opens.DiskFault cause = tt
opening_cause file opens.Memory cause = tt

is_disk_fault : (fault : OpenFault) → fault_of_opening fault ≡ faults.DiskFault → fault ≡ opens.DiskFault
is_disk_fault opens.NotAStore is = absurd (cc)
is_disk_fault (opens.Version byte) is = absurd (cc)
is_disk_fault (opens.Damaged place) is = absurd (cc)
is_disk_fault opens.DiskFault is = refl
is_disk_fault opens.Memory is = absurd (cc)

pub opening_refused : (before after : DiskState) (fault : OpenFault) → journals.IsRefused Second before after fault → IsRefusedFor before after (fault_of_opening fault)
opening_refused before after fault refused = record {
  cause = λ file is. opening_cause file fault (refused.cause file is);
  disk_fault = λ is. refused.disk_fault (is_disk_fault fault is);
  alone = refused.alone;
}

no_disk_fault : (area side : ℕ) (records : List Record) (fault : ReplayFault) → fault_of_replay area side records fault ≡ faults.DiskFault → ⊥
no_disk_fault area side records (replays.NotARecord index) is = cc
no_disk_fault area side records (replays.Unsound id) is = cc
no_disk_fault area side records replays.Memory is = cc

module _ {D : Type 0} (g : Ghosts D) (before : DiskState) (j : Journal D g) (records : List Record) (opened : journals.Opens before j records) where
  pub opens_file : (table : Held) → Replays records (Ok table) → IsConsistent table.contents → OpensFile before j table.contents
  opens_file table made consistent =
      let give = gives records table made consistent in
      record {
        stands = λ file is. (records, give, opened.holds file is, opened.used file is);
        keeps = λ settled. (records, opened.keeps settled, give);
        alone = opened.alone;
      }

  replay_cause : (file : List ℕ) → before.content ≡ Some file → (fault : ReplayFault) → Replays records (Err fault) → IsStoreCause file (fault_of_replay (area_of j) (side_of j) records fault)
  replay_cause file is (replays.NotARecord index) made = inr (record {
    records = records;
    area = area_of j;
    side = side_of j;
    holds = opened.holds file is;
    index = index;
    is = made;
    place_is = refl;
  })
  replay_cause file is (replays.Unsound id) made = (records, (area_of j, side_of j, opened.holds file is), made.0, made.1, made.2)
  replay_cause file is replays.Memory made = tt

  pub replay_refused : (after : DiskState) (fault : ReplayFault) → Replays records (Err fault) → LeavesAlone before after → IsRefusedFor before after (fault_of_replay (area_of j) (side_of j) records fault)
  replay_refused after fault made alone = record {
    cause = λ file is. replay_cause file is fault made;
    disk_fault = λ is. absurd (no_disk_fault (area_of j) (side_of j) records fault is);
    alone = alone;
  }

  -- the same of what the calls returned
  pub replay_refused_by : (fault : ReplayFault) → Replays records (Err fault) → (disk : D) (side area : ℕ) (result : StoreFault) → disk ≡ disk_of j → side ≡ side_of j → area ≡ area_of j
      → result ≡ fault_of_replay area side records fault → IsRefusedFor before (g.state disk) result
  replay_refused_by fault made disk side area result disk_is side_is area_is is =
      let same : result ≡ fault_of_replay (area_of j) (side_of j) records fault = is ∙ ap (λ (a : ℕ). fault_of_replay a side records fault) area_is ∙ ap (λ (s : ℕ). fault_of_replay (area_of j) s records fault) side_is in
      subst (λ (f : StoreFault). IsRefusedFor before (g.state disk) f) (sym same)
      (subst (λ (d : D). IsRefusedFor before (g.state d) (fault_of_replay (area_of j) (side_of j) records fault)) (sym disk_is) (replay_refused (g.state (disk_of j)) fault made opened.alone))
