-- What a compaction of a journal does.
use Rattle.std.specs.Prelude.{◌≡◌, ℕ, ◌+◌, List, Result, Some, OnErr}
use Rattle.std.specs.Option.{ForSome}
use Rattle.disk_core.specs.Runs.{LeavesSince}
use Rattle.disk_core.specs.declared.disk.Disk.{Ghosts}
use Rattle.journal_core.specs.File.{HoldsAt}
use Rattle.journal_core.specs.Journal.{state_of, area_of, side_of, used_of, room_for, Keeps}
use Rattle.journal_core.specs.Turn.{other_side, turned, IsTooLong, HasTurnCause, SurvivesTurn}
use Rattle.journal_core.specs.declared.layout.Format.TheVariants.{Second}
use Rattle.journal_core.specs.declared.journal.CommitFault.{CommitFault}
use Rattle.journal_core.specs.declared.journal.Journal.{Journal}
use Rattle.journal_core.specs.declared.records.Record.{Record}

module _ {D : Type 0} {g : Ghosts D} where
  -- Why a compaction failed. If the records don't fit nothing changed.
  pub record HasCompactCause {T : Type 0} (old new : Journal D g) (entries : List Record)
      (result : Result T CommitFault) : Type 0 where
    pub turn : HasTurnCause (state_of old) (state_of new) (area_of old) entries result
    pub unchanged : IsTooLong (area_of old) entries → new ≡ old
    pub area : area_of new ≡ area_of old
    pub side : OnErr result (side_of new ≡ side_of old)
    pub used : OnErr result (used_of new ≡ used_of old)

  -- a crash at any moment of a compaction leaves the list that the journal kept, or these records
  abbrev pub SurvivesCompact : Journal D g → Journal D g → List Record → Type 0
  SurvivesCompact old new entries =
      SurvivesTurn Second (state_of old) (state_of new) (area_of old) (side_of old) entries

  -- The journal keeps these records and no others, and each image holds them from this moment on, which is now.
  pub record Replaces (old new : Journal D g) (entries : List Record) (moment : ℕ) : Type 0 where
    pub keeps : (kept : List Record) → Keeps old kept → Keeps new entries
    pub durable : ForSome (state_of new).content (λ _. (kept : List Record) → Keeps old kept
        → LeavesSince (state_of new) moment (λ image. HoldsAt Second image (area_of old) (side_of new) entries))
    pub now : moment ≡ (state_of new).moment
    pub side : side_of new ≡ other_side (side_of old)
    pub used : used_of new ≡ 1 + room_for entries
    pub bytes : ForSome (state_of old).content (λ file.
        (state_of new).content ≡ Some (turned (area_of old) (side_of old) entries file))
