-- What a run leaves, and how it exits.
use Rattle.std.specs.Prelude.{◌≡◌, ◌+◌, ℕ, List, Option, None, Some}
use Rattle.disk_core.specs.declared.disk.Disk.{Ghosts}
use Rattle.link_core.specs.Link.{LinkState}
use Rattle.repo_step.specs.History.{Entry}
use Rattle.repo_top.specs.declared.file_run.FileEnd.{FileEnd}
use Rattle.repo_top.specs.declared.file_run.FileEnd.TheVariants as ends
use Rattle.repo_top.specs.declared.outcome.NoSession.{NoSession}
use Rattle.repo_top.specs.declared.outcome.NoSession.TheVariants as reasons
use Rattle.repo_top.specs.declared.outcome.Note.{Note}
use Rattle.repo_top.specs.declared.outcome.Note.TheVariants as notes
use Rattle.session_core.specs.declared.end.SessionEnd.{SessionEnd}
use Rattle.session_core.specs.declared.end.SessionEnd.TheVariants.{Ended, Cut, Framing, ReadFault, WriteFault}

-- what a run ends with
pub record Exit : Type 0 where
  pub status : ℕ
  pub note : Note

-- an exit with this status and this note
abbrev pub exit : ℕ → Note → Exit
exit status note = record { status = status; note = note }

-- the status of a session's end
abbrev pub status_at : SessionEnd → ℕ
status_at Ended = 0
status_at (Cut place) = 0
status_at (Framing place reason) = 0
status_at ReadFault = 7
status_at WriteFault = 7

-- what is noted of a session's end
abbrev pub note_at : SessionEnd → Note
note_at Ended = notes.Nothing
note_at end = notes.End end

-- The exit of a session: that of its end, unless the disk failed in one of its turns, which closed the store at this count.
abbrev pub exit_of_session : Option ℕ → SessionEnd → Exit
exit_of_session None end = exit (status_at end) (note_at end)
exit_of_session (Some count) end = exit 6 (notes.Disk count)

-- the exit of a command without a session
abbrev pub exit_without_session : NoSession → Exit
exit_without_session reasons.Host = exit 9 notes.Host
exit_without_session (reasons.File path) = exit 10 (notes.File path)
exit_without_session (reasons.Disk count) = exit 6 (notes.Disk count)
exit_without_session (reasons.Store fault) = exit 3 (notes.Store fault)
exit_without_session reasons.Memory = exit 4 notes.Memory

-- the exit of a command over a file
abbrev pub exit_of_file : FileEnd → Exit
exit_of_file ends.Done = exit 0 notes.Nothing
exit_of_file ends.Host = exit 9 notes.Host
exit_of_file (ends.Disk count) = exit 6 (notes.Disk count)
exit_of_file (ends.Store fault) = exit 3 (notes.Store fault)
exit_of_file (ends.Full used asked) = exit 3 (notes.Full used asked)
exit_of_file (ends.NotEmpty n) = exit 3 (notes.NotEmpty n)
exit_of_file ends.Out = exit 7 notes.Out
exit_of_file ends.Memory = exit 4 notes.Memory

-- What contracts see of the disks and the links of a host.
pub record Views (E T : Type 0) : Type 1 where
  pub disk : Ghosts E
  pub link : T → LinkState

abbrev pub views : {E T : Type 0} → Ghosts E → (T → LinkState) → Views E T
views disk link = record { disk = disk; link = link }

-- What a run leaves: its exit; its disk and its link, as the host handed them out and as they are returned; the end of its
-- session, and its history.
pub record Left (E T : Type 0) : Type 0 where
  pub exit : Exit
  pub opened : Option E
  pub disk : Option E
  pub begun : Option T
  pub link : Option T
  pub end : Option SessionEnd
  pub past : List Entry

abbrev pub left : {E T : Type 0} → Exit → Option E → Option E → Option T → Option T → Option SessionEnd → List Entry
    → Left E T
left exit opened disk begun link end past = record {
  exit = exit;
  opened = opened;
  disk = disk;
  begun = begun;
  link = link;
  end = end;
  past = past;
}

-- an object or nothing, as the host's count of its kind says
abbrev pub Counted : {T : Type 0} → ℕ → ℕ → Option T → Type 0
Counted before now (Some object) = now ≡ before + 1
Counted before now None = now ≡ before
