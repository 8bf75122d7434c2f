-- The limits of a change. This project's own.
use Rattle.std.specs.Prelude.{ℕ, ◌+◌, ◌-◌, ◌^◌, length, nat_le, nat_lt, Option, Some, None, Result, if◌then◌else◌}
use Rattle.journal_core.specs.declared.journal.Room.{Room}
use Rattle.record_core.specs.declared.change.Change.{Change}
use Rattle.record_core.specs.Body.{body}
use Rattle.repo_step.specs.declared.refusal.Refusal.{Refusal}
use Rattle.repo_step.specs.declared.refusal.Refusal.TheVariants.{TooManyChanges, AreaFull}
use Rattle.repo_step.specs.Setting.{State}
use Rattle.repo_step.specs.Chain.{unless, clear}

-- the most objects
abbrev pub most_objects : ℕ
most_objects = 100000

-- the last number of a change
abbrev pub last_number : ℕ
last_number = 2 ^ 48

-- the last revision of an object
abbrev pub last_revision : ℕ
last_revision = 2 ^ 63 - 1

-- what a record needs beside its body, with the closed gate after it
abbrev pub record_needs : ℕ
record_needs = 58

-- what is used of an area, and what the record of a change asks for, if the area has no room for it
abbrev pub lacking : Option Room → Change → Option (ℕ × ℕ)
lacking None change = None
lacking (Some room) change =
    let asked = length (body change) + record_needs in
    if nat_le (room.used + asked) room.area then None else Some (room.used, asked)

-- refuses unless the area has room for the record of a change
abbrev pub if_room : {A : Type 0} → Room → Change → Result A Refusal → Result A Refusal
if_room room change rest = clear (lacking (Some room) change) (λ n. AreaFull n.0 n.1) rest

-- A change is within its limits: there is a number for it, and room for its record.
abbrev pub within_limits : {A : Type 0} → State → Change → Result A Refusal → Result A Refusal
within_limits s change rest =
    unless (nat_lt s.contents.number last_number) TooManyChanges (
    clear (lacking s.room change) (λ n. AreaFull n.0 n.1) rest)
