-- A change that is committed.
use Rattle.std.proofs.Common.{◌≡◌, inl, inr, ⊎_elim, ℕ, ◌+◌, ◌≤◌, Bool, true, false, nat_le, if◌then◌else◌, List, [], ◌∷◌, ◌++◌, length, Option, Some, None, refl, sym, ap, ◌∙◌, subst, arith}
use Rattle.std.specs.Option.{ForSome}
use Rattle.std.proofs.lemmas.Bool.{leb-true}
use Rattle.disk_core.specs.declared.disk.Disk.{Ghosts}
use Rattle.journal_core.specs.declared.journal.Journal.{Journal}
use Rattle.journal_core.specs.declared.journal.Room.{Room}
use Rattle.journal_core.specs.declared.layout.Format.TheVariants.{Second}
use Rattle.journal_core.specs.declared.records.Record.{Record}
use Rattle.journal_core.specs.declared.records.Stamp.{Stamp}
use Rattle.journal_core.specs.File.{Holds}
use Rattle.journal_core.specs.Journal.{used_of, area_of, one}
use Rattle.record_core.specs.Body.{body}
use Rattle.record_core.specs.Storable.{IsChange, IsOf}
use Rattle.record_core.specs.declared.change.Change.{Change}
use Rattle.record_core.specs.declared.change.Change.TheVariants.{Put, Remove, Counter}
use Rattle.record_core.specs.declared.format.Format.{Format}
use Rattle.record_core.specs.declared.format.Format.TheVariants as bodies
use Rattle.repo_state.specs.Contents.{Contents, Stamped, apply, replay}
use Rattle.repo_state.specs.Recorded.{AreRecordsOf, IsRecordOf}
use Rattle.repo_step.specs.declared.brought.Brought.{Brought}
use Rattle.repo_step.specs.Laws.{CanFollow}
use Rattle.repo_step.specs.Setting.{state}
use Rattle.repo_step.specs.Step.{after_change, next_stamp, room_after}
use Rattle.repo_step.specs.operations.Limits.{lacking}
use Rattle.repo_store.specs.Saved.{room_in, Reports, KeepsRecords, LeavesBetween, HoldsOrMore, room_saved}
use Rattle.repo_store.specs.Stands.{GiveContents, StandsEither}
use Rattle.repo_store.specs.Store.{KeepsContents}

second_fits : (change : Change) → IsOf bodies.Second change
second_fits (Put o counter) = tt
second_fits (Remove id) = tt
second_fits (Counter n) = tt

allows : (b : Bool) (x : ℕ × ℕ) → (if b then None else Some x) ≡ None → b ≡ true
allows true x is = refl
allows false x is = absurd (cc)

module _ {D : Type 0} (g : Ghosts D) where
  -- a record that is not lacking room fits
  pub fits : (log : Option (Journal D g)) (change : Change) (bytes : List ℕ) → lacking (room_in log) change ≡ None → bytes ≡ body change
      → ForSome log (λ j. used_of j + length bytes + 58 ≤ area_of j)
  fits None change bytes none is = λ j same. absurd (cc)
  fits (Some i) change bytes none is = λ j same.
      let j_is : i ≡ j = cc in
      let within : used_of i + (length (body change) + 58) ≤ area_of i = leb-true _ _ (allows (nat_le (used_of i + (length (body change) + 58)) (area_of i)) _ none) in
      omega (arith, within, ap length is, ap (λ (x : Journal D g). used_of x) j_is, ap (λ (x : Journal D g). area_of x) j_is)

-- the room after a record with the body of a change
pub saved_room : (room : Option Room) (bytes : List ℕ) (change : Change) → bytes ≡ body change → room_saved bytes room ≡ room_after change room
saved_room None bytes change is = refl
saved_room (Some room) bytes change is = ap (λ (l : List ℕ). room_saved l (Some room)) is

module _ (more : (format : Format) (records : List Record) (changes : List Stamped) (r : Record) (s : Stamped) → AreRecordsOf format records changes → IsRecordOf format r s → AreRecordsOf format (records ++ r ∷ []) (changes ++ s ∷ []))
    (later : (changes : List Stamped) (s : Stamped) → replay (changes ++ s ∷ []) ≡ apply s (replay changes))
    (brought : Brought) (c : Contents) (room : Option Room) (change : Change) (stamp : Stamp) (bytes : List ℕ) (follows : CanFollow brought (state c room) change)
    (kind : IsChange change) (is : bytes ≡ body change) (stamp_is : stamp ≡ next_stamp brought (state c room)) where
  -- one record more gives the contents after the change
  gives_more : (records : List Record) → GiveContents records c → GiveContents (records ++ one stamp bytes) (after_change brought (Some change) (state c room)).contents
  gives_more records give =
      let next : Stamped = record { stamp = next_stamp brought (state c room); change = change } in
      record {
        changes = give.changes ++ next ∷ [];
        are = more bodies.Second records give.changes _ next give.are (record { stamp = stamp_is; body = record { change_is = kind; storable = follows.storable; of_format = second_fits change; is = is } });
        gives = later give.changes next ∙ ap (λ (d : Contents). apply next d) give.gives;
        consistent = follows.consistent;
      }

  module _ {D : Type 0} (g : Ghosts D) (old new : Option (Journal D g)) where
    pub commits_crash : (Reports new → (kept : List Record) → KeepsRecords old kept → LeavesBetween old new (HoldsOrMore kept (one stamp bytes)))
        → Reports new → KeepsContents old c → LeavesBetween old new (StandsEither c (after_change brought (Some change) (state c room)).contents)
    commits_crash crash reports keeps =
        let all = crash reports keeps.0 keeps.1 in
        record {
          later = all.later;
          same = all.same;
          each = λ moment image low high left. ⊎_elim
              (λ (h : Holds Second image keeps.0). inl (record { records = keeps.0; holds = h; give = keeps.2 }))
              (λ (h : Holds Second image (keeps.0 ++ one stamp bytes)). inr (record { records = keeps.0 ++ one stamp bytes; holds = h; give = gives_more keeps.0 keeps.2 }))
              (all.each moment image low high left);
        }

    pub commits_keep : (d : Contents) → d ≡ (after_change brought (Some change) (state c room)).contents → ((kept : List Record) → KeepsRecords old kept → KeepsRecords new (kept ++ one stamp bytes))
        → KeepsContents old c → KeepsContents new d
    commits_keep d same grows keeps = (keeps.0 ++ one stamp bytes, grows keeps.0 keeps.1, subst (λ (e : Contents). GiveContents (keeps.0 ++ one stamp bytes) e) (sym same) (gives_more keeps.0 keeps.2))
