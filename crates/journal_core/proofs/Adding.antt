-- A commit, from what its two steps did: the records are staged, and their gate is opened.
use Rattle.std.proofs.Common.{◌≡◌, ◌≢◌, ℕ, ◌+◌, ◌^◌, ◌≤◌, ◌<◌, List, [], ◌∷◌, ◌++◌, Result, Some, IsSome, sym, refl, ◌∙◌, ap, subst, arith}
use Rattle.std.specs.List.{All}
use Rattle.std.proofs.lemmas.List.{append-nil}
use Rattle.journal_core.specs.declared.records.Stamp.{Stamp}
use Rattle.std.specs.Option.{ForSome}
use Rattle.disk_core.specs.Disk.{DiskState, IsSettled, written}
use Rattle.disk_core.specs.Runs.{LeavesOnly}
use Rattle.disk_core.specs.declared.disk.Disk.{Ghosts}
use Rattle.disk_core.proofs.RunLaws.{reported, leaves_on}
use Rattle.journal_core.specs.File.{HoldsAt, Fits, staged_records}
use Rattle.journal_core.specs.Journal.{area_of, side_of, used_of, gate_of, state_of, one, IsNumbered, room_for, HoldsEither, Keeps, Adds}
use Rattle.journal_core.specs.Steps.{WritesDurably}
use Rattle.journal_core.specs.declared.journal.Journal.{Journal}
use Rattle.journal_core.specs.declared.layout.Format.TheVariants.{Second}
use Rattle.journal_core.specs.declared.records.Record.{Record}
use Rattle.journal_core.proofs.Results.{some_same}
use Rattle.journal_core.proofs.Written.{length-listed, room_more}
use Rattle.journal_core.proofs.Commits.{idle, staging, staged_file, opening, opened_file}

module _ {D : Type 0} {g : Ghosts D} (old : Journal D g) (more : List Record) where
  -- what a crash leaves of a commit that ends with the disk in this state
  abbrev Survives : DiskState → Type 0
  Survives new = ForSome new.content (λ _. (kept : List Record) → Keeps old kept → LeavesOnly (state_of old) new (HoldsEither (area_of old) (side_of old) kept more))

  -- nothing was done
  pub survives_idle : Survives (state_of old)
  survives_idle = λ last now kept keeps.
      idle last (area_of old) (side_of old) (used_of old) kept more (keeps.list.holds last now) (keeps.used last now) (state_of old) now keeps.list.settled

  -- the records were staged, or a part of them
  pub survives_staging : {T E : Type 0} (new : DiskState) (result : Result T E) → WritesDurably (state_of old) new (gate_of old + 1) (staged_records more) result → Survives new
  survives_staging new result writes = λ last now kept keeps.
      let later = writes.writes.crash last now in
      let first = reported (state_of old).content later.0 in
      staging first.0 (area_of old) (side_of old) (used_of old) kept more (keeps.list.holds first.0 first.1) (keeps.used first.0 first.1)
      (state_of old) new first.1 keeps.list.settled later.1

  module _ (mid : DiskState) (some : more ≢ []) (numbered : All (Fits Second) more) (fits : used_of old + (room_for more + 1) ≤ area_of old)
      (puts : ForSome (state_of old).content (λ file. mid.content ≡ Some (written (gate_of old + 1) (staged_records more) file)))
      (settled : IsSettled mid) where
    -- the gate was opened, or torn
    pub survives_opening : {T E U F : Type 0} (new : DiskState) (result : Result T E) (ended : Result U F) → WritesDurably (state_of old) mid (gate_of old + 1) (staged_records more) result
        → WritesDurably mid new (gate_of old) (1 ∷ []) ended → Survives new
    survives_opening new result ended writes opens = λ last now kept keeps.
        let later = opens.writes.crash last now in
        let between = reported mid.content later.0 in
        let before = writes.writes.crash between.0 between.1 in
        let file = reported (state_of old).content before.0 in
        let holds = keeps.list.holds file.0 file.1 in
        let used = keeps.used file.0 file.1 in
        let first = staging file.0 (area_of old) (side_of old) (used_of old) kept more holds used (state_of old) mid file.1 keeps.list.settled before.1 in
        let there = puts file.0 file.1 ∙ ap Some (staged_file file.0 (area_of old) (side_of old) (used_of old) kept more holds used some numbered fits) in
        let second = opening file.0 (area_of old) (side_of old) (used_of old) kept more holds used some numbered fits mid new there settled later.1 in
        leaves_on (state_of old) mid new (HoldsEither (area_of old) (side_of old) kept more) first second

    module _ (new : Journal D g) (reports : ForSome (state_of new).content (λ _. IsSome mid.content × IsSome (state_of old).content))
        (opened : ForSome mid.content (λ file. (state_of new).content ≡ Some (written (gate_of old) (1 ∷ []) file))) (last_settled : IsSettled (state_of new)) where
      holds_more : (kept : List Record) → Keeps old kept → (last : List ℕ) → (state_of new).content ≡ Some last → HoldsAt Second last (area_of old) (side_of old) (kept ++ more)
      holds_more kept keeps last now =
          let file = reported (state_of old).content (reports last now).1 in
          let holds = keeps.list.holds file.0 file.1 in
          let used = keeps.used file.0 file.1 in
          let there = puts file.0 file.1 ∙ ap Some (staged_file file.0 (area_of old) (side_of old) (used_of old) kept more holds used some numbered fits) in
          let done = opened _ there in
          subst (λ (f : List ℕ). HoldsAt Second f (area_of old) (side_of old) (kept ++ more)) (some_same (state_of new).content _ last done now)
          (opened_file file.0 (area_of old) (side_of old) (used_of old) kept more holds used some numbered fits)

      pub adds : (moment : ℕ) → moment ≡ (state_of new).moment → area_of new ≡ area_of old → side_of new ≡ side_of old → used_of new ≡ used_of old + room_for more → Adds old new more moment
      adds moment at area side used = record {
        keeps = λ kept keeps. record {
          list = record {
            holds = λ last now.
                subst (λ (a : ℕ). HoldsAt Second last a (side_of new) (kept ++ more)) (sym area)
                (subst (λ (s : ℕ). HoldsAt Second last (area_of old) s (kept ++ more)) (sym side) (holds_more kept keeps last now));
            settled = last_settled;
          };
          used = λ last now.
              let file = reported (state_of old).content (reports last now).1 in
              omega (arith, used, keeps.used file.0 file.1, length-listed kept, length-listed (kept ++ more), room_more kept more);
        };
        durable = λ last now kept keeps time image since to left.
            let here : time ≡ (state_of new).moment = omega (arith, at, since, to) in
            let left_now = subst (λ (m : ℕ). (state_of new).image_at m image) here left in
            subst (λ (f : List ℕ). HoldsAt Second f (area_of old) (side_of old) (kept ++ more)) (sym (last_settled last now image left_now)) (holds_more kept keeps last now);
        now = at;
        used = used;
        bytes = λ file is filled. opened _ (puts file is);
        none = λ empty. absurd (some empty);
      }

-- no records: nothing is done
pub adds_none : {D : Type 0} {g : Ghosts D} (old : Journal D g) (none : List Record) (moment : ℕ) → none ≡ [] → moment ≡ (state_of old).moment → Adds old old none moment
adds_none old none moment empty at =
    let same : (kept : List Record) → kept ++ none ≡ kept = λ kept. ap (λ (l : List Record). kept ++ l) empty ∙ append-nil kept in
    record {
      keeps = λ kept keeps. subst (Keeps old) (sym (same kept)) keeps;
      durable = λ last now kept keeps time image since to left.
          let here : time ≡ (state_of old).moment = omega (arith, at, since, to) in
          let is = keeps.list.settled last now image (subst (λ (m : ℕ). (state_of old).image_at m image) here left) in
          subst (λ (f : List ℕ). HoldsAt Second f (area_of old) (side_of old) (kept ++ none)) (sym is)
          (subst (λ (l : List Record). HoldsAt Second last (area_of old) (side_of old) l) (sym (same kept)) (keeps.list.holds last now));
      now = at;
      used = omega (arith, ap room_for empty);
      bytes = λ file is filled. absurd (filled empty);
      none = λ is. refl;
    }

-- a place under another name
pub at_gate : {T E : Type 0} (old new : DiskState) (gate at : ℕ) (piece : List ℕ) (result : Result T E) → gate ≡ at → WritesDurably old new (gate + 1) piece result → WritesDurably old new (at + 1) piece result
at_gate old new gate at piece result is writes = subst (λ (p : ℕ). WritesDurably old new (p + 1) piece result) is writes

pub of_gate : {T E : Type 0} (old new : DiskState) (gate at : ℕ) (piece : List ℕ) (result : Result T E) → gate ≡ at → WritesDurably old new gate piece result → WritesDurably old new at piece result
of_gate old new gate at piece result is writes = subst (λ (p : ℕ). WritesDurably old new p piece result) is writes

pub some_one : (stamp : Stamp) (body : List ℕ) → one stamp body ≢ []
some_one stamp body is = absurd (cc)

-- what the calls require of numbers, and what types say of times
pub fitting_all : (rs : List Record) → All IsNumbered rs → All (λ (r : Record). r.stamp.time < 2 ^ 64) rs → All (Fits Second) rs
fitting_all rs numbered timed = λ k d within. (numbered k d within, timed k d within)
