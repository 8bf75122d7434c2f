-- What a journal keeps, and what a crash now leaves of it.
use Rattle.std.proofs.Common.{◌≡◌, ℕ, ◌≤◌, Bool, false, is_some, List, Option, Some, None, IsSome, refl, sym, subst, arith}
use Rattle.disk_core.specs.declared.disk.Disk.{Ghosts}
use Rattle.journal_core.specs.declared.journal.Journal.{Journal}
use Rattle.journal_core.specs.declared.layout.Format.TheVariants.{Second}
use Rattle.journal_core.specs.declared.records.Record.{Record}
use Rattle.journal_core.specs.File.{HoldsAt}
use Rattle.journal_core.specs.Journal.{state_of, area_of, side_of}
use Rattle.repo_state.specs.Contents.{Contents}
use Rattle.repo_store.specs.Saved.{left_in, moment_in, Reports, KeepsRecords, LeavesBetween}
use Rattle.repo_store.specs.Stands.{Stands, GiveContents}
use Rattle.repo_store.specs.Store.{KeepsContents}

pub not_both : (o : Option ℕ) → o ≡ None → IsSome o → ⊥
not_both None none some = cc
not_both (Some x) none some = cc

pub none_of : (o : Option ℕ) (b : Bool) → b ≡ is_some o → b ≡ false → o ≡ None
none_of None b is low = refl
none_of (Some x) b is low = absurd (cc)

-- what an option that is there has
pub there : {A : Type 0} (o : Option A) → IsSome o → (x : A) × (o ≡ Some x)
there None some = absurd (cc)
there (Some x) some = (x, refl)

module _ {D : Type 0} (g : Ghosts D) where
  -- each image of a journal that keeps records stands for what they give
  pub kept_stands : (journal : Option (Journal D g)) (records : List Record) (c : Contents) → KeepsRecords journal records → GiveContents records c → Reports journal
      → (image : List ℕ) → left_in journal (moment_in journal) image → Stands image c
  kept_stands None records c keeps give reports image left = absurd reports
  kept_stands (Some j) records c keeps give reports image left =
      let file = there (state_of j).content reports in
      let same : image ≡ file.0 = keeps.list.settled file.0 file.1 image left in
      record {
        records = records;
        holds = (area_of j, side_of j, subst (λ (f : List ℕ). HoldsAt Second f (area_of j) (side_of j) records) (sym same) (keeps.list.holds file.0 file.1));
        give = give;
      }

  -- a disk that is left alone
  pub still : (old : Option (Journal D g)) (c : Contents) → KeepsContents old c → Reports old → (P : List ℕ → Type 0) → ((image : List ℕ) → Stands image c → P image) → LeavesBetween old old P
  still old c keeps reports P gives = record {
    later = omega arith;
    same = λ m image low. ((λ left. left), (λ left. left));
    each = λ m image low high left.
        let now : m ≡ moment_in old = omega (arith, low, high) in
        gives image (kept_stands old keeps.0 c keeps.1 keeps.2 reports image (subst (λ (k : ℕ). left_in old k image) now left));
  }

  -- what a crash now leaves of a journal that keeps contents
  pub now_stands : (new : Option (Journal D g)) (d : Contents) → KeepsContents new d → Reports new → (m : ℕ) (image : List ℕ) → moment_in new ≤ m → m ≤ moment_in new → left_in new m image → Stands image d
  now_stands new d keeps reports m image low high left =
      let now : m ≡ moment_in new = omega (arith, low, high) in
      kept_stands new keeps.0 d keeps.1 keeps.2 reports image (subst (λ (k : ℕ). left_in new k image) now left)
