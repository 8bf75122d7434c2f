-- What a commit leaves, from what its two parts leave.
use Rattle.std.proofs.Common.{◌≡◌, ◌≢◌, inl, ℕ, ◌+◌, ◌*◌, ◌≤◌, List, [], ◌∷◌, ◌++◌, length, drop, Some, sym, ◌∙◌, ap, subst, arith}
use Rattle.std.specs.List.{All}
use Rattle.std.proofs.lemmas.List.Elements.{All-append}
use Rattle.disk_core.specs.Disk.{DiskState, written, Torn, IsSettled}
use Rattle.disk_core.specs.Runs.{Spans, LeavesOnly}
use Rattle.disk_core.proofs.RunLaws.{leaves}
use Rattle.journal_core.specs.File.{Fits, staged_records, listed, HoldsAt}
use Rattle.journal_core.specs.Journal.{room_for, HoldsEither}
use Rattle.journal_core.specs.declared.layout.Format.TheVariants.{Second}
use Rattle.journal_core.specs.declared.records.Record.{Record}
use Rattle.journal_core.proofs.Parts.{Parts, parts_of, torn_after, torn_gate, with_staged, staged_is, gated, gated_open, written_gate, gate_at}

module _ (file : List ℕ) (area side used : ℕ) (kept more : List Record) (holds : HoldsAt Second file area side kept)
    (is_used : used ≡ length (listed Second kept)) where
  abbrev parts : Parts Second file area side kept
  parts = parts_of Second file area side kept holds

  abbrev gate : ℕ
  gate = 32 + side * area + used

  at : gate ≡ gate_at Second file area side kept parts
  at = omega (arith, is_used)

  -- nothing was done
  pub idle : (state : DiskState) → state.content ≡ Some file → IsSettled state → LeavesOnly state state (HoldsEither area side kept more)
  idle state is settled = record {
    later = omega arith;
    same = λ moment image le. ((λ left. left), (λ left. left));
    each = λ moment image from to left.
        let now : moment ≡ state.moment = omega arith in
        let here = settled file is image (subst (λ (m : ℕ). state.image_at m image) now left) in
        inl (subst (λ (f : List ℕ). HoldsAt Second f area side kept) (sym here) holds);
  }

  -- the records were staged, or a part of them
  pub staging : (old new : DiskState) → old.content ≡ Some file → IsSettled old → Spans old new (Torn (gate + 1) (length (staged_records more)))
      → LeavesOnly old new (HoldsEither area side kept more)
  staging old new is settled span =
      let n : ℕ = length (staged_records more) in
      leaves old new (Torn (gate + 1) n) (HoldsEither area side kept more) file (λ image left. settled file is image left)
      (λ image torn. inl (torn_after Second file area side kept parts (gate + 1) n image (omega (arith, at)) torn)) span

  module _ (some : more ≢ []) (numbered : All (Fits Second) more) (fits : used + (room_for more + 1) ≤ area) where
    pub also : All (Fits Second) (kept ++ more)
    also = All-append (Fits Second) kept more holds.fits numbered

    enough : length (listed Second kept) + (room_for more + 1) ≤ area
    enough = omega (arith, is_used, fits)

    -- the file with the records staged
    abbrev pub with_records : List ℕ
    with_records = with_staged file area side kept parts more some also (drop (length (staged_records more)) parts.tail)

    pub staged_file : written (gate + 1) (staged_records more) file ≡ with_records
    staged_file = ap (λ (g : ℕ). written (g + 1) (staged_records more) file) at ∙ staged_is file area side kept parts more some also

    -- the gate was opened, or torn
    pub opening : (mid new : DiskState) → mid.content ≡ Some with_records → IsSettled mid → Spans mid new (Torn gate 1)
        → LeavesOnly mid new (HoldsEither area side kept more)
    opening mid new is settled span =
        let tail : List ℕ = drop (length (staged_records more)) parts.tail in
        leaves mid new (Torn gate 1) (HoldsEither area side kept more) with_records (λ image left. settled with_records is image left)
        (λ image torn. torn_gate file area side kept parts more some also tail image enough (subst (λ (g : ℕ). Torn g 1 with_records image) at torn)) span

    -- the file with the gate open
    pub opened_file : HoldsAt Second (written gate (1 ∷ []) with_records) area side (kept ++ more)
    opened_file =
        let tail : List ℕ = drop (length (staged_records more)) parts.tail in
        let is : written gate (1 ∷ []) with_records ≡ gated file area side kept parts more some also tail 1 =
        ap (λ (g : ℕ). written g (1 ∷ []) with_records) at ∙ written_gate file area side kept parts more some also tail in
        subst (λ (f : List ℕ). HoldsAt Second f area side (kept ++ more)) (sym is) (gated_open file area side kept parts more some also tail enough)
