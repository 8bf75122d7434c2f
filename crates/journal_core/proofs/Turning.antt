-- What a crash leaves while the other area is written and the side is turned to it.
use Rattle.std.proofs.Common.{◌≡◌, ◌≢◌, inl, inr, ℕ, ◌+◌, ◌-◌, ◌*◌, ◌%◌, ◌≤◌, ◌<◌, min, List, [], ◌∷◌, ◌++◌, length, take, drop, replicate, Some, IsSome, Result, Ok, Err, OnOk, sym, ◌∙◌, ap, subst, arith, append_assoc, length-append, length-take, take-append-drop}
use Rattle.std.proofs.lemmas.Bool.{cases_eq}
use Rattle.std.proofs.lemmas.List.{length-replicate, take_at, drop_at, drop-drop}
use Rattle.std.specs.List.{All}
use Rattle.std.specs.Option.{ForSome}
use Rattle.disk_core.specs.Disk.{DiskState, IsSettled, written, Torn}
use Rattle.disk_core.specs.PastLaws.{torn_written}
use Rattle.disk_core.proofs.RunLaws.{reported, leaves, leaves_on}
use Rattle.journal_core.specs.Layout.{magic}
use Rattle.journal_core.specs.File.{big_endian, header, HasHeader, base_of, inside_of, Fits, listed, written_list, HoldsAt}
use Rattle.journal_core.specs.Journal.{room_for, told}
use Rattle.journal_core.specs.Steps.{WritesDurably}
use Rattle.journal_core.specs.Turn.{other_side, HoldsOne, turned, IsTooLong, HasTurnCause, SurvivesTurn, Turns}
use Rattle.std.specs.Result.{IsErrAnd, IsErrOf}
use Rattle.base_core.specs.Causes.{Rose}
use Rattle.journal_core.specs.declared.journal.CommitFault.{CommitFault}
use Rattle.journal_core.specs.declared.journal.CommitFault.TheVariants.{Full, DiskFault}
use Rattle.journal_core.specs.declared.layout.Format.{Format}
use Rattle.journal_core.specs.declared.layout.Format.TheVariants.{Second}
use Rattle.journal_core.specs.declared.records.Record.{Record}
use Rattle.journal_core.proofs.Fields.{length-big_endian}
use Rattle.journal_core.proofs.Headers.{length-header}
use Rattle.journal_core.proofs.Lists.{written_after, torn_byte}
use Rattle.journal_core.proofs.Parts.{parts_of, taken, torn_after, header_kept}
use Rattle.journal_core.proofs.Results.{some_same}
use Rattle.journal_core.proofs.Written.{length-listed}

-- a side is one of two
sides : (n : ℕ) → n % 2 < 2
sides n = omega arith

pub one_side : (file : List ℕ) (area side : ℕ) → HasHeader file area side → side < 2
one_side file area side has = omega (arith, has.side_is, sides has.side_byte)

-- the same list in a file with the same header and the same area
pub holds_kept : (format : Format) (file image : List ℕ) (area side : ℕ) (rs : List Record) → take 32 image ≡ take 32 file → inside_of image area side ≡ inside_of file area side
    → HoldsAt format file area side rs → HoldsAt format image area side rs
holds_kept format file image area side rs same inside holds = record {
  has = header_kept file image area side same holds.has;
  fits = holds.fits;
  gate = holds.gate;
  rest = holds.rest;
  is = inside ∙ holds.is;
  shut = holds.shut;
}

-- a file with a header has 32 bytes
pub long_enough : (file : List ℕ) (area side : ℕ) → HasHeader file area side → 32 ≤ length file
long_enough file area side has = omega (arith, ap length has.prefix, length-header area has.side_byte, length-take 32 file)

-- whatever a crash makes of the other area, the list of this one stays
pub torn_other : (format : Format) (file image : List ℕ) (area side n : ℕ) (rs : List Record) → HoldsAt format file area side rs → n ≤ area → Torn (base_of area (other_side side)) n file image → HoldsAt format image area side rs
torn_other format file image area side n rs holds within torn =
    let either = one_side file area side holds.has in
    elim (cases_eq side 0) [
      | inl zero ↦
          let parts = parts_of format file area side rs holds in
          torn_after format file area side rs parts (base_of area (other_side side)) n image (first zero parts.room) torn
      | inr some ↦ second (omega (arith, either, some))
    ]
  where
    first : side ≡ 0 → length (listed format rs) + 1 ≤ area → base_of area side + length (listed format rs) + 1 ≤ base_of area (other_side side)
    first zero room =
        let at : base_of area side ≡ 32 = ap (λ (s : ℕ). base_of area s) zero ∙ omega arith in
        let other : base_of area (other_side side) ≡ 32 + area = ap (λ (s : ℕ). base_of area (other_side s)) zero ∙ omega arith in
        omega (arith, at, other, room)

    second : side ≡ 1 → HoldsAt format image area side rs
    second one =
        let at : base_of area side ≡ 32 + area = ap (λ (s : ℕ). base_of area s) one ∙ omega arith in
        let other : base_of area (other_side side) ≡ 32 = ap (λ (s : ℕ). base_of area (other_side s)) one ∙ omega arith in
        let here : Torn 32 n file image = subst (λ (p : ℕ). Torn p n file image) other torn in
        let long = long_enough file area side holds.has in
        let least : 32 ≡ min 32 (length file) = omega (arith, long) in
        let same : take 32 image ≡ take 32 file = ap (λ (k : ℕ). take k image) least ∙ here.before in
        let sum : (32 + n) + (area - n) ≡ base_of area side = omega (arith, at, within) in
        let rest : (xs : List ℕ) → drop (base_of area side) xs ≡ drop (area - n) (drop (32 + n) xs) = λ xs. ap (λ (k : ℕ). drop k xs) (sym sum) ∙ sym (drop-drop (area - n) (32 + n) xs) in
        holds_kept format file image area side rs same
        (ap (λ (l : List ℕ). take area l) (rest image ∙ ap (λ (l : List ℕ). drop (area - n) l) here.after ∙ sym (rest file))) holds

-- what follows the place of a piece
pub drop_written : (place : ℕ) (piece file : List ℕ) → drop place (written place piece file) ≡ piece ++ drop (place + length piece) file
drop_written place piece file =
    let gap : List ℕ = replicate (place - length file) 0 in
    let rest : List ℕ = piece ++ drop (place + length piece) file in
    ap (λ (l : List ℕ). drop place l) (sym (append_assoc (take place file) gap rest))
    ∙ drop_at (take place file ++ gap) rest place (omega (arith, length-append (take place file) gap, length-take place file, length-replicate {A = ℕ} (place - length file) 0))

pub length-written_list : (rs : List Record) → length (written_list rs) ≡ 2 + room_for rs
length-written_list rs = omega (arith, length-append (listed Second rs) (0 ∷ []), length-listed rs)

module _ (format : Format) (file : List ℕ) (area side : ℕ) (kept more : List Record) (holds : HoldsAt format file area side kept)
    (fits : 2 + room_for more ≤ area) (numbered : All (Fits Second) more) where
  abbrev other : ℕ
  other = other_side side

  abbrev place : ℕ
  place = base_of area other

  -- the file with the other area written
  abbrev pub rewritten : List ℕ
  rewritten = written place (written_list more) file

  -- while it is written
  pub torn_area : (image : List ℕ) → Torn place (length (written_list more)) file image → HoldsAt format image area side kept
  torn_area image torn = torn_other format file image area side (length (written_list more)) kept holds (omega (arith, fits, length-written_list more)) torn

  still : HoldsAt format rewritten area side kept
  still = torn_area rewritten (torn_written place (written_list more) file)

  -- the new list is in the other area
  inside_other : inside_of rewritten area other ≡ listed Second more ++ 0 ∷ take (area - length (written_list more)) (drop (place + length (written_list more)) file)
  inside_other =
      ap (λ (l : List ℕ). take area l) (drop_written place (written_list more) file)
      ∙ taken (written_list more) (drop (place + length (written_list more)) file) area (omega (arith, fits, length-written_list more))
      ∙ append_assoc (listed Second more) (0 ∷ []) (take (area - length (written_list more)) (drop (place + length (written_list more)) file))

  -- the header in its parts
  lead : List ℕ
  lead = magic ++ big_endian area

  tail : List ℕ
  tail = replicate 15 0 ++ drop 32 rewritten

  rewritten_is : rewritten ≡ lead ++ still.has.side_byte ∷ tail
  unfolding lead tail
  rewritten_is =
      sym (take-append-drop 32 rewritten) ∙ ap (λ (l : List ℕ). l ++ drop 32 rewritten) still.has.prefix
      ∙ ap (λ (l : List ℕ). l ++ drop 32 rewritten) (sym (append_assoc magic (big_endian area) (still.has.side_byte ∷ replicate 15 0)))
      ∙ append_assoc (magic ++ big_endian area) (still.has.side_byte ∷ replicate 15 0) (drop 32 rewritten)

  length-lead : length lead ≡ 16
  unfolding lead
  length-lead = omega (arith, length-append magic (big_endian area), length-big_endian area)

  -- the file with any side byte
  sided : ℕ → List ℕ
  sided byte = lead ++ byte ∷ tail

  sided_header : (byte : ℕ) → sided byte ≡ header area byte ++ drop 32 rewritten
  unfolding sided lead tail
  sided_header byte =
      sym (append_assoc (magic ++ big_endian area) (byte ∷ replicate 15 0) (drop 32 rewritten))
      ∙ ap (λ (l : List ℕ). l ++ drop 32 rewritten) (append_assoc magic (big_endian area) (byte ∷ replicate 15 0))

  sided_prefix : (byte : ℕ) → take 32 (sided byte) ≡ header area byte
  sided_prefix byte = ap (λ (l : List ℕ). take 32 l) (sided_header byte) ∙ take_at (header area byte) (drop 32 rewritten) 32 (length-header area byte)

  sided_rest : (byte : ℕ) → drop 32 (sided byte) ≡ drop 32 rewritten
  sided_rest byte = ap (λ (l : List ℕ). drop 32 l) (sided_header byte) ∙ drop_at (header area byte) (drop 32 rewritten) 32 (length-header area byte)

  sided_inside : (byte s : ℕ) → inside_of (sided byte) area s ≡ inside_of rewritten area s
  sided_inside byte s =
      ap (λ (l : List ℕ). take area l)
      (sym (drop-drop (s * area) 32 (sided byte)) ∙ ap (λ (l : List ℕ). drop (s * area) l) (sided_rest byte) ∙ drop-drop (s * area) 32 rewritten)

  -- by its side byte it holds the one list or the other
  sided_holds : (byte : ℕ) → HoldsOne format area side kept more (sided byte)
  sided_holds byte = elim (cases_eq (byte % 2) side) [
    | inl same ↦ inl (record {
      has = record { least = holds.has.least; most = holds.has.most; side_byte = byte; side_is = sym same; prefix = sided_prefix byte };
      fits = still.fits;
      gate = still.gate;
      rest = still.rest;
      is = sided_inside byte side ∙ still.is;
      shut = still.shut;
    })
    | inr differs ↦ inr (held byte (turns byte differs))
  ]
    where
      turns : (byte : ℕ) → byte % 2 ≢ side → other ≡ byte % 2
      turns byte differs = omega (arith, differs, one_side file area side holds.has, sides byte)

      held : (byte : ℕ) → other ≡ byte % 2 → HoldsAt Second (sided byte) area other more
      held byte is = record {
        has = record { least = holds.has.least; most = holds.has.most; side_byte = byte; side_is = is; prefix = sided_prefix byte };
        fits = numbered;
        gate = 0;
        rest = take (area - length (written_list more)) (drop (place + length (written_list more)) file);
        is = sided_inside byte other ∙ inside_other;
        shut = λ is. absurd (omega (arith, is));
      }

  -- while the side is turned
  pub torn_side : (image : List ℕ) → Torn 16 1 rewritten image → HoldsOne format area side kept more image
  unfolding sided
  torn_side image torn =
      let one = torn_byte lead tail image still.has.side_byte 16 length-lead (subst (λ (f : List ℕ). Torn 16 1 f image) rewritten_is torn) in
      subst (HoldsOne format area side kept more) (sym one.1) (sided_holds one.0)

  -- after it was turned
  turned_is : turned area side more file ≡ sided other
  unfolding sided
  turned_is = ap (λ (f : List ℕ). written 16 (other ∷ []) f) rewritten_is ∙ written_after lead (still.has.side_byte ∷ tail) (other ∷ []) 16 length-lead

  pub turned_holds : HoldsAt Second (turned area side more file) area other more
  turned_holds = subst (λ (f : List ℕ). HoldsAt Second f area other more) (sym turned_is) (record {
    has = record { least = holds.has.least; most = holds.has.most; side_byte = other; side_is = omega (arith, one_side file area side holds.has); prefix = sided_prefix other };
    fits = numbered;
    gate = 0;
    rest = take (area - length (written_list more)) (drop (place + length (written_list more)) file);
    is = sided_inside other other ∙ inside_other;
    shut = λ is. absurd (omega (arith, is));
  })

-- nothing was done
pub turn_idle : (format : Format) (state : DiskState) (area side : ℕ) (more : List Record) → SurvivesTurn format state state area side more
turn_idle format state area side more = λ last now kept keeps. record {
  later = omega arith;
  same = λ moment image le. ((λ left. left), (λ left. left));
  each = λ moment image from to left.
      let here : moment ≡ state.moment = omega arith in
      let is = keeps.settled last now image (subst (λ (m : ℕ). state.image_at m image) here left) in
      inl (subst (λ (f : List ℕ). HoldsAt format f area side kept) (sym is) (keeps.holds last now));
}

module _ (format : Format) (old : DiskState) (area side : ℕ) (more : List Record) (fits : 2 + room_for more ≤ area) (numbered : All (Fits Second) more) where
  -- the other area was written, or a part of it
  pub turn_writing : {T E : Type 0} (new : DiskState) (result : Result T E) → WritesDurably old new (base_of area (other_side side)) (written_list more) result → SurvivesTurn format old new area side more
  turn_writing new result writes = λ last now kept keeps.
      let later = writes.writes.crash last now in
      let file = reported old.content later.0 in
      leaves old new (Torn (base_of area (other_side side)) (length (written_list more))) (HoldsOne format area side kept more) file.0 (λ image left. keeps.settled file.0 file.1 image left)
      (λ image torn. inl (torn_area format file.0 area side kept more (keeps.holds file.0 file.1) fits numbered image torn)) later.1

  module _ (mid new : DiskState) (puts : ForSome old.content (λ file. mid.content ≡ Some (written (base_of area (other_side side)) (written_list more) file))) (settled : IsSettled mid) where
    -- the side was turned, or its byte torn
    pub turn_siding : {T E U F : Type 0} (result : Result T E) (ended : Result U F) → WritesDurably old mid (base_of area (other_side side)) (written_list more) result
        → WritesDurably mid new 16 (other_side side ∷ []) ended → SurvivesTurn format old new area side more
    turn_siding result ended writes turns = λ last now kept keeps.
        let later = turns.writes.crash last now in
        let between = reported mid.content later.0 in
        let before = writes.writes.crash between.0 between.1 in
        let file = reported old.content before.0 in
        let holds = keeps.holds file.0 file.1 in
        let there = puts file.0 file.1 in
        let first = turn_writing mid result writes between.0 between.1 kept keeps in
        let second = leaves mid new (Torn 16 1) (HoldsOne format area side kept more) _ (λ image left. settled _ there image left)
        (λ image torn. torn_side format file.0 area side kept more holds fits numbered image torn) later.1 in
        leaves_on old mid new (HoldsOne format area side kept more) first second

    pub turns_to : (ForSome new.content (λ _. IsSome mid.content × IsSome old.content)) → ForSome mid.content (λ file. new.content ≡ Some (written 16 (other_side side ∷ []) file)) → IsSettled new
        → Turns format old new area side more
    turns_to reports sided last_settled = record {
      keeps = λ kept keeps. record {
        holds = λ last now.
            let file = reported old.content (reports last now).1 in
            let done = sided _ (puts file.0 file.1) in
            subst (λ (f : List ℕ). HoldsAt Second f area (other_side side) more) (some_same new.content _ last done now)
            (turned_holds format file.0 area side kept more (keeps.holds file.0 file.1) fits numbered);
        settled = last_settled;
      };
      settled = last_settled;
      bytes = λ file is. sided _ (puts file is);
    }

-- the cause of a turn that failed
pub turn_by_disk : {T : Type 0} (old new : DiskState) (area : ℕ) (entries : List Record) (result : Result T CommitFault) → IsErrAnd result (λ fault. fault ≡ DiskFault) → (IsTooLong area entries → ⊥)
    → Rose old.faults new.faults → old.faults ≤ new.faults → old.moment ≤ new.moment → ForSome new.content (λ _. IsSome old.content) → HasTurnCause old new area entries result
turn_by_disk {T} old new area entries (Ok x) is fits rose count clock reports = absurd is
turn_by_disk {T} old new area entries (Err fault) is fits rose count clock reports = record {
  full = ((λ full. absurd (other fault is full)), (λ over. absurd (fits over)));
  others = inl is;
  disk_fault = λ disk. rose;
  count = count;
  clock = clock;
  reported = reports;
}
  where
    other : (fault : CommitFault) → fault ≡ DiskFault → IsErrOf {T = T} (Err fault) (Full 2 (told (room_for entries))) → ⊥
    other fault is full = absurd (cc)

-- the same without a result
pub not_full : (fault : CommitFault) (told_room : ℕ) → fault ≡ DiskFault → fault ≡ Full 2 told_room → ⊥
not_full fault told_room is full = absurd (cc)

-- if the side byte was written
pub turns_by : {T E : Type 0} (old : DiskState) (area side : ℕ) (more : List Record) (fits : 2 + room_for more ≤ area) (numbered : All (Fits Second) more) (mid new : DiskState)
    (puts : ForSome old.content (λ file. mid.content ≡ Some (written (base_of area (other_side side)) (written_list more) file))) (settled : IsSettled mid) (result : Result T E)
    → (ForSome new.content (λ _. IsSome mid.content × IsSome old.content)) → WritesDurably mid new 16 (other_side side ∷ []) result
    → OnOk result ((format : Format) → Turns format old new area side more)
turns_by old area side more fits numbered mid new puts settled (Ok x) reports writes = λ format. turns_to format old area side more fits numbered mid new puts settled reports writes.writes.puts writes.settled
turns_by old area side more fits numbered mid new puts settled (Err e) reports writes = tt

-- a turn that was done
pub turn_went : {T : Type 0} (old new : DiskState) (area : ℕ) (entries : List Record) (x : T) → 2 + room_for entries ≤ area → old.faults ≤ new.faults → old.moment ≤ new.moment
    → ForSome new.content (λ _. IsSome old.content) → HasTurnCause {T = T} old new area entries (Ok x)
turn_went {T} old new area entries x fits count clock reports = record {
  full = ((λ full. absurd (no_err full)), (λ over. absurd (omega (arith, over, fits))));
  others = tt;
  disk_fault = λ disk. absurd (no_err disk);
  count = count;
  clock = clock;
  reported = reports;
}
  where
    no_err : {e : CommitFault} → IsErrOf {T = T} (Ok x) e → ⊥
    no_err is = absurd (cc)
