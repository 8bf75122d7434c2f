-- A file that holds records, in its parts, and what a crash makes of it while records are added.
use Rattle.std.proofs.Common.{◌≡◌, ◌≢◌, ◌⊎◌, inl, inr, ℕ, ◌+◌, ◌-◌, ◌≤◌, min, List, [], ◌∷◌, ◌++◌, length, take, drop, sym, ◌∙◌, ap, subst, arith, append_assoc, length-append, length-take, length-drop, take-append-drop}
use Rattle.std.proofs.lemmas.Bool.{cases_eq}
use Rattle.std.proofs.lemmas.List.{drop_at, take-append-le}
use Rattle.std.proofs.Math.Seq.{take-append-add}
use Rattle.std.specs.List.{All, flat_map}
use Rattle.disk_core.specs.Disk.{written, Torn}
use Rattle.journal_core.specs.File.{HasHeader, base_of, inside_of, Fits, opened, staged_records, listed, HoldsAt}
use Rattle.journal_core.specs.Journal.{room_for}
use Rattle.journal_core.specs.declared.layout.Format.{Format}
use Rattle.journal_core.specs.declared.layout.Format.TheVariants.{Second}
use Rattle.journal_core.specs.declared.records.Record.{Record}
use Rattle.journal_core.proofs.Lists.{written_after, torn_keeps_prefix, torn_byte}
use Rattle.journal_core.proofs.Written.{listed_more, length-listed, room_more, staged_opened}

-- The file is what is before the area, the records, a gate that isn't open, and what lies after it.
pub record Parts (format : Format) (file : List ℕ) (area side : ℕ) (rs : List Record) : Type 0 where
  pub has : HasHeader file area side
  pub fits : All (Fits format) rs
  pub prefix : List ℕ
  pub gate : ℕ
  pub tail : List ℕ
  pub is : file ≡ prefix ++ (listed format rs ++ gate ∷ tail)
  pub long : length prefix ≡ base_of area side
  pub room : length (listed format rs) + 1 ≤ area
  pub shut : gate ≢ 1

pub parts_of : (format : Format) (file : List ℕ) (area side : ℕ) (rs : List Record) → HoldsAt format file area side rs → Parts format file area side rs
parts_of format file area side rs holds =
    let base : ℕ = base_of area side in
    let area_is : List ℕ = inside_of file area side in
    let size : length (take area (drop base file)) ≡ length (listed format rs) + (1 + length holds.rest) =
    ap length holds.is ∙ omega (arith, length-append (listed format rs) (holds.gate ∷ holds.rest)) in
    let fits : length (take area (drop base file)) ≡ min area (length file - base) = length-take area (drop base file) ∙ ap (λ (n : ℕ). min area n) (length-drop base file) in
    let suffix : drop base file ≡ listed format rs ++ holds.gate ∷ (holds.rest ++ drop area (drop base file)) =
    sym (take-append-drop area (drop base file)) ∙ ap (λ (l : List ℕ). l ++ drop area (drop base file)) holds.is ∙ append_assoc (listed format rs) (holds.gate ∷ holds.rest) (drop area (drop base file)) in
    record {
      has = holds.has;
      fits = holds.fits;
      prefix = take base file;
      gate = holds.gate;
      tail = holds.rest ++ drop area (drop base file);
      is = sym (take-append-drop base file) ∙ ap (λ (l : List ℕ). take base file ++ l) suffix;
      long = length-take base file ∙ omega (arith, size, fits);
      room = omega (arith, size, fits);
      shut = holds.shut;
    }

pub taken : (xs ys : List ℕ) (n : ℕ) → length xs ≤ n → take n (xs ++ ys) ≡ xs ++ take (n - length xs) ys
taken xs ys n le =
    let whole : length xs + (n - length xs) ≡ n = omega arith in
    ap (λ (k : ℕ). take k (xs ++ ys)) (sym whole) ∙ take-append-add xs ys (n - length xs)

pub holds_of : (format : Format) (file : List ℕ) (area side : ℕ) (rs : List Record) → Parts format file area side rs → HoldsAt format file area side rs
holds_of format file area side rs parts =
    let from : drop (base_of area side) file ≡ listed format rs ++ parts.gate ∷ parts.tail =
    ap (λ (l : List ℕ). drop (base_of area side) l) parts.is ∙ drop_at parts.prefix (listed format rs ++ parts.gate ∷ parts.tail) (base_of area side) parts.long in
    let first : List ℕ = listed format rs ++ parts.gate ∷ [] in
    let split : listed format rs ++ parts.gate ∷ parts.tail ≡ first ++ parts.tail = sym (append_assoc (listed format rs) (parts.gate ∷ []) parts.tail) in
    let size : length first ≡ length (listed format rs) + 1 = length-append (listed format rs) (parts.gate ∷ []) in
    let rest : ℕ = area - length first in
    record {
      has = parts.has;
      fits = parts.fits;
      gate = parts.gate;
      rest = take rest parts.tail;
      is = ap (λ (l : List ℕ). take area l) (from ∙ split) ∙ taken first parts.tail area (omega (arith, size, parts.room)) ∙ append_assoc (listed format rs) (parts.gate ∷ []) (take rest parts.tail);
      shut = parts.shut;
    }

-- a header is a matter of the first 32 bytes
pub header_kept : (old new : List ℕ) (area side : ℕ) → take 32 new ≡ take 32 old → HasHeader old area side → HasHeader new area side
header_kept old new area side same has = record { least = has.least; most = has.most; side_byte = has.side_byte; side_is = has.side_is; prefix = same ∙ has.prefix }

-- two files with one prefix of at least 32 bytes
pub prefixes_same : (prefix a b : List ℕ) → 32 ≤ length prefix → take 32 (prefix ++ a) ≡ take 32 (prefix ++ b)
prefixes_same prefix a b le = take-append-le 32 prefix a le ∙ sym (take-append-le 32 prefix b le)

module _ (format : Format) (file : List ℕ) (area side : ℕ) (rs : List Record) (parts : Parts format file area side rs) where
  -- another file with the same prefix that holds another list
  pub other : (new : List ℕ) (more : List Record) (gate : ℕ) (tail : List ℕ) → All (Fits format) more → new ≡ parts.prefix ++ (listed format more ++ gate ∷ tail)
      → length (listed format more) + 1 ≤ area → gate ≢ 1 → Parts format new area side more
  other new more gate tail fits is room shut = record {
    has = header_kept file new area side
        (ap (λ (l : List ℕ). take 32 l) is ∙ prefixes_same parts.prefix (listed format more ++ gate ∷ tail) (listed format rs ++ parts.gate ∷ parts.tail) (omega (arith, parts.long)) ∙ sym (ap (λ (l : List ℕ). take 32 l) parts.is))
        parts.has;
    fits = fits;
    prefix = parts.prefix;
    gate = gate;
    tail = tail;
    is = is;
    long = parts.long;
    room = room;
    shut = shut;
  }

  -- up to and with the gate
  abbrev pub closed : List ℕ
  closed = parts.prefix ++ (listed format rs ++ parts.gate ∷ [])

  pub closed_is : (tail : List ℕ) → parts.prefix ++ (listed format rs ++ parts.gate ∷ tail) ≡ closed ++ tail
  closed_is tail = ap (λ (l : List ℕ). parts.prefix ++ l) (sym (append_assoc (listed format rs) (parts.gate ∷ []) tail)) ∙ sym (append_assoc parts.prefix (listed format rs ++ parts.gate ∷ []) tail)

  abbrev pub gate_at : ℕ
  gate_at = base_of area side + length (listed format rs)

  pub length-closed : length closed ≡ gate_at + 1
  length-closed = omega (arith, length-append parts.prefix (listed format rs ++ parts.gate ∷ []), length-append (listed format rs) (parts.gate ∷ []), parts.long)

  -- whatever follows the closed gate
  pub followed : (image tail : List ℕ) → image ≡ closed ++ tail → HoldsAt format image area side rs
  followed image tail is = holds_of format image area side rs (other image rs parts.gate tail parts.fits (is ∙ sym (closed_is tail)) parts.room parts.shut)

  -- whatever a crash makes of what lies after the closed gate
  pub torn_after : (place n : ℕ) (image : List ℕ) → gate_at + 1 ≤ place → Torn place n file image → HoldsAt format image area side rs
  torn_after place n image after torn =
      let at : Torn place n (closed ++ parts.tail) image = subst (λ (f : List ℕ). Torn place n f image) (parts.is ∙ closed_is parts.tail) torn in
      followed image (drop (length closed) image) (torn_keeps_prefix closed parts.tail image place n (omega (arith, length-closed, after)) at)

module _ (file : List ℕ) (area side : ℕ) (rs : List Record) (parts : Parts Second file area side rs) (more : List Record) (some : more ≢ []) (also : All (Fits Second) (rs ++ more)) where
  abbrev at : ℕ
  at = gate_at Second file area side rs parts

  -- the file with records staged after the closed gate
  abbrev pub with_staged : List ℕ → List ℕ
  with_staged tail = parts.prefix ++ (listed Second rs ++ parts.gate ∷ (staged_records more ++ tail))

  pub staged_is : written (at + 1) (staged_records more) file ≡ with_staged (drop (length (staged_records more)) parts.tail)
  staged_is =
      let suffix : List ℕ = drop (length (staged_records more)) parts.tail in
      ap (λ (f : List ℕ). written (at + 1) (staged_records more) f) (parts.is ∙ closed_is Second file area side rs parts parts.tail)
      ∙ written_after (closed Second file area side rs parts) parts.tail (staged_records more) (at + 1) (length-closed Second file area side rs parts)
      ∙ sym (closed_is Second file area side rs parts (staged_records more ++ suffix))

  -- the staged file with any gate
  abbrev pub gated : List ℕ → ℕ → List ℕ
  gated tail gate = (parts.prefix ++ listed Second rs) ++ gate ∷ (staged_records more ++ tail)

  pub staged_gated : (tail : List ℕ) → with_staged tail ≡ gated tail parts.gate
  staged_gated tail = sym (append_assoc parts.prefix (listed Second rs) (parts.gate ∷ (staged_records more ++ tail)))

  length-before : length (parts.prefix ++ listed Second rs) ≡ at
  length-before = omega (arith, length-append parts.prefix (listed Second rs), parts.long)

  -- with its gate open it holds the records too
  pub gated_open : (tail : List ℕ) → length (listed Second rs) + (room_for more + 1) ≤ area → HoldsAt Second (gated tail 1) area side (rs ++ more)
  gated_open tail fits =
      let opens : 1 ∷ (staged_records more ++ tail) ≡ flat_map (opened Second) more ++ 0 ∷ tail =
      ap (λ (l : List ℕ). l ++ tail) (staged_opened more some) ∙ append_assoc (flat_map (opened Second) more) (0 ∷ []) tail in
      let all : gated tail 1 ≡ parts.prefix ++ (listed Second (rs ++ more) ++ 0 ∷ tail) =
      append_assoc parts.prefix (listed Second rs) (1 ∷ (staged_records more ++ tail))
      ∙ ap (λ (l : List ℕ). parts.prefix ++ (listed Second rs ++ l)) opens
      ∙ ap (λ (l : List ℕ). parts.prefix ++ l) (sym (append_assoc (listed Second rs) (flat_map (opened Second) more) (0 ∷ tail)))
      ∙ ap (λ (l : List ℕ). parts.prefix ++ (l ++ 0 ∷ tail)) (sym (listed_more Second rs more)) in
      holds_of Second (gated tail 1) area side (rs ++ more)
      (other Second file area side rs parts (gated tail 1) (rs ++ more) 0 tail also all
      (omega (arith, length-listed (rs ++ more), length-listed rs, room_more rs more, fits)) (λ is. absurd (omega (arith, is))))

  -- with its gate not open it holds what it held
  pub gated_shut : (tail : List ℕ) (gate : ℕ) → gate ≢ 1 → HoldsAt Second (gated tail gate) area side rs
  gated_shut tail gate shut =
      holds_of Second (gated tail gate) area side rs
      (other Second file area side rs parts (gated tail gate) rs gate (staged_records more ++ tail) parts.fits (append_assoc parts.prefix (listed Second rs) (gate ∷ (staged_records more ++ tail))) parts.room shut)

  -- whatever a crash makes of the gate, the list has all of the records or none
  pub torn_gate : (tail image : List ℕ) → length (listed Second rs) + (room_for more + 1) ≤ area → Torn at 1 (with_staged tail) image
      → HoldsAt Second image area side rs ⊎ HoldsAt Second image area side (rs ++ more)
  torn_gate tail image fits torn =
      let one = torn_byte (parts.prefix ++ listed Second rs) (staged_records more ++ tail) image parts.gate at length-before
      (subst (λ (f : List ℕ). Torn at 1 f image) (staged_gated tail) torn) in
      elim (cases_eq one.0 1) [
        | inl is_open ↦ inr (subst (λ (f : List ℕ). HoldsAt Second f area side (rs ++ more)) (sym (one.1 ∙ ap (λ (g : ℕ). gated tail g) is_open)) (gated_open tail fits))
        | inr is_shut ↦ inl (subst (λ (f : List ℕ). HoldsAt Second f area side rs) (sym one.1) (gated_shut tail one.0 is_shut))
      ]

  -- the gate is opened
  pub written_gate : (tail : List ℕ) → written at (1 ∷ []) (with_staged tail) ≡ gated tail 1
  written_gate tail =
      ap (λ (f : List ℕ). written at (1 ∷ []) f) (staged_gated tail)
      ∙ written_after (parts.prefix ++ listed Second rs) (parts.gate ∷ (staged_records more ++ tail)) (1 ∷ []) at length-before
