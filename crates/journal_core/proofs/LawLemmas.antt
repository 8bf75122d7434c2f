-- Each file has one meaning.
use Rattle.std.proofs.Common.{◌≡◌, ◌≢◌, ◌⊎◌, inl, inr, ⊎_elim, ℕ, zero, suc, ◌+◌, ◌%◌, ◌^◌, ◌≤◌, ◌<◌, List, [], ◌∷◌, ◌++◌, length, get_or, take, drop, refl, sym, ◌∙◌, ap, subst, arith, append_assoc, length-append, take-append-drop}
use Rattle.std.proofs.lemmas.Bool.{cases_eq, cases_lt}
use Rattle.std.proofs.lemmas.List.{take_at}
use Rattle.std.proofs.lemmas.List.Elements.{All-nil, All-cons}
use Rattle.std.specs.List.{All, flat_map}
use Rattle.std.specs.Int.{w64, from_be_bytes}
use Rattle.journal_core.specs.Layout.{version_of}
use Rattle.journal_core.specs.File.{header, HasHeader, base_of, inside_of, no_stamp, content_of, Fits, opened, listed, LacksRecord, IsBroken, Meaning, holds, not_a_store, other_version, damaged, Means}
use Rattle.journal_core.specs.OneMeaning.{EachFileHasOneMeaning}
use Rattle.journal_core.specs.declared.layout.Format.{Format}
use Rattle.journal_core.specs.declared.layout.Format.TheVariants.{First, Second}
use Rattle.journal_core.specs.declared.records.Record.{Record}
use Rattle.journal_core.specs.declared.records.Stamp.{Stamp}
use Rattle.journal_core.proofs.Fields.{from_field, first_field, after_field}
use Rattle.journal_core.proofs.Meanings.{one_area, one_list, length-inside}
use Rattle.journal_core.proofs.Unique.{Ends, Follows, follows_on, closed_ends}
use Rattle.journal_core.proofs.Written.{first_parts, second_parts, length-content_of, record_same, stamp_same}

-- The meaning by what lies inside the area.
abbrev InArea : Format → List ℕ → ℕ → Meaning → Type 0
InArea format inside base (holds rs) = (gate : ℕ) × (rest : List ℕ) × (inside ≡ listed format rs ++ gate ∷ rest) × (gate ≢ 1) × All (Fits format) rs
InArea format inside base not_a_store = inside ≡ []
InArea format inside base (other_version byte) = (rest : List ℕ) × (inside ≡ byte ∷ rest) × (byte ≢ version_of format)
InArea format inside base (damaged place) = (rs : List Record) × (tail : List ℕ) × (inside ≡ listed format rs ++ tail) × IsBroken format rs tail × (place ≡ base + length (listed format rs)) × All (Fits format) rs

module _ (format : Format) (file : List ℕ) (area side : ℕ) (has : HasHeader file area side) where
  same_inside : (a s : ℕ) → HasHeader file a s → inside_of file a s ≡ inside_of file area side
  same_inside a s other =
      let same = one_area file a s area side other has in
      ap (λ (n : ℕ). inside_of file n s) same.0 ∙ ap (λ (n : ℕ). inside_of file area n) same.1

  same_base : (a s : ℕ) → HasHeader file a s → base_of a s ≡ base_of area side
  same_base a s other =
      let same = one_area file a s area side other has in
      ap (λ (n : ℕ). base_of n s) same.0 ∙ ap (λ (n : ℕ). base_of area n) same.1

  inner : (m : Meaning) → Means format file m → InArea format (inside_of file area side) (base_of area side) m
  inner (holds rs) means =
      let at = means.2 in (at.gate, at.rest, sym (same_inside means.0 means.1 at.has) ∙ at.is, at.shut, at.fits)
  inner not_a_store means = means area side has
  inner (other_version byte) means = (means.2, sym (same_inside means.0 means.1 means.3) ∙ means.4, means.5)
  inner (damaged place) means =
      (means.2, means.3, sym (same_inside means.0 means.1 means.4) ∙ means.6, means.7, means.8 ∙ ap (λ (n : ℕ). n + length (listed format means.2)) (same_base means.0 means.1 means.4), means.5)

  outer : (m : Meaning) → InArea format (inside_of file area side) (base_of area side) m → Means format file m
  outer (holds rs) at = (area, side, record { has = has; fits = at.4; gate = at.0; rest = at.1; is = at.2; shut = at.3 })
  outer not_a_store at = λ a s other. same_inside a s other ∙ at
  outer (other_version byte) at = (area, side, at.0, has, at.1, at.2)
  outer (damaged place) at = (area, side, at.0, at.1, has, at.5, at.2, at.3, at.4)

head_same : (a b : ℕ) (s t : List ℕ) → a ∷ s ≡ b ∷ t → a ≡ b
head_same a b s t e = cc

no_head : (a : ℕ) (s : List ℕ) → a ∷ s ≡ [] → ⊥
no_head a s e = cc

broken_ends : (format : Format) (rs : List Record) (tail : List ℕ) → IsBroken format rs tail → Ends format tail
broken_ends format rs tail (inl none) r gate rest fits is = no_head 1 _ (sym is ∙ none.1)
broken_ends format rs tail (inr suffix) r gate rest fits is = suffix.2 r gate rest fits (ap (λ (l : List ℕ). drop 1 l) (sym suffix.1 ∙ is))

broken_follows : (format : Format) (rs : List Record) (tail : List ℕ) → IsBroken format rs tail → Follows rs tail
broken_follows format [] tail broken = tt
broken_follows format (r ∷ rs) tail (inl none) = absurd (cons_nil r rs none.0)
  where
    cons_nil : (x : Record) (xs : List Record) → x ∷ xs ≡ [] → ⊥
    cons_nil x xs e = cc
broken_follows format (r ∷ rs) tail (inr suffix) = (1, suffix.0, suffix.1)

not_both : (format : Format) (rs : List Record) (tail : List ℕ) (gate : ℕ) (rest : List ℕ) → IsBroken format rs tail → gate ≢ 1 → gate ∷ rest ≡ tail → ⊥
not_both format rs tail gate rest (inl none) shut is = no_head gate rest (is ∙ none.1)
not_both format rs tail gate rest (inr suffix) shut is = shut (head_same gate 1 rest suffix.0 (is ∙ suffix.1))

module _ (format : Format) (file : List ℕ) (area side : ℕ) (most : area ≤ 268435456) where
  abbrev inside : List ℕ
  inside = inside_of file area side

  abbrev base : ℕ
  base = base_of area side

  first_one : (rs : List Record) (tail : List ℕ) (byte : ℕ) (rest : List ℕ) → inside ≡ listed format rs ++ tail → inside ≡ byte ∷ rest → byte ≢ version_of format → ⊥
  first_one rs tail byte rest is other shut = shut (head_same byte (version_of format) rest (flat_map (opened format) rs ++ tail) (sym other ∙ is))

  agree : (m n : Meaning) → InArea format inside base m → InArea format inside base n → m ≡ n
  agree (holds xs) (holds ys) a b =
      ap holds (one_list format file area side xs ys (a.0 ∷ a.1) (b.0 ∷ b.1) a.4 b.4 most a.2 b.2 (follows_on xs _ (a.0, a.1, refl)) (follows_on ys _ (b.0, b.1, refl)) (closed_ends format a.0 a.1 a.3) (closed_ends format b.0 b.1 b.3)).0
  agree (holds xs) not_a_store a b = absurd (no_head (version_of format) (flat_map (opened format) xs ++ a.0 ∷ a.1) (sym a.2 ∙ b))
  agree (holds xs) (other_version byte) a b = absurd (first_one xs (a.0 ∷ a.1) byte b.0 a.2 b.1 b.2)
  agree (holds xs) (damaged place) a b =
      absurd (not_both format b.0 b.1 a.0 a.1 b.3 a.3
      (one_list format file area side xs b.0 (a.0 ∷ a.1) b.1 a.4 b.5 most a.2 b.2 (follows_on xs _ (a.0, a.1, refl)) (broken_follows format b.0 b.1 b.3) (closed_ends format a.0 a.1 a.3) (broken_ends format b.0 b.1 b.3)).1)
  agree not_a_store (holds ys) a b = absurd (no_head (version_of format) (flat_map (opened format) ys ++ b.0 ∷ b.1) (sym b.2 ∙ a))
  agree not_a_store not_a_store a b = refl
  agree not_a_store (other_version byte) a b = absurd (no_head byte b.0 (sym b.1 ∙ a))
  agree not_a_store (damaged place) a b = absurd (no_head (version_of format) (flat_map (opened format) b.0 ++ b.1) (sym b.2 ∙ a))
  agree (other_version byte) (holds ys) a b = absurd (first_one ys (b.0 ∷ b.1) byte a.0 b.2 a.1 a.2)
  agree (other_version byte) not_a_store a b = absurd (no_head byte a.0 (sym a.1 ∙ b))
  agree (other_version byte) (other_version other) a b = ap other_version (head_same byte other a.0 b.0 (sym a.1 ∙ b.1))
  agree (other_version byte) (damaged place) a b = absurd (first_one b.0 b.1 byte a.0 b.2 a.1 a.2)
  agree (damaged place) (holds ys) a b =
      absurd (not_both format a.0 a.1 b.0 b.1 a.3 b.3
      (one_list format file area side ys a.0 (b.0 ∷ b.1) a.1 b.4 a.5 most b.2 a.2 (follows_on ys _ (b.0, b.1, refl)) (broken_follows format a.0 a.1 a.3) (closed_ends format b.0 b.1 b.3) (broken_ends format a.0 a.1 a.3)).1)
  agree (damaged place) not_a_store a b = absurd (no_head (version_of format) (flat_map (opened format) a.0 ++ a.1) (sym a.2 ∙ b))
  agree (damaged place) (other_version byte) a b = absurd (first_one a.0 a.1 byte b.0 a.2 b.1 b.2)
  agree (damaged place) (damaged other) a b =
      let same = one_list format file area side a.0 b.0 a.1 b.1 a.5 b.5 most a.2 b.2 (broken_follows format a.0 a.1 a.3) (broken_follows format b.0 b.1 b.3) (broken_ends format a.0 a.1 a.3) (broken_ends format b.0 b.1 b.3) in
      ap damaged (a.4 ∙ ap (λ (l : List Record). base + length (listed format l)) same.0 ∙ sym b.4)

-- a file has one meaning at most
with_header : (format : Format) (file : List ℕ) (area side : ℕ) → HasHeader file area side → (m n : Meaning) → Means format file m → Means format file n → m ≡ n
with_header format file area side has m n first second = agree format file area side has.most m n (inner format file area side has m first) (inner format file area side has n second)

pub one_meaning : (format : Format) (file : List ℕ) (m n : Meaning) → Means format file m → Means format file n → m ≡ n
one_meaning format file (holds xs) n first second = with_header format file first.0 first.1 first.2.has (holds xs) n first second
one_meaning format file (other_version byte) n first second = with_header format file first.0 first.1 first.3 (other_version byte) n first second
one_meaning format file (damaged place) n first second = with_header format file first.0 first.1 first.4 (damaged place) n first second
one_meaning format file not_a_store (holds ys) first second = with_header format file second.0 second.1 second.2.has not_a_store (holds ys) first second
one_meaning format file not_a_store (other_version byte) first second = with_header format file second.0 second.1 second.3 not_a_store (other_version byte) first second
one_meaning format file not_a_store (damaged place) first second = with_header format file second.0 second.1 second.4 not_a_store (damaged place) first second
one_meaning format file not_a_store not_a_store first second = refl

-- lists of numbers are equal or not
lists : (xs ys : List ℕ) → (xs ≡ ys) ⊎ (xs ≢ ys)
lists [] [] = inl refl
lists [] (y ∷ ys) = inr (λ e. cc)
lists (x ∷ xs) [] = inr (λ e. cc)
lists (x ∷ xs) (y ∷ ys) = elim (cases_eq x y) [
  | inl same ↦ ⊎_elim (λ rest. inl (ap (λ (n : ℕ). n ∷ xs) same ∙ ap (λ (l : List ℕ). y ∷ l) rest)) (λ other. inr (λ e. other (ap (λ (l : List ℕ). drop 1 l) e))) (lists xs ys)
  | inr other ↦ inr (λ e. other (head_same x y xs ys e))
]

-- what the first 32 bytes say, if they are a header
area_in : List ℕ → ℕ
area_in file = from_be_bytes w64 (take 8 (drop 8 (take 32 file)))

byte_in : List ℕ → ℕ
byte_in file = get_or (drop 16 (take 32 file)) 0 0

-- a file begins with a header or doesn't
header_found : (file : List ℕ) → ((area : ℕ) × (side : ℕ) × HasHeader file area side) ⊎ ((area side : ℕ) → HasHeader file area side → ⊥)
unfolding area_in byte_in
header_found file =
    let area : ℕ = area_in file in
    let byte : ℕ = byte_in file in
    let area_is : (a s : ℕ) → (has : HasHeader file a s) → area_in file ≡ a = λ a s has.
    ap (λ (l : List ℕ). from_be_bytes w64 (take 8 (drop 8 l))) has.prefix
    ∙ ap (from_be_bytes w64) (first_field a _) ∙ from_field a (omega (arith, has.most)) in
    let byte_is : (a s : ℕ) → (has : HasHeader file a s) → byte_in file ≡ has.side_byte = λ a s has.
    ap (λ (l : List ℕ). get_or (drop 16 l) 0 0) has.prefix ∙ ap (λ (l : List ℕ). get_or l 0 0) (after_field a _) in
    elim (lists (take 32 file) (header area byte)) [
      | inr other ↦ inr (λ a s has. other (has.prefix ∙ ap (λ (n : ℕ). header n has.side_byte) (sym (area_is a s has)) ∙ ap (λ (n : ℕ). header area n) (sym (byte_is a s has))))
      | inl same ↦ elim (cases_lt area 64) [
        | inl low ↦ inr (λ a s has. absurd (omega (arith, area_is a s has, low, has.least)))
        | inr least ↦ elim (cases_lt 268435456 area) [
          | inl high ↦ inr (λ a s has. absurd (omega (arith, area_is a s has, high, has.most)))
          | inr most ↦ inl (area, byte % 2, record { least = least; most = most; side_byte = byte; side_is = refl; prefix = same })
        ]
      ]
    ]

-- the record that bytes begin with, if they begin with one
decoded : Format → List ℕ → Record
decoded First suffix = record { stamp = no_stamp; body = take (from_be_bytes w64 (take 8 suffix)) (drop 8 suffix) }
decoded Second suffix = record {
  stamp = record { number = from_be_bytes w64 (take 8 (drop 8 suffix)); time = from_be_bytes w64 (take 8 (drop 8 (drop 8 suffix))) };
  body = take (from_be_bytes w64 (take 8 suffix)) (drop 8 (drop 8 (drop 8 suffix)));
}

decoded_is : (format : Format) (r : Record) (rest : List ℕ) → Fits format r → length r.body < 2 ^ 64 → decoded format (content_of format r ++ rest) ≡ r
unfolding decoded
decoded_is First r rest fits small =
    let n : ℕ = length r.body in
    let is = first_parts r rest in
    let number : from_be_bytes w64 (take 8 (content_of First r ++ rest)) ≡ n =
    ap (λ (l : List ℕ). from_be_bytes w64 (take 8 l)) is ∙ ap (from_be_bytes w64) (first_field n _) ∙ from_field n small in
    let body : take (from_be_bytes w64 (take 8 (content_of First r ++ rest))) (drop 8 (content_of First r ++ rest)) ≡ r.body =
    ap (λ (k : ℕ). take k (drop 8 (content_of First r ++ rest))) number ∙ ap (λ (l : List ℕ). take n l) (ap (λ (l : List ℕ). drop 8 l) is ∙ after_field n _) ∙ take_at r.body rest n refl in
    stamp_same (decoded First (content_of First r ++ rest)) r (sym fits) body
decoded_is Second r rest fits small =
    let n : ℕ = length r.body in
    let is = second_parts r rest in
    let once = ap (λ (l : List ℕ). drop 8 l) is ∙ after_field n _ in
    let twice = ap (λ (l : List ℕ). drop 8 l) once ∙ after_field r.stamp.number _ in
    let thrice = ap (λ (l : List ℕ). drop 8 l) twice ∙ after_field r.stamp.time _ in
    let long : from_be_bytes w64 (take 8 (content_of Second r ++ rest)) ≡ n =
    ap (λ (l : List ℕ). from_be_bytes w64 (take 8 l)) is ∙ ap (from_be_bytes w64) (first_field n _) ∙ from_field n small in
    let number = ap (λ (l : List ℕ). from_be_bytes w64 (take 8 l)) once ∙ ap (from_be_bytes w64) (first_field r.stamp.number _) ∙ from_field r.stamp.number (omega (arith, fits.0)) in
    let time = ap (λ (l : List ℕ). from_be_bytes w64 (take 8 l)) twice ∙ ap (from_be_bytes w64) (first_field r.stamp.time _) ∙ from_field r.stamp.time fits.1 in
    let body : take (from_be_bytes w64 (take 8 (content_of Second r ++ rest))) (drop 8 (drop 8 (drop 8 (content_of Second r ++ rest)))) ≡ r.body =
    ap (λ (k : ℕ). take k (drop 8 (drop 8 (drop 8 (content_of Second r ++ rest))))) long ∙ ap (λ (l : List ℕ). take n l) thrice ∙ take_at r.body _ n refl in
    record_same (decoded Second (content_of Second r ++ rest)) r number time body

-- a stamp fits a format or doesn't
fitting : (format : Format) (r : Record) → Fits format r ⊎ (Fits format r → ⊥)
fitting First r = elim (cases_eq r.stamp.number 0) [
  | inr other ↦ inr (λ fits. absurd (other (ap (λ (s : Stamp). s.number) fits)))
  | inl none ↦ elim (cases_eq r.stamp.time 0) [
    | inr other ↦ inr (λ fits. absurd (other (ap (λ (s : Stamp). s.time) fits)))
    | inl never ↦ inl (
        let made : ℕ → ℕ → Stamp = λ n t. record { number = n; time = t } in
        ap (λ (n : ℕ). made n r.stamp.time) none ∙ ap (λ (t : ℕ). made 0 t) never)
  ]
]
fitting Second r = elim (cases_lt 281474976710656 r.stamp.number) [
  | inl high ↦ inr (λ fits. absurd (omega (arith, high, fits.0)))
  | inr within ↦ elim (cases_lt r.stamp.time (2 ^ 64)) [
    | inl early ↦ inl (within, early)
    | inr late ↦ inr (λ fits. absurd (omega (arith, late, fits.1)))
  ]
]

-- a whole record with a next gate begins here, or none does
record_found : (format : Format) (suffix : List ℕ) → length suffix < 2 ^ 64
    → ((r : Record) × (gate : ℕ) × (rest : List ℕ) × Fits format r × (suffix ≡ content_of format r ++ gate ∷ rest)) ⊎ LacksRecord format suffix
record_found format suffix small =
    let r : Record = decoded format suffix in
    let n : ℕ = length (content_of format r) in
    let is_it : (other : Record) (gate : ℕ) (rest : List ℕ) → Fits format other → suffix ≡ content_of format other ++ gate ∷ rest → decoded format suffix ≡ other =
    λ other gate rest fits is.
    ap (decoded format) is ∙ decoded_is format other (gate ∷ rest) fits (omega (arith, small, ap length is, length-append (content_of format other) (gate ∷ rest), length-content_of format other)) in
    elim (fitting format r) [
      | inr unfit ↦ inr (λ other gate rest fits is. absurd (unfit (subst (Fits format) (sym (is_it other gate rest fits is)) fits)))
      | inl fit ↦ elim (lists (take n suffix) (content_of format r)) [
        | inr differs ↦ inr (λ other gate rest fits is.
            let same = is_it other gate rest fits is in
            let here : suffix ≡ content_of format r ++ gate ∷ rest = is ∙ ap (λ (x : Record). content_of format x ++ gate ∷ rest) (sym same) in
            absurd (differs (ap (λ (l : List ℕ). take n l) here ∙ take_at (content_of format r) (gate ∷ rest) n refl)))
        | inl same ↦ after fit (drop n suffix) (sym (take-append-drop n suffix) ∙ ap (λ (l : List ℕ). l ++ drop n suffix) same) is_it
      ]
    ]
  where
    after : Fits format (decoded format suffix) → (tail : List ℕ) → suffix ≡ content_of format (decoded format suffix) ++ tail
        → ((other : Record) (gate : ℕ) (rest : List ℕ) → Fits format other → suffix ≡ content_of format other ++ gate ∷ rest → decoded format suffix ≡ other)
        → ((r : Record) × (gate : ℕ) × (rest : List ℕ) × Fits format r × (suffix ≡ content_of format r ++ gate ∷ rest)) ⊎ LacksRecord format suffix
    after fit (gate ∷ rest) is is_it = inl (decoded format suffix, gate, rest, fit, is)
    after fit [] is is_it = inr (λ other gate rest fits also.
        let same = is_it other gate rest fits also in
        let one = ap length also ∙ length-append (content_of format other) (gate ∷ rest) in
        let two = ap length is ∙ length-append (content_of format (decoded format suffix)) [] ∙ ap (λ (x : Record). length (content_of format x) + 0) same in
        absurd (omega (arith, one, two)))

-- Some bytes are records, and then a gate that isn't open or what is broken.
abbrev Read : Format → List ℕ → Type 0
Read format rest = (rs : List Record) × (tail : List ℕ) × (rest ≡ flat_map (opened format) rs ++ tail) × All (Fits format) rs
    × (((gate : ℕ) × (more : List ℕ) × (tail ≡ gate ∷ more) × (gate ≢ 1)) ⊎ IsBroken format rs tail)

-- after a whole record
goes_on : (format : Format) (r : Record) (rest next : List ℕ) → Fits format r → rest ≡ opened format r ++ next → next ≢ [] → Read format next → Read format rest
goes_on format r rest next fit is some (rs, tail, read, fits, ends) = (
  r ∷ rs,
  tail,
  is ∙ ap (λ (l : List ℕ). opened format r ++ l) read ∙ sym (append_assoc (opened format r) (flat_map (opened format) rs) tail),
  All-cons (Fits format) r rs fit fits,
  elim ends [
    | inl closed ↦ inl closed
    | inr (inl none) ↦ absurd (some (read ∙ ap (λ (l : List Record). flat_map (opened format) l ++ tail) none.0 ∙ none.1))
    | inr (inr suffix) ↦ inr (inr suffix)
  ],
)

read_all : (format : Format) (fuel : ℕ) (rest : List ℕ) → length rest ≤ fuel → fuel < 2 ^ 64 → Read format rest
read_all format fuel [] fits small = ([], [], refl, All-nil (Fits format), inr (inl (refl, refl)))
read_all format zero (gate ∷ suffix) fits small = absurd (omega (arith, fits))
read_all format (suc fuel) (gate ∷ suffix) fits small = elim (cases_eq gate 1) [
  | inr shut ↦ ([], gate ∷ suffix, refl, All-nil (Fits format), inl (gate, suffix, refl, shut))
  | inl is_open ↦ elim (record_found format suffix (omega (arith, fits, small))) [
    | inr lacking ↦ ([], gate ∷ suffix, refl, All-nil (Fits format), inr (inr (suffix, ap (λ (g : ℕ). g ∷ suffix) is_open, lacking)))
    | inl found ↦
        let r = found.0 in
        let next : List ℕ = found.1 ∷ found.2 in
        let is : gate ∷ suffix ≡ opened format r ++ next = ap (λ (g : ℕ). g ∷ suffix) is_open ∙ ap (λ (l : List ℕ). 1 ∷ l) found.4 in
        goes_on format r (gate ∷ suffix) next found.3 is (λ none. absurd (no_head found.1 found.2 none))
        (read_all format fuel next (omega (arith, fits, ap length found.4, length-append (content_of format r) next)) (omega (arith, small)))
  ]
]

-- what lies inside an area has a meaning
area_read : (format : Format) (inside : List ℕ) (base : ℕ) → length inside < 2 ^ 64 → (m : Meaning) × InArea format inside base m
area_read format [] base small = (not_a_store, refl)
area_read format (version ∷ rest) base small = elim (cases_eq version (version_of format)) [
  | inr other ↦ (other_version version, (rest, refl, other))
  | inl is ↦ from_read is (read_all format (length rest) rest (omega arith) (omega (arith, small)))
]
  where
    from_read : version ≡ version_of format → Read format rest → (m : Meaning) × InArea format (version ∷ rest) base m
    from_read is (rs, tail, read, fits, inl closed) =
        (holds rs, (closed.0, closed.1, ap (λ (v : ℕ). v ∷ rest) is ∙ ap (λ (l : List ℕ). version_of format ∷ l) (read ∙ ap (λ (l : List ℕ). flat_map (opened format) rs ++ l) closed.2), closed.3, fits))
    from_read is (rs, tail, read, fits, inr broken) =
        (damaged (base + length (listed format rs)), (rs, tail, ap (λ (v : ℕ). v ∷ rest) is ∙ ap (λ (l : List ℕ). version_of format ∷ l) read, broken, refl, fits))

pub each_file : EachFileHasOneMeaning
each_file format file = elim (header_found file) [
  | inr none ↦ (not_a_store, (λ area side has. absurd (none area side has)), λ other means. one_meaning format file other not_a_store means (λ area side has. absurd (none area side has)))
  | inl found ↦
      let area = found.0 in
      let side = found.1 in
      let read = area_read format (inside_of file area side) (base_of area side) (omega (arith, length-inside file area side, found.2.most)) in
      let means = outer format file area side found.2 read.0 read.1 in
      (read.0, means, λ other also. one_meaning format file other read.0 also means)
]
