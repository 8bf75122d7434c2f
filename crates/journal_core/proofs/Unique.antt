-- Bytes are read as records in one way.
use Rattle.std.proofs.Common.{◌≡◌, ◌≢◌, ℕ, ◌^◌, ◌<◌, List, [], ◌∷◌, ◌++◌, length, refl, sym, ◌∙◌, ap, arith, append_assoc, length-append}
use Rattle.std.specs.List.{All, AllByRecursion, flat_map}
use Rattle.std.proofs.lemmas.List.Elements.{recursion_from_All}
use Rattle.journal_core.specs.File.{content_of, Fits, opened}
use Rattle.journal_core.specs.declared.layout.Format.{Format}
use Rattle.journal_core.specs.declared.records.Record.{Record}
use Rattle.journal_core.proofs.Written.{length-content_of, opened_same}

-- no whole record with a next gate begins here
abbrev pub Ends : Format → List ℕ → Type 0
Ends format tail = (r : Record) (gate : ℕ) (rest : List ℕ) → Fits format r → tail ≢ opened format r ++ gate ∷ rest

-- after a record something stands
abbrev pub Follows : List Record → List ℕ → Type 0
Follows [] tail = Unit {0}
Follows (r ∷ rs) tail = (gate : ℕ) × (rest : List ℕ) × (tail ≡ gate ∷ rest)

-- so does it after the first record
begins : (format : Format) (rs : List Record) (tail : List ℕ) → (gate : ℕ) × (rest : List ℕ) × (tail ≡ gate ∷ rest)
    → (gate : ℕ) × (rest : List ℕ) × (flat_map (opened format) rs ++ tail ≡ gate ∷ rest)
begins format [] tail is = is
begins format (r ∷ rs) tail is = (1, (content_of format r ++ flat_map (opened format) rs) ++ tail, refl)

pub follows_on : (rs : List Record) (tail : List ℕ) → (gate : ℕ) × (rest : List ℕ) × (tail ≡ gate ∷ rest) → Follows rs tail
follows_on [] tail is = tt
follows_on (r ∷ rs) tail is = is

first_fits : (format : Format) (r : Record) (rs : List Record) (tail : List ℕ) → length (flat_map (opened format) (r ∷ rs) ++ tail) < 2 ^ 64 → length r.body < 2 ^ 64
first_fits format r rs tail small =
    omega (arith, length-append (opened format r ++ flat_map (opened format) rs) tail, length-append (opened format r) (flat_map (opened format) rs), length-content_of format r)

rest_fits : (format : Format) (r : Record) (rs : List Record) (tail : List ℕ) → length (flat_map (opened format) (r ∷ rs) ++ tail) < 2 ^ 64 → length (flat_map (opened format) rs ++ tail) < 2 ^ 64
rest_fits format r rs tail small =
    omega (arith, length-append (opened format r ++ flat_map (opened format) rs) tail, length-append (opened format r) (flat_map (opened format) rs), length-append (flat_map (opened format) rs) tail)

never : (format : Format) (r : Record) (rs : List Record) (tail other : List ℕ) → Fits format r → Follows (r ∷ rs) tail → Ends format other → other ≡ flat_map (opened format) (r ∷ rs) ++ tail → ⊥
never format r rs tail other fits follows ends is =
    let next = begins format rs tail follows in
    ends r next.0 next.1 fits (is ∙ append_assoc (opened format r) (flat_map (opened format) rs) tail ∙ ap (λ (l : List ℕ). opened format r ++ l) next.2)

same_records : (format : Format) (xs ys : List Record) (x y : List ℕ) → AllByRecursion (Fits format) xs → AllByRecursion (Fits format) ys
    → length (flat_map (opened format) xs ++ x) < 2 ^ 64 → length (flat_map (opened format) ys ++ y) < 2 ^ 64
    → Follows xs x → Follows ys y → Ends format x → Ends format y → flat_map (opened format) xs ++ x ≡ flat_map (opened format) ys ++ y → (xs ≡ ys) × (x ≡ y)
same_records format [] [] x y fits also small below fx fy ex ey is = (refl, is)
same_records format [] (b ∷ ys) x y fits also small below fx fy ex ey is = absurd (never format b ys y x also.0 fy ex is)
same_records format (a ∷ xs) [] x y fits also small below fx fy ex ey is = absurd (never format a xs x y fits.0 fx ey (sym is))
same_records format (a ∷ xs) (b ∷ ys) x y fits also small below fx fy ex ey is =
    let step = opened_same format a b (flat_map (opened format) xs ++ x) (flat_map (opened format) ys ++ y) fits.0 also.0 (first_fits format a xs x small) (first_fits format b ys y below)
    (sym (append_assoc (opened format a) (flat_map (opened format) xs) x) ∙ is ∙ append_assoc (opened format b) (flat_map (opened format) ys) y) in
    let rest = same_records format xs ys x y fits.1 also.1 (rest_fits format a xs x small) (rest_fits format b ys y below) (follows_on xs x fx) (follows_on ys y fy) ex ey step.1 in
    (ap (λ (h : Record). h ∷ xs) step.0 ∙ ap (λ (t : List Record). b ∷ t) rest.0, rest.1)

pub records_same : (format : Format) (xs ys : List Record) (x y : List ℕ) → All (Fits format) xs → All (Fits format) ys
    → length (flat_map (opened format) xs ++ x) < 2 ^ 64 → length (flat_map (opened format) ys ++ y) < 2 ^ 64
    → Follows xs x → Follows ys y → Ends format x → Ends format y → flat_map (opened format) xs ++ x ≡ flat_map (opened format) ys ++ y → (xs ≡ ys) × (x ≡ y)
records_same format xs ys x y fits also = same_records format xs ys x y (recursion_from_All (Fits format) xs fits) (recursion_from_All (Fits format) ys also)

-- bytes that begin with another byte than 1
pub closed_ends : (format : Format) (gate : ℕ) (rest : List ℕ) → gate ≢ 1 → Ends format (gate ∷ rest)
closed_ends format gate rest shut r next more fits is = shut (head_same gate 1 rest (content_of format r ++ next ∷ more) is)
  where
    head_same : (a b : ℕ) (s t : List ℕ) → a ∷ s ≡ b ∷ t → a ≡ b
    head_same a b s t e = cc
