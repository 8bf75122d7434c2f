-- What is read of an area, one part after another.
use Rattle.std.proofs.Common.{◌≡◌, ◌≢◌, ℕ, ◌+◌, ◌-◌, ◌^◌, ◌≤◌, ◌<◌, Bool, true, false, nat_eq, Option, Some, None, get_or, List, [], ◌∷◌, ◌++◌, length, take, drop, refl, sym, ◌∙◌, ap, subst, arith, append_assoc, length-append, length-take, length-drop, take-append-drop}
use Rattle.std.proofs.lemmas.Bool.Decides.{nat_tests}
use Rattle.std.proofs.lemmas.List.{drop_at, drop-take, drop-drop, take-take, take_all}
use Rattle.sha2.specs.Sha256.{sha256}
use Rattle.journal_core.specs.File.{big_endian, fields_of, check_of, content_of, opened, listed, Fits, LacksRecord}
use Rattle.journal_core.specs.Area.{rest_at, Reaches, IsFirstOf, IsRecordOf, IsNext, IsNumberedNext, IsWithin}
use Rattle.journal_core.specs.declared.area.Next.{Next}
use Rattle.journal_core.specs.declared.layout.Format.{Format}
use Rattle.journal_core.specs.declared.layout.Format.TheVariants.{First, Second}
use Rattle.journal_core.specs.declared.records.Record.{Record}
use Rattle.journal_core.proofs.Written.{listed_push, first_parts, first_same, second_same, body_same, length-second, length-content_of, length-check_of}

-- what comes first is followed by the rest
pub whole_drop : (rest x y : List ℕ) → rest ≡ x ++ y → rest ≡ x ++ drop (length x) rest
whole_drop rest x y is = is ∙ ap (λ (l : List ℕ). x ++ l) (sym (drop_at x y (length x) refl) ∙ ap (λ (l : List ℕ). drop (length x) l) (sym is))

pub short_of : (rest into : List ℕ) (all : Bool) → all ≡ false → IsFirstOf rest into all → length rest < length into
short_of rest into true is short = absurd (cc)
short_of rest into false is short = short

pub first_of : (rest into : List ℕ) (all : Bool) → all ≡ true → IsFirstOf rest into all → rest ≡ into ++ drop (length into) rest
first_of rest into true is first = first
first_of rest into false is first = absurd (cc)

-- what follows the first bytes of what is left
pub rest_next : (file : List ℕ) (place left n : ℕ) → n ≤ left → drop n (rest_at file place left) ≡ rest_at file (place + n) (left - n)
rest_next file place left n le =
    let sum : left ≡ n + (left - n) = omega arith in
    ap (λ (k : ℕ). drop n (take k (drop place file))) sum ∙ drop-take n (left - n) (drop place file) ∙ ap (λ (l : List ℕ). take (left - n) l) (drop-drop n place file)

pub reaches_next : (file : List ℕ) (place left n : ℕ) → n ≤ left → Reaches file place left → Reaches file (place + n) (left - n)
reaches_next file place left n le reaches = ap length (sym (rest_next file place left n le)) ∙ length-drop n (rest_at file place left) ∙ ap (λ (k : ℕ). k - n) reaches

pub next_of : (file : List ℕ) (place left n : ℕ) (into : List ℕ) → length into ≡ n → n ≤ left → rest_at file place left ≡ into ++ drop (length into) (rest_at file place left)
    → rest_at file place left ≡ into ++ rest_at file (place + n) (left - n)
next_of file place left n into size le is =
    is ∙ ap (λ (k : ℕ). into ++ drop k (rest_at file place left)) size ∙ ap (λ (l : List ℕ). into ++ l) (rest_next file place left n le)

-- bytes that were read in full
pub read_first : (file into : List ℕ) (place left count : ℕ) → length into ≤ left → count ≤ length into → take count into ≡ take (length into) (drop place file) → Reaches file place left
    → IsFirstOf (rest_at file place left) into (nat_eq count (length into))
read_first file into place left count fits bound bytes reaches =
    let long : left ≤ length (drop place file) = omega (arith, reaches, length-take left (drop place file)) in
    let full : count ≡ length into = omega (arith, bound, fits, long, ap length bytes, length-take count into, length-take (length into) (drop place file)) in
    let yes : nat_eq count (length into) ≡ true = grind (arith, nat_tests, full) in
    let first : into ≡ take (length into) (rest_at file place left) =
    sym (take_all count into (omega (arith, full))) ∙ bytes ∙ sym (take-take (length into) left (drop place file) fits) in
    subst (IsFirstOf (rest_at file place left) into) (sym yes)
    (sym (take-append-drop (length into) (rest_at file place left)) ∙ ap (λ (l : List ℕ). l ++ drop (length into) (rest_at file place left)) (sym first))

-- too few bytes for the fields and a gate
pub lacks_fields : (format : Format) (rest : List ℕ) → length rest < 8 → LacksRecord format rest
lacks_fields First rest short r gate more fits is = absurd (omega (arith, short, ap length is, length-append (content_of First r) (gate ∷ more), length-content_of First r))
lacks_fields Second rest short r gate more fits is = absurd (omega (arith, short, ap length is, length-append (content_of Second r) (gate ∷ more), length-second r))

pub lacks_numbers : (rest : List ℕ) → length rest ≤ 56 → LacksRecord Second rest
lacks_numbers rest short r gate more fits is = absurd (omega (arith, short, ap length is, length-append (content_of Second r) (gate ∷ more), length-second r))

-- format 1: too few bytes for the body and the next gate
pub lacks_body : (rest field after : List ℕ) (n : ℕ) → field ≡ big_endian n → n < 2 ^ 64 → length rest < 2 ^ 64 → rest ≡ field ++ after → length after ≤ n → LacksRecord First rest
lacks_body rest field after n number small long is short r gate more fits other =
    let size : length r.body < 2 ^ 64 = omega (arith, long, ap length other, length-append (content_of First r) (gate ∷ more), length-content_of First r) in
    let same = first_same n after (gate ∷ more) r small size (ap (λ (l : List ℕ). l ++ after) (sym number) ∙ sym is ∙ other) in
    absurd (omega (arith, short, same.0, ap length same.1, length-append r.body (gate ∷ more)))

-- format 1: a whole record
pub first_whole : (rest field body after : List ℕ) (n : ℕ) → field ≡ big_endian n → length body ≡ n → rest ≡ field ++ (body ++ after) → (r : Record) → r.body ≡ body → rest ≡ content_of First r ++ drop (length (content_of First r)) rest
first_whole rest field body after n number long is r same =
    whole_drop rest (content_of First r) after
    (is ∙ ap (λ (l : List ℕ). l ++ (body ++ after)) (number ∙ ap big_endian (sym long ∙ ap length (sym same))) ∙ ap (λ (l : List ℕ). big_endian (length r.body) ++ (l ++ after)) (sym same) ∙ sym (first_parts r after))

-- The fields of a record of format 2, and what follows them.
pub record Fields (rest fields after : List ℕ) (n number time : ℕ) : Type 0 where
  pub bytes : fields ≡ big_endian n ++ (big_endian number ++ big_endian time)
  pub small : (n < 2 ^ 64) × (number < 2 ^ 64) × (time < 2 ^ 64)
  pub long : length rest < 2 ^ 64
  pub is : rest ≡ fields ++ after

module _ (rest fields after : List ℕ) (n number time : ℕ) (has : Fields rest fields after n number time) where
  parts : rest ≡ big_endian n ++ (big_endian number ++ (big_endian time ++ after))
  parts =
      has.is ∙ ap (λ (l : List ℕ). l ++ after) has.bytes ∙ append_assoc (big_endian n) (big_endian number ++ big_endian time) after
      ∙ ap (λ (l : List ℕ). big_endian n ++ l) (append_assoc (big_endian number) (big_endian time) after)

  same_as : (r : Record) (gate : ℕ) (more : List ℕ) → Fits Second r → rest ≡ content_of Second r ++ gate ∷ more
      → (n ≡ length r.body) × (number ≡ r.stamp.number) × (time ≡ r.stamp.time) × (after ≡ r.body ++ (check_of Second r ++ gate ∷ more))
  same_as r gate more fits is =
      let size : length r.body < 2 ^ 64 = omega (arith, has.long, ap length is, length-append (content_of Second r) (gate ∷ more), length-second r) in
      second_same n number time after (gate ∷ more) r has.small.0 has.small.1 has.small.2 fits size (sym parts ∙ is)

  -- the number is out of bounds
  pub lacks_bound : 281474976710656 < number → LacksRecord Second rest
  lacks_bound high r gate more fits is = let same = same_as r gate more fits is in absurd (omega (arith, high, fits.0, same.1))

  -- too few bytes for the body, the digest and the next gate
  pub lacks_room : length rest ≤ 56 + n → LacksRecord Second rest
  lacks_room short r gate more fits is =
      let same = same_as r gate more fits is in
      absurd (omega (arith, short, same.0, ap length is, length-append (content_of Second r) (gate ∷ more), length-second r))

  -- the digest is another
  pub lacks_digest : (body check tail : List ℕ) → length body ≡ n → length check ≡ 32 → after ≡ body ++ (check ++ tail) → sha256 (fields ++ body) ≢ check → LacksRecord Second rest
  lacks_digest body check tail long size follows differs r gate more fits is =
      let same = same_as r gate more fits is in
      let both : body ++ (check ++ tail) ≡ r.body ++ (check_of Second r ++ gate ∷ more) = sym follows ∙ same.3 in
      let bodies : body ≡ r.body = body_same body r.body _ _ (long ∙ same.0) both in
      let rests : check ++ tail ≡ check_of Second r ++ gate ∷ more =
      sym (drop_at body (check ++ tail) (length body) refl) ∙ ap (λ (l : List ℕ). drop (length body) l) both ∙ drop_at r.body (check_of Second r ++ gate ∷ more) (length body) (ap length (sym bodies)) in
      let checks : check ≡ check_of Second r = body_same check (check_of Second r) _ _ (size ∙ sym (length-check_of Second r)) rests in
      let fields_are : fields ≡ fields_of Second r =
      has.bytes ∙ ap (λ (k : ℕ). big_endian k ++ (big_endian number ++ big_endian time)) same.0 ∙ ap (λ (k : ℕ). big_endian (length r.body) ++ (big_endian k ++ big_endian time)) same.1
      ∙ ap (λ (k : ℕ). big_endian (length r.body) ++ (big_endian r.stamp.number ++ big_endian k)) same.2 in
      differs (ap (λ (l : List ℕ). sha256 (l ++ body)) fields_are ∙ ap (λ (l : List ℕ). sha256 (fields_of Second r ++ l)) bodies ∙ sym checks)

  -- a whole record
  pub second_whole : (body check tail : List ℕ) → length body ≡ n → after ≡ body ++ (check ++ tail) → sha256 (fields ++ body) ≡ check → (r : Record) → r.stamp.number ≡ number → r.stamp.time ≡ time → r.body ≡ body
      → rest ≡ content_of Second r ++ drop (length (content_of Second r)) rest
  second_whole body check tail long follows right r numbered timed same =
      let fields_are : fields_of Second r ≡ fields =
      ap (λ (k : ℕ). big_endian k ++ (big_endian r.stamp.number ++ big_endian r.stamp.time)) (ap length same ∙ long) ∙ ap (λ (k : ℕ). big_endian n ++ (big_endian k ++ big_endian r.stamp.time)) numbered
      ∙ ap (λ (k : ℕ). big_endian n ++ (big_endian number ++ big_endian k)) timed ∙ sym has.bytes in
      let checks : check_of Second r ≡ check = ap (λ (l : List ℕ). sha256 (l ++ r.body)) fields_are ∙ ap (λ (l : List ℕ). sha256 (fields ++ l)) same ∙ right in
      whole_drop rest (content_of Second r) tail
      (has.is ∙ ap (λ (l : List ℕ). fields ++ l) (follows ∙ ap (λ (l : List ℕ). l ++ (check ++ tail)) (sym same) ∙ ap (λ (l : List ℕ). r.body ++ (l ++ tail)) (sym checks) ∙ sym (append_assoc r.body (check_of Second r) tail))
      ∙ ap (λ (l : List ℕ). l ++ ((r.body ++ check_of Second r) ++ tail)) (sym fields_are) ∙ sym (append_assoc (fields_of Second r) (r.body ++ check_of Second r) tail))

-- a list of one number
pub one_byte : (gate : List ℕ) (byte : ℕ) → length gate ≡ 1 → get_or gate 0 0 ≡ byte → gate ≡ byte ∷ []
one_byte [] byte size is = absurd (omega (arith, size))
one_byte (x ∷ []) byte size is = ap (λ (b : ℕ). b ∷ []) is
one_byte (x ∷ y ∷ rest) byte size is = absurd (omega (arith, size))

-- a record after an open gate
pub next_open : (format : Format) (rest suffix : List ℕ) (entry : Record) → rest ≡ 1 ∷ suffix → suffix ≡ content_of format entry ++ drop (length (content_of format entry)) suffix
    → rest ≡ opened format entry ++ drop (length (opened format entry)) rest
next_open format rest suffix entry first is =
    whole_drop rest (opened format entry) (drop (length (content_of format entry)) suffix) (first ∙ ap (λ (l : List ℕ). 1 ∷ l) is)

pub record_some : (format : Format) (suffix : List ℕ) (found : Option Record) (entry : Record) → found ≡ Some entry → IsRecordOf format suffix found → IsRecordOf format suffix (Some entry)
record_some format suffix found entry is has = subst (IsRecordOf format suffix) is has

pub record_none : (format : Format) (suffix : List ℕ) (found : Option Record) → found ≡ None → IsRecordOf format suffix found → LacksRecord format suffix
record_none format suffix found is has = subst (IsRecordOf format suffix) is has

-- one record more was read
pub area_more : (format : Format) (file : List ℕ) (base size used n : ℕ) (rs later : List Record) (r : Record) → used + n ≤ size → later ≡ rs ++ r ∷ [] → n ≡ length (opened format r)
    → rest_at file base size ≡ listed format rs ++ rest_at file (base + used) (size - used)
    → rest_at file (base + used) (size - used) ≡ opened format r ++ drop (length (opened format r)) (rest_at file (base + used) (size - used))
    → rest_at file base size ≡ listed format later ++ rest_at file (base + (used + n)) (size - (used + n))
area_more format file base size used n rs later r fits more long inside is =
    let at : base + used + n ≡ base + (used + n) = omega arith in
    let left : size - used - n ≡ size - (used + n) = omega arith in
    let next = next_of file (base + used) (size - used) n (opened format r) (sym long) (omega (arith, fits)) is in
    inside ∙ ap (λ (l : List ℕ). listed format rs ++ l) next
    ∙ sym (append_assoc (listed format rs) (opened format r) (rest_at file (base + used + n) (size - used - n)))
    ∙ ap (λ (l : List ℕ). l ++ rest_at file (base + used + n) (size - used - n)) (sym (listed_push format rs r) ∙ ap (listed format) (sym more))
    ∙ ap (λ (k : ℕ). listed format later ++ rest_at file k (size - used - n)) at
    ∙ ap (λ (k : ℕ). listed format later ++ rest_at file (base + (used + n)) k) left

pub count_more : (format : Format) (used n : ℕ) (rs later : List Record) (r : Record) → later ≡ rs ++ r ∷ [] → n ≡ length (opened format r) → used ≡ length (listed format rs) → used + n ≡ length (listed format later)
count_more format used n rs later r more long is =
    omega (arith, long, is, length-append (listed format rs) (opened format r), ap length (sym (listed_push format rs r) ∙ ap (listed format) (sym more)))

pub next_is : (format : Format) (rest : List ℕ) (found next : Next) → found ≡ next → IsNext format rest found → IsNext format rest next
next_is format rest found next is has = subst (IsNext format rest) is has

pub next_numbered : (found next : Next) → found ≡ next → IsNumberedNext found → IsNumberedNext next
next_numbered found next is has = subst IsNumberedNext is has

pub within_is : (format : Format) (left : ℕ) (found next : Next) → found ≡ next → IsWithin format left found → IsWithin format left next
within_is format left found next is has = subst (IsWithin format left) is has
