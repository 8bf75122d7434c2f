-- Records as they are written, and that bytes are records in one way.
use Rattle.std.proofs.Common.{◌≡◌, ◌≢◌, ℕ, ◌+◌, ◌^◌, ◌<◌, ◌≤◌, List, [], ◌∷◌, ◌++◌, length, take, drop, replicate, Some, refl, sym, ◌∙◌, ap, arith, append_assoc, length-append, length-take, take-append-drop}
use Rattle.std.proofs.lemmas.List.{append-nil, take_at, drop_at, take_more, take_all}
use Rattle.std.proofs.lemmas.Option.{get_or_from_slice_get}
use borrow.Rule.Slice.PartMut.{put_mid}
use Rattle.std.proofs.lemmas.List.Concat.{flat_map-append}
use Rattle.std.proofs.lemmas.List.Sums.{sum_by-append, sum_by-cons}
use Rattle.std.specs.Prelude.{slice_get}
use Rattle.std.specs.List.{flat_map}
use Rattle.sha2.proofs.Facts256.{length-sha256}
use Rattle.journal_core.specs.Layout.{version_of, fields_length, check_length}
use Rattle.journal_core.specs.File.{big_endian, fields_of, check_of, content_of, Fits, opened, listed, staged_records, base_of, HoldsAt}
use Rattle.journal_core.specs.Journal.{one, record_length, room_for}
use Rattle.journal_core.specs.Steps.{staged}
use Rattle.journal_core.specs.declared.layout.Format.{Format}
use Rattle.journal_core.specs.declared.layout.Format.TheVariants.{First, Second}
use Rattle.journal_core.specs.declared.records.Record.{Record}
use Rattle.journal_core.specs.declared.records.Stamp.{Stamp}
use Rattle.journal_core.proofs.Fields.{length-big_endian, same_field}

pub length-fields : (n : ℕ) (stamp : Stamp) → length (big_endian n ++ (big_endian stamp.number ++ big_endian stamp.time)) ≡ 24
length-fields n stamp =
    omega (
      arith,
      length-append (big_endian n) (big_endian stamp.number ++ big_endian stamp.time),
      length-append (big_endian stamp.number) (big_endian stamp.time),
      length-big_endian n,
      length-big_endian stamp.number,
      length-big_endian stamp.time,
    )

pub length-fields_of : (format : Format) (r : Record) → length (fields_of format r) ≡ fields_length format
length-fields_of First r = length-big_endian (length r.body)
length-fields_of Second r = length-fields (length r.body) r.stamp

pub length-check_of : (format : Format) (r : Record) → length (check_of format r) ≡ check_length format
length-check_of First r = refl
length-check_of Second r = length-sha256 (fields_of Second r ++ r.body)

pub length-content_of : (format : Format) (r : Record) → length (content_of format r) ≡ fields_length format + (length r.body + check_length format)
length-content_of format r =
    omega (arith, length-append (fields_of format r) (r.body ++ check_of format r), length-append r.body (check_of format r), length-fields_of format r, length-check_of format r)

pub length-second : (r : Record) → length (content_of Second r) ≡ 56 + length r.body
length-second r = omega (arith, length-content_of Second r)

pub length-opened : (r : Record) → length (opened Second r) ≡ record_length r
length-opened r = omega (arith, length-second r)

pub room_is : (rs : List Record) → length (flat_map (opened Second) rs) ≡ room_for rs
room_is [] = refl
room_is (r ∷ rs) =
    length-append (opened Second r) (flat_map (opened Second) rs)
    ∙ omega (arith, length-opened r, room_is rs, sum_by-cons record_length r rs)

pub length-listed : (rs : List Record) → length (listed Second rs) ≡ 1 + room_for rs
length-listed rs = omega (arith, room_is rs)

pub room_more : (xs ys : List Record) → room_for (xs ++ ys) ≡ room_for xs + room_for ys
room_more xs ys = sum_by-append record_length xs ys

-- the first records take no more than all of them
pub room_first : (n : ℕ) (rs : List Record) → room_for (take n rs) ≤ room_for rs
room_first n rs = omega (arith, room_more (take n rs) (drop n rs), ap room_for (take-append-drop n rs))

-- the records of a file fit into an area, with the version byte before them and the gate after them
pub room_held : (file : List ℕ) (area side : ℕ) (rs : List Record) → HoldsAt Second file area side rs → 1 + room_for rs < area
room_held file area side rs holds =
    omega (arith, ap length holds.is, length-take area (drop (base_of area side) file), length-append (listed Second rs) (holds.gate ∷ holds.rest), length-listed rs)

pub room_one : (stamp : Stamp) (body : List ℕ) → room_for (one stamp body) ≡ 57 + length body
room_one stamp body = omega arith

pub listed_more : (format : Format) (xs ys : List Record) → listed format (xs ++ ys) ≡ listed format xs ++ flat_map (opened format) ys
listed_more format xs ys = ap (λ (l : List ℕ). version_of format ∷ l) (flat_map-append (opened format) xs ys)

pub listed_push : (format : Format) (xs : List Record) (r : Record) → listed format (xs ++ r ∷ []) ≡ listed format xs ++ opened format r
listed_push format xs r = listed_more format xs (r ∷ []) ∙ ap (λ (l : List ℕ). listed format xs ++ l) (append-nil (opened format r))

-- records and a closed gate, from the first gate on
pub staged_opened : (rs : List Record) → rs ≢ [] → 1 ∷ staged_records rs ≡ flat_map (opened Second) rs ++ 0 ∷ []
staged_opened [] some = absurd (some refl)
staged_opened (r ∷ rs) some = refl

pub length-staged_records : (rs : List Record) → rs ≢ [] → length (staged_records rs) ≡ room_for rs
length-staged_records rs some =
    let whole = ap length (staged_opened rs some) in
    omega (arith, whole, length-append (flat_map (opened Second) rs) (0 ∷ []), room_is rs)

pub staged_one : (stamp : Stamp) (body : List ℕ) → staged_records (one stamp body) ≡ staged stamp body 0
staged_one stamp body = ap (λ (l : List ℕ). l ++ 0 ∷ []) (append-nil (content_of Second (record { stamp = stamp; body = body })))

-- two records with the same parts
pub record_same : (a b : Record) → a.stamp.number ≡ b.stamp.number → a.stamp.time ≡ b.stamp.time → a.body ≡ b.body → a ≡ b
record_same a b number time body =
    let made : ℕ → ℕ → List ℕ → Record = λ n t l. record { stamp = record { number = n; time = t }; body = l } in
    ap (λ (n : ℕ). made n a.stamp.time a.body) number ∙ ap (λ (t : ℕ). made b.stamp.number t a.body) time ∙ ap (λ (l : List ℕ). made b.stamp.number b.stamp.time l) body

pub stamp_same : (a b : Record) → a.stamp ≡ b.stamp → a.body ≡ b.body → a ≡ b
stamp_same a b stamp body =
    let made : Stamp → List ℕ → Record = λ s l. record { stamp = s; body = l } in
    ap (λ (s : Stamp). made s a.body) stamp ∙ ap (λ (l : List ℕ). made b.stamp l) body

-- a record of format 1 and what follows it, by its parts
pub first_parts : (r : Record) (y : List ℕ) → content_of First r ++ y ≡ big_endian (length r.body) ++ (r.body ++ y)
first_parts r y = append_assoc (big_endian (length r.body)) (r.body ++ []) y ∙ ap (λ (l : List ℕ). big_endian (length r.body) ++ (l ++ y)) (append-nil r.body)

-- the same of format 2
pub second_parts : (r : Record) (y : List ℕ)
    → content_of Second r ++ y ≡ big_endian (length r.body) ++ (big_endian r.stamp.number ++ (big_endian r.stamp.time ++ (r.body ++ (check_of Second r ++ y))))
second_parts r y =
    let a : List ℕ = big_endian (length r.body) in
    let b : List ℕ = big_endian r.stamp.number in
    let c : List ℕ = big_endian r.stamp.time in
    append_assoc (a ++ (b ++ c)) (r.body ++ check_of Second r) y
    ∙ append_assoc a (b ++ c) ((r.body ++ check_of Second r) ++ y)
    ∙ ap (λ (l : List ℕ). a ++ l) (append_assoc b c ((r.body ++ check_of Second r) ++ y))
    ∙ ap (λ (l : List ℕ). a ++ (b ++ (c ++ l))) (append_assoc r.body (check_of Second r) y)

-- bytes that begin with a length, and with a record of format 1
pub first_same : (n : ℕ) (x y : List ℕ) (r : Record) → n < 2 ^ 64 → length r.body < 2 ^ 64 → big_endian n ++ x ≡ content_of First r ++ y
    → (n ≡ length r.body) × (x ≡ r.body ++ y)
first_same n x y r small long is = same_field n (length r.body) x (r.body ++ y) small long (is ∙ first_parts r y)

-- bytes that begin with a length, a number and a time, and with a record of format 2
pub second_same : (n number time : ℕ) (x y : List ℕ) (r : Record) → n < 2 ^ 64 → number < 2 ^ 64 → time < 2 ^ 64 → Fits Second r → length r.body < 2 ^ 64
    → big_endian n ++ (big_endian number ++ (big_endian time ++ x)) ≡ content_of Second r ++ y
    → (n ≡ length r.body) × (number ≡ r.stamp.number) × (time ≡ r.stamp.time) × (x ≡ r.body ++ (check_of Second r ++ y))
second_same n number time x y r small few early fits long is =
    let one = same_field n (length r.body) _ _ small long (is ∙ second_parts r y) in
    let two = same_field number r.stamp.number _ _ few (omega (arith, fits.0)) one.1 in
    let three = same_field time r.stamp.time _ _ early fits.1 two.1 in
    (one.0, two.0, three.0, three.1)

-- what begins with two bodies of one length begins with one
pub body_same : (a b x y : List ℕ) → length a ≡ length b → a ++ x ≡ b ++ y → a ≡ b
body_same a b x y long is = sym (take_at a x (length a) refl) ∙ ap (λ (l : List ℕ). take (length a) l) is ∙ take_at b y (length a) (sym long)

-- two records at one place are one
pub content_same : (format : Format) (a b : Record) (x y : List ℕ) → Fits format a → Fits format b → length a.body < 2 ^ 64 → length b.body < 2 ^ 64
    → content_of format a ++ x ≡ content_of format b ++ y → a ≡ b
content_same First a b x y fits also small below is =
    let same = first_same (length a.body) (a.body ++ x) y b small below (sym (first_parts a x) ∙ is) in
    stamp_same a b (fits ∙ sym also) (body_same a.body b.body x y same.0 same.1)
content_same Second a b x y fits also small below is =
    let same = second_same (length a.body) a.stamp.number a.stamp.time (a.body ++ (check_of Second a ++ x)) y b small (omega (arith, fits.0)) fits.1 also below (sym (second_parts a x) ∙ is) in
    record_same a b same.1 same.2 (body_same a.body b.body _ _ same.0 same.3)

pub opened_same : (format : Format) (a b : Record) (x y : List ℕ) → Fits format a → Fits format b → length a.body < 2 ^ 64 → length b.body < 2 ^ 64
    → opened format a ++ x ≡ opened format b ++ y → (a ≡ b) × (x ≡ y)
opened_same format a b x y fits also small below is =
    let same = content_same format a b x y fits also small below (ap (λ (l : List ℕ). drop 1 l) is) in
    let here = ap (λ (r : Record). opened format r ++ x) (sym same) ∙ is in (
      same,
      sym (drop_at (opened format b) x (length (opened format b)) refl) ∙ ap (λ (l : List ℕ). drop (length (opened format b)) l) here ∙ drop_at (opened format b) y (length (opened format b)) refl,
    )

-- the record at a place joins those before it
pub item_more : (rs : List Record) (i : ℕ) (r : Record) → i < length rs → slice_get rs i ≡ Some r → take (i + 1) rs ≡ take i rs ++ r ∷ []
item_more rs i r within is = take_more rs i r within ∙ ap (λ (x : Record). take i rs ++ x ∷ []) (get_or_from_slice_get rs i r r is)

pub room_next : (rs : List Record) (i : ℕ) (r : Record) → i < length rs → slice_get rs i ≡ Some r → room_for (take (i + 1) rs) ≡ room_for (take i rs) + (57 + length r.body)
room_next rs i r within is = ap room_for (item_more rs i r within is) ∙ room_more (take i rs) (r ∷ []) ∙ omega arith

-- bytes that are put in the middle of others
pub put_in : (a k : ℕ) (before mid after new : List ℕ) → length before ≡ a → length mid ≡ k → put_mid a k (before ++ (mid ++ after)) new ≡ before ++ (new ++ after)
put_in a k before mid after new is size =
    ap (λ (l : List ℕ). l ++ (new ++ drop k (drop a (before ++ (mid ++ after))))) (take_at before (mid ++ after) a is)
    ∙ ap (λ (l : List ℕ). before ++ (new ++ drop k l)) (drop_at before (mid ++ after) a is)
    ∙ ap (λ (l : List ℕ). before ++ (new ++ l)) (drop_at mid after k size)

-- three numbers, put one after another into 24 zeros
pub three_fields : (a b c : List ℕ) → length a ≡ 8 → length b ≡ 8
    → put_mid 16 8 (put_mid 8 8 (a ++ replicate 16 0) b) c ≡ a ++ (b ++ c)
three_fields a b c first second =
    let zeros : List ℕ = replicate 8 0 in
    ap (λ (l : List ℕ). put_mid 16 8 l c) (put_in 8 8 a zeros zeros b first refl ∙ sym (append_assoc a b zeros) ∙ ap (λ (l : List ℕ). (a ++ b) ++ l) (sym (append-nil zeros)))
    ∙ put_in 16 8 (a ++ b) zeros [] c (omega (arith, length-append a b, first, second)) refl
    ∙ append_assoc a b (c ++ [])
    ∙ ap (λ (l : List ℕ). a ++ (b ++ l)) (append-nil c)

-- records that were staged, with an open gate after each
abbrev pub staged_on : List Record → List ℕ
staged_on rs = drop 1 (flat_map (opened Second) rs ++ 1 ∷ [])

whole_on : (rs : List Record) → 1 ∷ staged_on rs ≡ flat_map (opened Second) rs ++ 1 ∷ []
whole_on [] = refl
whole_on (r ∷ rs) = refl

pub length-staged_on : (rs : List Record) → length (staged_on rs) ≡ room_for rs
length-staged_on rs = omega (arith, ap length (whole_on rs), length-append (flat_map (opened Second) rs) (1 ∷ []), room_is rs)

-- the same with one more record and any gate
next_on : (rs : List Record) (r : Record) (gate : ℕ) → flat_map (opened Second) (rs ++ r ∷ []) ++ gate ∷ [] ≡ 1 ∷ (staged_on rs ++ staged r.stamp r.body gate)
next_on rs r gate =
    let all : List ℕ = flat_map (opened Second) rs in
    let content : List ℕ = content_of Second r in
    ap (λ (l : List ℕ). l ++ gate ∷ []) (flat_map-append (opened Second) rs (r ∷ []) ∙ ap (λ (l : List ℕ). all ++ l) (append-nil (opened Second r)))
    ∙ append_assoc all (opened Second r) (gate ∷ [])
    ∙ sym (append_assoc all (1 ∷ []) (content ++ gate ∷ []))
    ∙ ap (λ (l : List ℕ). l ++ (content ++ gate ∷ [])) (sym (whole_on rs))

pub staged_on_more : (rs : List Record) (r : Record) → staged_on (rs ++ r ∷ []) ≡ staged_on rs ++ staged r.stamp r.body 1
staged_on_more rs r = ap (λ (l : List ℕ). drop 1 l) (next_on rs r 1)

pub staged_last : (rs : List Record) (r : Record) → staged_records (rs ++ r ∷ []) ≡ staged_on rs ++ staged r.stamp r.body 0
staged_last rs r = ap (λ (l : List ℕ). drop 1 l) (next_on rs r 0)

pub length-staged : (stamp : Stamp) (body : List ℕ) (gate : ℕ) → length (staged stamp body gate) ≡ 57 + length body
length-staged stamp body gate =
    let r : Record = record { stamp = stamp; body = body } in
    omega (arith, length-append (content_of Second r) (gate ∷ []), length-second r)

pub length-take_all : (rs : List Record) (last : ℕ) (r : Record) → length rs ≡ last + 1 → slice_get rs last ≡ Some r → rs ≡ take last rs ++ r ∷ []
length-take_all rs last r long is = sym (take_all (last + 1) rs (omega (arith, long))) ∙ item_more rs last r (omega (arith, long)) is
