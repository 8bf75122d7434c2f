-- Lists of images under a write that a crash cuts short.
use Rattle.std.proofs.Common.{◌≡◌, ℕ, ◌+◌, ◌≤◌, ◌<◌, List, [], ◌∷◌, ◌++◌, length, get_or, take, reverse, Bool, true, false, sym, ◌∙◌, ap, subst, arith, Some, Result, Ok, Err, OnOk, IfOk}
use Rattle.std.specs.Prelude.{slice_get}
use Rattle.std.specs.List.{All, Contains}
use Rattle.std.proofs.lemmas.List.{take_more, reverse-append}
use Rattle.std.proofs.lemmas.List.Elements.{All-append, All-cons, All-nil, Contains-get_or, Contains-append_right}
use Rattle.std.proofs.lemmas.Option.{get_or_from_slice_get}
use Rattle.disk_core.specs.Disk.{written, Torn}
use Rattle.disk_core.specs.Past.{Leaves, file_after, IsImage, IsImageAt}
use Rattle.disk_core.specs.Torn.{AddsOnly, IsTornOf, IsImageBy}
use Rattle.disk_core.specs.declared.calls.DiskCall.{DiskCall}
use Rattle.disk_core.specs.declared.calls.DiskCall.TheVariants.{Length, ReadAt, WriteAt, Sync}
use Rattle.disk_core.specs.declared.calls.Noted.{Noted}
use Rattle.disk_core.specs.PastLaws.{torn_same, torn_written, reads}
use Rattle.disk_core.proofs.TornLaws.{torn_inside}

pub held : (xs : List (List ℕ)) (i : ℕ) (x : List ℕ) → i < length xs → slice_get xs i ≡ Some x → Contains xs x
held xs i x within is = subst (Contains xs) (get_or_from_slice_get xs i x [] is) (Contains-get_or xs i [] within)

pub torn_part : (before : List (List ℕ)) (old part : List ℕ) (place n : ℕ) → Contains before old → length part ≤ n → IsTornOf before place n (written place part old)
torn_part before old part place n has le = (old, has, torn_inside place n place (length part) old (written place part old) (omega arith) (omega (arith, le)) (torn_written place part old))

-- a part of a piece, written into an image
pub torn_alone : (old part : List ℕ) (place n : ℕ) → length part ≤ n → Torn place n old (written place part old)
torn_alone old part place n le = torn_inside place n place (length part) old (written place part old) (omega arith) (omega (arith, le)) (torn_written place part old)

-- images that stay, as if a write was missing
pub still_torn : (before images : List (List ℕ)) (place n : ℕ) → All (Contains before) images → All (IsTornOf before place n) images
still_torn before images place n all = λ k d within. (get_or images k d, all k d within, torn_same place n (get_or images k d))

-- what is added to an image is added to images that have it
pub added_to : (before images more : List (List ℕ)) (old : List ℕ) (place n : ℕ) → Contains before old → AddsOnly (Torn place n old) images more → All (IsTornOf before place n) images → All (IsTornOf before place n) more
added_to before images more old place n has adds all =
    subst (All (IsTornOf before place n)) (sym adds.1) (All-append (IsTornOf before place n) images adds.0 all (λ k d within. (old, has, adds.2 k d within)))

-- more of them join
pub joins : (P : List ℕ → Type 0) (images more later : List (List ℕ)) → later ≡ images ++ more → All P images → All P more → All P later
joins P images more later is all also = subst (All P) (sym is) (All-append P images more all also)

pub one : (P : List ℕ → Type 0) (a : List ℕ) → P a → All P (a ∷ [])
one P a pa = All-cons P a [] pa (All-nil P)

pub two : (P : List ℕ → Type 0) (a b : List ℕ) → P a → P b → All P (a ∷ b ∷ [])
two P a b pa pb = All-cons P a (b ∷ []) pa (one P b pb)

pub three : (P : List ℕ → Type 0) (a b c : List ℕ) → P a → P b → P c → All P (a ∷ b ∷ c ∷ [])
three P a b c pa pb pc = All-cons P a (b ∷ c ∷ []) pa (All-cons P b (c ∷ []) pb (one P c pc))

pub four : (P : List ℕ → Type 0) (a b c d : List ℕ) → P a → P b → P c → P d → All P (a ∷ b ∷ c ∷ d ∷ [])
four P a b c d pa pb pc pd = All-cons P a (b ∷ c ∷ d ∷ []) pa (three P b c d pb pc pd)

-- what all have, each has that is among them
pub among : (P : List ℕ → Type 0) (xs : List (List ℕ)) (x : List ℕ) → All P xs → Contains xs x → P x
among P xs x all has = subst P has.2 (all has.0 x has.1)

leaves_on : (call : DiskCall) (done : Bool) (place : ℕ) (piece file : List ℕ) (P Q : List ℕ → Type 0) → ((i : List ℕ) → P i → Q i) → (image : List ℕ) → Leaves call done place piece file P image → Leaves call done place piece file Q image
leaves_on Length done place piece file P Q f image left = f image left
leaves_on ReadAt done place piece file P Q f image left = f image left
leaves_on WriteAt done place piece file P Q f image left = (left.0, f left.0 left.1, left.2)
leaves_on Sync true place piece file P Q f image left = left
leaves_on Sync false place piece file P Q f image left = f image left

-- one call more, of images that all are left by the calls before
pub all_left : (start : List ℕ) (history : List Noted) (noted : Noted) (before later : List (List ℕ)) (file : List ℕ) → file ≡ file_after start history → All (IsImage start history) before → All (IsImageBy noted file before) later
    → All (IsImage start (noted ∷ history)) later
all_left start history noted before later file is all step = λ k d within.
    leaves_on noted.call noted.done noted.place noted.bytes (file_after start history) (Contains before) (IsImage start history) (λ i has. among (IsImage start history) before i all has) (get_or later k d)
    (subst (λ (f : List ℕ). Leaves noted.call noted.done noted.place noted.bytes f (Contains before) (get_or later k d)) is (step k d within))

-- the record, one call longer
pub longer : (calls : List Noted) (i : ℕ) (noted : Noted) → i < length calls → noted ≡ get_or calls i noted → reverse (take (i + 1) calls) ≡ noted ∷ reverse (take i calls)
longer calls i noted within is =
    ap reverse (take_more calls i noted within) ∙ reverse-append (take i calls) (get_or calls i noted ∷ []) ∙ ap (λ (n : Noted). n ∷ reverse (take i calls)) (sym is)

pub on_ok : {T E P Q : Type 0} → (r : Result T E) → (P → Q) → OnOk r P → OnOk r Q
on_ok (Ok x) f h = f h
on_ok (Err e) f h = h

-- a write's images
pub left_by_write : (call : DiskCall) (done : Bool) (place : ℕ) (piece part file : List ℕ) (before images : List (List ℕ)) → call ≡ WriteAt → part ≡ piece → All (IsTornOf before place (length part)) images
    → (k : ℕ) (d : List ℕ) → k < length images → Leaves call done place piece file (Contains before) (get_or images k d)
left_by_write call done place piece part file before images is same all k d within =
    subst (λ (c : DiskCall). Leaves c done place piece file (Contains before) (get_or images k d)) (sym is)
    (subst (λ (p : List ℕ). IsTornOf before place (length p) (get_or images k d)) same (all k d within))

pub on_each : {T E : Type 0} (P Q : T → Type 0) (r : Result T E) → ((x : T) → P x → Q x) → IfOk r P → IfOk r Q
on_each P Q (Ok x) f h = f x h
on_each P Q (Err e) f h = h

-- the file itself, after images that all are left
pub with_file : (start : List ℕ) (calls : List Noted) (n : ℕ) (images later : List (List ℕ)) (file last : List ℕ) → n ≡ length calls → file ≡ file_after start (reverse (take n calls)) → All (IsImage start (reverse (take n calls))) images
    → last ≡ file → later ≡ images ++ last ∷ [] → All (IsImageAt start calls (length calls)) later
with_file start calls n images later file last end is all same more =
    let P : List ℕ → Type 0 = IsImage start (reverse (take n calls)) in
    subst (λ (m : ℕ). All (IsImage start (reverse (take m calls))) later) end
    (joins P images (last ∷ []) later more all (one P last (subst P (sym (same ∙ is)) (reads start (reverse (take n calls))))))

pub has_last : (images later : List (List ℕ)) (file last : List ℕ) → file ≡ last → later ≡ images ++ last ∷ [] → Contains later file
has_last images later file last same more =
    subst (λ (l : List (List ℕ)). Contains l file) (sym more) (Contains-append_right images (last ∷ []) file (0, omega arith, sym same))
