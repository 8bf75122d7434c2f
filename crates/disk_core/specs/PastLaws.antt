-- The file as it reads is one of the images.
use Rattle.std.specs.Prelude.{◌≡◌, ℕ, ◌+◌, ◌-◌, min, Bool, true, false, List, [], ◌∷◌, ◌++◌, length, reverse, take}
use Rattle.std.specs.Prelude.{drop, replicate, refl, if◌then◌else◌, ◌==◌, Some, None}
use Rattle.std.proofs.Common.{sym, ◌∙◌, ap, subst, arith, append_assoc, length-append, length-take, length-drop}
use Rattle.std.proofs.lemmas.Bool.Decides.{nat_tests}
use Rattle.std.proofs.lemmas.List.{length-replicate, take_min, take_at, drop_at, take_all}
use Rattle.disk_core.specs.Disk.{written, Torn}
use Rattle.disk_core.specs.Past.{file_by, Leaves, file_after, IsImage, IsImageAt}
use Rattle.disk_core.specs.declared.calls.DiskCall.{DiskCall}
use Rattle.disk_core.specs.declared.calls.DiskCall.TheVariants.{Length, ReadAt, WriteAt, Sync}
use Rattle.disk_core.specs.declared.calls.Noted.{Noted}

-- a torn write may leave the file as it was
pub torn_same : (place n : ℕ) (file : List ℕ) → Torn place n file file
torn_same place n file = record {
  before = take_min place file;
  after = refl;
  no_shorter = omega arith;
  no_longer = omega arith;
}

-- and may leave it as it was meant
pub torn_written : (place : ℕ) (piece file : List ℕ) → Torn place (length piece) file (written place piece file)
torn_written place piece file =
    let gap : List ℕ = replicate (place - length file) 0 in
    let rest : List ℕ = drop (place + length piece) file in
    let prefix : length (take place file) ≡ min place (length file) = length-take place file in
    let whole : written place piece file ≡ (take place file ++ (gap ++ piece)) ++ rest =
    ap (λ (l : List ℕ). take place file ++ l) (sym (append_assoc gap piece rest))
    ∙ sym (append_assoc (take place file) (gap ++ piece) rest) in
    let zeros : length gap ≡ place - length file = length-replicate {A = ℕ} (place - length file) 0 in
    let both : length (gap ++ piece) ≡ length gap + length piece = length-append gap piece in
    let size : length (take place file ++ (gap ++ piece)) ≡ place + length piece =
    omega (arith, prefix, length-append (take place file) (gap ++ piece), both, zeros) in
    let long : length (written place piece file) ≡ (place + length piece) + (length file - (place + length piece)) =
    ap length whole ∙ length-append (take place file ++ (gap ++ piece)) rest
    ∙ omega (arith, size, length-drop (place + length piece) file) in
    record {
      before = take_at (take place file) (gap ++ (piece ++ rest)) (min place (length file)) prefix;
      after =
          ap (λ (l : List ℕ). drop (place + length piece) l) whole
          ∙ drop_at (take place file ++ (gap ++ piece)) rest (place + length piece) size;
      no_shorter = omega (arith, long);
      no_longer = omega (arith, long);
    }

-- what a call leaves of images that have the file has the file that the call leaves
leaves_file : (call : DiskCall) (done : Bool) (place : ℕ) (piece file : List ℕ) (images : List ℕ → Type 0) → images file
    → Leaves call done place piece file images (file_by call done place piece file)
leaves_file Length done place piece file images here = here
leaves_file ReadAt done place piece file images here = here
leaves_file WriteAt true place piece file images here = (file, here, torn_written place piece file)
leaves_file WriteAt false place piece file images here = (file, here, torn_same place (length piece) file)
leaves_file Sync true place piece file images here = refl
leaves_file Sync false place piece file images here = here

-- the file after these calls is one of the images after them
pub reads : (start : List ℕ) (history : List Noted) → IsImage start history (file_after start history)
reads start [] = refl
reads start (noted ∷ earlier) =
    let file : List ℕ = file_after start earlier in
    leaves_file noted.call noted.done noted.place noted.bytes file (IsImage start earlier) (reads start earlier)

-- a file that is reported under a test is that file
pub reported_by : (test : Bool) (file other : List ℕ) → (if test then Some file else None) ≡ Some other
    → (test ≡ true) × (file ≡ other)
reported_by true file other is = (refl, cc)
reported_by false file other is = absurd (cc)

zero_if : (n : ℕ) → (n == 0) ≡ true → n ≡ 0
zero_if n is = grind (arith, nat_tests)

-- the file after a whole log is one of the images at its end
pub reads_at_end : (start : List ℕ) (calls : List Noted) (file : List ℕ) → file ≡ file_after start (reverse calls)
    → IsImageAt start calls (length calls) file
reads_at_end start calls file is =
    subst (λ (l : List Noted). IsImage start (reverse l) file) (sym (take_all (length calls) calls (omega arith)))
    (subst (IsImage start (reverse calls)) (sym is) (reads start (reverse calls)))

-- of a disk in memory: what it reports is the file after its log
pub memory_reports : (starved : ℕ) (start : List ℕ) (calls : List Noted) (file other : List ℕ)
    → (starved ≡ 0 → file ≡ file_after start (reverse calls)) → (if starved == 0 then Some file else None) ≡ Some other
    → other ≡ file_after start (reverse calls)
memory_reports starved start calls file other is reports =
    let both = reported_by (starved == 0) file other reports in
    sym both.1 ∙ is (zero_if starved both.0)

-- and so one of the images at its end
pub memory_reads : (starved : ℕ) (start : List ℕ) (calls : List Noted) (file other : List ℕ)
    → (starved ≡ 0 → file ≡ file_after start (reverse calls)) → (if starved == 0 then Some file else None) ≡ Some other
    → IsImageAt start calls (length calls) other
memory_reads starved start calls file other is reports =
    reads_at_end start calls other (memory_reports starved start calls file other is reports)
