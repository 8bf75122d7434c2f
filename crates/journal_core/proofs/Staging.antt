-- Records that are staged one after another.
use Rattle.std.proofs.Common.{◌≡◌, ℕ, ◌+◌, ◌≤◌, ◌<◌, List, [], ◌∷◌, ◌++◌, length, take, Result, Some, sym, ◌∙◌, ap, subst, arith, append_assoc, length-append}
use Rattle.std.specs.Prelude.{slice_get}
use Rattle.std.specs.Option.{ForSome}
use Rattle.std.proofs.lemmas.List.Sums.{sum_by-take-le}
use Rattle.disk_core.specs.Disk.{DiskState, written, Torn}
use Rattle.disk_core.specs.Runs.{Run}
use Rattle.journal_core.specs.File.{fields_of, check_of, staged_records}
use Rattle.journal_core.specs.Journal.{one, record_length, room_for}
use Rattle.journal_core.specs.Steps.{staged, WritesDurably}
use Rattle.journal_core.specs.declared.layout.Format.TheVariants.{Second}
use Rattle.journal_core.specs.declared.records.Record.{Record}
use Rattle.journal_core.specs.declared.records.Stamp.{Stamp}
use Rattle.journal_core.proofs.Lists.{written_more}
use Rattle.journal_core.proofs.Writing.{Made, made_more, durably_after}
use Rattle.journal_core.proofs.Written.{staged_on, staged_on_more, staged_last, staged_one, length-staged, length-staged_on, length-take_all, item_more, room_next, room_more}

-- the three pieces of a record
pub three_pieces : (stamp : Stamp) (body fields end : List ℕ) (gate : ℕ) → fields ≡ fields_of Second (record { stamp = stamp; body = body })
    → end ≡ check_of Second (record { stamp = stamp; body = body }) ++ gate ∷ [] → fields ++ (body ++ end) ≡ staged stamp body gate
three_pieces stamp body fields end gate first last =
    let r : Record = record { stamp = stamp; body = body } in
    ap (λ (l : List ℕ). l ++ (body ++ end)) first
    ∙ ap (λ (l : List ℕ). fields_of Second r ++ (body ++ l)) last
    ∙ ap (λ (l : List ℕ). fields_of Second r ++ l) (sym (append_assoc body (check_of Second r) (gate ∷ [])))
    ∙ sym (append_assoc (fields_of Second r) (body ++ check_of Second r) (gate ∷ []))

-- three writes, one after the other, are one
pub three_writes : (place : ℕ) (fields body end file : List ℕ) → length fields ≡ 24
    → written (place + 24 + length body) end (written (place + 24) body (written place fields file)) ≡ written place (fields ++ (body ++ end)) file
three_writes place fields body end file size =
    let at : place + 24 ≡ place + length fields = omega (arith, size) in
    let next : place + 24 + length body ≡ place + length (fields ++ body) = omega (arith, size, length-append fields body) in
    ap (λ (p : ℕ). written (place + 24 + length body) end (written p body (written place fields file))) at
    ∙ ap (λ (f : List ℕ). written (place + 24 + length body) end f) (written_more place fields body file)
    ∙ ap (λ (p : ℕ). written p end (written place (fields ++ body) file)) next
    ∙ written_more place (fields ++ body) end file
    ∙ ap (λ (l : List ℕ). written place l file) (append_assoc fields body end)

-- what a record takes is within what all take
pub room_within : (rs : List Record) (i : ℕ) (r : Record) → i < length rs → slice_get rs i ≡ Some r → room_for (take i rs) + (57 + length r.body) ≤ room_for rs
room_within rs i r within is = omega (arith, room_next rs i r within is, sum_by-take-le record_length rs (i + 1))

pub stage_next : (old mid new : DiskState) (place at i : ℕ) (rs : List Record) (r : Record) (body : List ℕ) → i < length rs → slice_get rs i ≡ Some r → body ≡ r.body
    → Made old mid place (staged_on (take i rs)) at → ForSome mid.content (λ file. new.content ≡ Some (written at (staged r.stamp body 1) file))
    → Made old new place (staged_on (take (i + 1) rs)) (at + (57 + length body))
stage_next old mid new place at i rs r body within is same made puts =
    let done : staged_on (take i rs) ++ staged r.stamp body 1 ≡ staged_on (take (i + 1) rs) =
    ap (λ (l : List ℕ). staged_on (take i rs) ++ staged r.stamp l 1) same ∙ sym (staged_on_more (take i rs) r) ∙ ap staged_on (sym (item_more rs i r within is)) in
    let end : at + length (staged r.stamp body 1) ≡ at + (57 + length body) = ap (λ (n : ℕ). at + n) (length-staged r.stamp body 1) in
    subst (λ (l : List ℕ). Made old new place l (at + (57 + length body))) done
    (subst (λ (n : ℕ). Made old new place (staged_on (take i rs) ++ staged r.stamp body 1) n) end
    (made_more old mid new place at (staged_on (take i rs)) (staged r.stamp body 1) made puts))

pub stage_end : {T E : Type 0} (old mid new : DiskState) (place at last : ℕ) (rs : List Record) (r : Record) (body : List ℕ) (result : Result T E) → length rs ≡ last + 1
    → slice_get rs last ≡ Some r → body ≡ r.body → at ≡ place + room_for (take last rs) → Made old mid place (staged_on (take last rs)) at → Run old mid (Torn place (room_for rs))
    → old.moment ≤ mid.moment → old.faults ≤ mid.faults → WritesDurably mid new at (staged_records (one r.stamp body)) result → WritesDurably old new place (staged_records rs) result
stage_end old mid new place at last rs r body result long is same here made crash clock count durably =
    let first : List Record = take last rs in
    let whole : rs ≡ first ++ r ∷ [] = length-take_all rs last r long is in
    let piece : staged_records (one r.stamp body) ≡ staged r.stamp r.body 0 = staged_one r.stamp body ∙ ap (λ (l : List ℕ). staged r.stamp l 0) same in
    let all : staged_on first ++ staged r.stamp r.body 0 ≡ staged_records rs = sym (staged_last first r) ∙ ap staged_records (sym whole) in
    let room : room_for rs ≡ room_for first + (57 + length r.body) = ap room_for whole ∙ room_more first (r ∷ []) ∙ omega arith in
    let size : room_for rs ≡ length (staged_on first ++ staged r.stamp r.body 0) =
    omega (arith, room, length-append (staged_on first) (staged r.stamp r.body 0), length-staged_on first, length-staged r.stamp r.body 0) in
    subst (λ (l : List ℕ). WritesDurably old new place l result) all
    (durably_after old mid new place at (staged_on first) (staged r.stamp r.body 0) result made (omega (arith, here, length-staged_on first))
    (subst (λ (n : ℕ). Run old mid (Torn place n)) size crash) clock count
    (subst (λ (l : List ℕ). WritesDurably mid new at l result) piece durably))
