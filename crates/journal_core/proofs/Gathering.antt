-- Pieces that go through a buffer into a file.
use Rattle.std.proofs.Common.{◌≡◌, ℕ, ◌+◌, ◌≤◌, ◌<◌, List, [], ◌∷◌, ◌++◌, length, take, drop, Result, Ok, Err, Some, sym, ◌∙◌, ap, arith, append_assoc, length-append, length-take, take-append-drop}
use Rattle.std.specs.Prelude.{IsErr, slice_get}
use Rattle.std.specs.Option.{ForSome}
use Rattle.std.proofs.lemmas.List.{append-nil, take_at}
use Rattle.std.proofs.lemmas.List.Concat.{flat_map-append}
use Rattle.std.specs.List.{flat_map}
use Rattle.journal_core.specs.File.{fields_of, check_of, opened}
use Rattle.journal_core.specs.declared.layout.Format.TheVariants.{Second}
use Rattle.journal_core.specs.declared.records.Record.{Record}
use Rattle.journal_core.specs.declared.records.Stamp.{Stamp}
use Rattle.journal_core.proofs.Written.{item_more}
use Rattle.base_core.specs.Causes.{Rose}
use Rattle.disk_core.specs.Disk.{DiskState, written, Torn}
use Rattle.disk_core.specs.Runs.{Run}
use Rattle.disk_core.specs.PastLaws.{torn_same}
use Rattle.disk_core.proofs.RunLaws.{started}
use Rattle.journal_core.specs.Buffer.{held_in, Gathered, Gathers}
use Rattle.journal_core.specs.declared.buffer.Buffer.{Buffer}
use Rattle.journal_core.proofs.Lists.{written_more}
use Rattle.journal_core.proofs.Writing.{tears_in}

pub length-held : (buffer : Buffer) → length (held_in buffer) ≡ buffer.count
length-held buffer = omega (arith, length-take buffer.count buffer.bytes.items, buffer.within, buffer.size)

pub held_none : (buffer : Buffer) → buffer.count ≡ 0 → held_in buffer ≡ []
held_none buffer none = ap (λ (n : ℕ). take n buffer.bytes.items) none

-- a run in a part of a wider range
pub wider : (old new : DiskState) (place n at size : ℕ) → place ≤ at → at + size ≤ place + n → Run old new (Torn at size) → Run old new (Torn place n)
wider old new place n at size low high run = tears_in old old new place n at size low high (started old (Torn place n) (torn_same place n)) run

-- no call of the disk
pub gathered_keep : (old : DiskState) (before after : Buffer) (piece : List ℕ) → after.start ≡ before.start → after.count ≡ before.count + length piece → held_in after ≡ held_in before ++ piece
    → Gathered old old before after piece
gathered_keep old before after piece start count held = record {
  low = omega (arith, start);
  end = omega (arith, start, count);
  puts = λ file is. (
    file,
    is,
    λ next. ap (λ (s : ℕ). written s (held_in after ++ next) file) start ∙ ap (λ (l : List ℕ). written before.start (l ++ next) file) held
        ∙ ap (λ (l : List ℕ). written before.start l file) (append_assoc (held_in before) piece next),
  );
}

-- what waited was written
pub gathered_flush : (old new : DiskState) (before after : Buffer) → ForSome old.content (λ file. new.content ≡ Some (written before.start (held_in before) file))
    → after.start ≡ before.start + before.count → after.count ≡ 0 → Gathered old new before after []
gathered_flush old new before after puts start count = record {
  low = omega (arith, start);
  end = omega (arith, start, count);
  puts = λ file is. (
    written before.start (held_in before) file,
    puts file is,
    λ next. ap (λ (l : List ℕ). written after.start (l ++ next) (written before.start (held_in before) file)) (held_none after count)
        ∙ (let at : after.start ≡ before.start + length (held_in before) = omega (arith, start, length-held before) in ap (λ (s : ℕ). written s next (written before.start (held_in before) file)) at)
        ∙ written_more before.start (held_in before) next file,
  );
}

-- a piece was written past an empty buffer
pub gathered_write : (old new : DiskState) (before after : Buffer) (piece : List ℕ) → ForSome old.content (λ file. new.content ≡ Some (written before.start piece file))
    → before.count ≡ 0 → after.start ≡ before.start + length piece → after.count ≡ 0 → Gathered old new before after piece
gathered_write old new before after piece puts none start count = record {
  low = omega (arith, start);
  end = omega (arith, start, count, none);
  puts = λ file is. (
    written before.start piece file,
    puts file is,
    λ next. ap (λ (l : List ℕ). written after.start (l ++ next) (written before.start piece file)) (held_none after count)
        ∙ ap (λ (s : ℕ). written s next (written before.start piece file)) start
        ∙ written_more before.start piece next file
        ∙ ap (λ (l : List ℕ). written before.start (l ++ (piece ++ next)) file) (sym (held_none before none)),
  );
}

pub gathered_then : (old mid new : DiskState) (a b c : Buffer) (p q : List ℕ) → Gathered old mid a b p → Gathered mid new b c q → Gathered old new a c (p ++ q)
gathered_then old mid new a b c p q first second = record {
  low = omega (arith, first.low, second.low);
  end = omega (arith, first.end, second.end, length-append p q);
  puts = λ file is.
      let (now, there, goes) = first.puts file is in
      let (later, here, more) = second.puts now there in (
        later,
        here,
        λ next. more next ∙ goes (q ++ next) ∙ ap (λ (l : List ℕ). written a.start (held_in a ++ l) file) (sym (append_assoc p q next)),
      );
}

pub gathers_failed : {T E : Type 0} (old new : DiskState) (a b : Buffer) (piece : List ℕ) (result : Result T E) → IsErr result → Run old new (Torn a.start (a.count + length piece))
    → old.moment ≤ new.moment → old.faults ≤ new.faults → Rose old.faults new.faults → Gathers old new a b piece result
gathers_failed old new a b piece (Ok x) is crash clock count rose = absurd (cc)
gathers_failed old new a b piece (Err e) is crash clock count rose = record { gathered = tt; crash = crash; clock = clock; cause = record { later = count; failed = rose } }

-- what a crash leaves of two steps
pub gathers_crash : (old mid new : DiskState) (a b : Buffer) (p q : List ℕ) → Gathered old mid a b p → Run old mid (Torn a.start (a.count + length p)) → Run mid new (Torn b.start (b.count + length q))
    → Run old new (Torn a.start (a.count + length (p ++ q)))
gathers_crash old mid new a b p q first run next =
    let n : ℕ = a.count + length (p ++ q) in
    tears_in old mid new a.start n b.start (b.count + length q) first.low (omega (arith, first.end, length-append p q))
    (wider old mid a.start n a.start (a.count + length p) (omega arith) (omega (arith, length-append p q)) run) next

pub gathers_then : {T E : Type 0} (old mid new : DiskState) (a b c : Buffer) (p q : List ℕ) (result : Result T E) → Gathered old mid a b p → Run old mid (Torn a.start (a.count + length p))
    → old.moment ≤ mid.moment → old.faults ≤ mid.faults → Gathers mid new b c q result → Gathers old new a c (p ++ q) result
gathers_then old mid new a b c p q (Ok x) first run clock count next = record {
  gathered = gathered_then old mid new a b c p q first next.gathered;
  crash = gathers_crash old mid new a b p q first run next.crash;
  clock = omega (arith, clock, next.clock);
  cause = record { later = omega (arith, count, next.cause.later); failed = tt };
}
gathers_then old mid new a b c p q (Err e) first run clock count next = record {
  gathered = tt;
  crash = gathers_crash old mid new a b p q first run next.crash;
  clock = omega (arith, clock, next.clock);
  cause = record { later = omega (arith, count, next.cause.later); failed = omega (arith, count, next.cause.failed) };
}

-- all that was gathered is written
pub flushed : (old mid new : DiskState) (a b : Buffer) (place : ℕ) (done : List ℕ) → Gathered old mid a b done → a.start ≡ place → a.count ≡ 0
    → ForSome mid.content (λ file. new.content ≡ Some (written b.start (held_in b) file)) → ForSome old.content (λ file. new.content ≡ Some (written place done file))
flushed old mid new a b place done gathered start none puts = λ file is.
    let (now, there, goes) = gathered.puts file is in
    puts now there
    ∙ ap Some (ap (λ (l : List ℕ). written b.start l now) (sym (append-nil (held_in b))) ∙ goes []
    ∙ ap (λ (l : List ℕ). written a.start (l ++ (done ++ [])) file) (held_none a none)
    ∙ ap (λ (l : List ℕ). written a.start l file) (append-nil done)
    ∙ ap (λ (s : ℕ). written s done file) start)

-- a call that failed on the way
pub stopped : {T E : Type 0} (old new : DiskState) (a b : Buffer) (part whole : List ℕ) (result : Result T E) → IsErr result → length part ≤ length whole → Run old new (Torn a.start (a.count + length part))
    → old.moment ≤ new.moment → old.faults ≤ new.faults → Rose old.faults new.faults → Gathers old new a b whole result
stopped old new a b part whole result is le run clock count rose =
    gathers_failed old new a b whole result is (wider old new a.start (a.count + length whole) a.start (a.count + length part) (omega arith) (omega (arith, le)) run) clock count rose

-- the four pieces of a record
pub opened_pieces : (stamp : Stamp) (body fields digest : List ℕ) → fields ≡ fields_of Second (record { stamp = stamp; body = body }) → digest ≡ check_of Second (record { stamp = stamp; body = body })
    → (((1 ∷ []) ++ fields) ++ body) ++ digest ≡ opened Second (record { stamp = stamp; body = body })
opened_pieces stamp body fields digest first last =
    ap (λ (l : List ℕ). 1 ∷ l)
    (append_assoc fields body digest ∙ ap (λ (l : List ℕ). l ++ (body ++ digest)) first
    ∙ ap (λ (l : List ℕ). fields_of Second (record { stamp = stamp; body = body }) ++ (body ++ l)) last)

pub kept_held : (m items new piece post : List ℕ) (count : ℕ) → m ≡ items → new ≡ piece → count ≤ length items → take (count + length piece) (take count m ++ (new ++ post)) ≡ take count items ++ piece
kept_held m items new piece post count same copied le =
    ap (λ (l : List ℕ). take (count + length piece) (take count l ++ (new ++ post))) same
    ∙ ap (λ (l : List ℕ). take (count + length piece) (take count items ++ (l ++ post))) copied
    ∙ ap (λ (l : List ℕ). take (count + length piece) l) (sym (append_assoc (take count items) piece post))
    ∙ take_at (take count items ++ piece) post (count + length piece) (omega (arith, length-append (take count items) piece, length-take count items, le))

-- records that were gathered, and one more
pub flat_more : (rs : List Record) (i : ℕ) (r : Record) (body : List ℕ) → i < length rs → slice_get rs i ≡ Some r → body ≡ r.body
    → flat_map (opened Second) (take i rs) ++ opened Second (record { stamp = r.stamp; body = body }) ≡ flat_map (opened Second) (take (i + 1) rs)
flat_more rs i r body within is same =
    ap (λ (l : List ℕ). flat_map (opened Second) (take i rs) ++ opened Second (record { stamp = r.stamp; body = l })) same
    ∙ ap (λ (l : List ℕ). flat_map (opened Second) (take i rs) ++ l) (sym (append-nil (opened Second r)))
    ∙ sym (flat_map-append (opened Second) (take i rs) (r ∷ []))
    ∙ ap (flat_map (opened Second)) (sym (item_more rs i r within is))

pub split_is : (k : ℕ) (piece first rest : List ℕ) → first ≡ take k piece → rest ≡ drop k piece → first ++ rest ≡ piece
split_is k piece first rest one two = ap (λ (l : List ℕ). l ++ rest) one ∙ ap (λ (l : List ℕ). take k piece ++ l) two ∙ take-append-drop k piece
