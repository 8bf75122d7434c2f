use Rattle.std.proofs.Common.{◌≡◌, ◌↔◌, Bool, true, false, ℕ, ◌+◌, ◌-◌, ◌≤◌, List, ◌++◌, length, drop, refl, sym, ◌∙◌, ap, arith}
use Rattle.std.proofs.lemmas.List.{with_items_is}
use Rattle.std.specs.Prelude.{IsTrue}
use Rattle.sha2.specs.Sha256.{sha256}
use Rattle.journal_core.specs.Area.{rest_at, Reaches}
use Rattle.journal_core.specs.declared.records.Record.{Record}
use Rattle.journal_core.proofs.Reading.{short_of, first_of, next_of, reaches_next, lacks_numbers, Fields, lacks_bound, lacks_room, lacks_digest, second_whole}
use Rattle.journal_core.proofs.area.second_record.Goals as goal

no_digest : (found : Bool) (P : Type 0) → IsTrue found ↔ P → found ≡ false → P → ⊥
no_digest found P is none p = true_false found (is.1 p) none
  where
    true_false : (b : Bool) → b ≡ true → b ≡ false → ⊥
    true_false b one other = absurd (cc)

pub returns-then-not-branch-clause-found : goal.returns-then-not-branch-clause-found
returns-then-not-branch-clause-found g c = λ file is reaches.
    let rest = rest_at file c.args.place c.args.left in
    let short = short_of rest c.read_all.new.into c.in_ok-read_all.field-0 c.if-not-branch.true (c.in_ok-read_all.ensures.first file is reaches) in
    lacks_numbers rest (omega (arith, short, c.read_all.auto.into))

pub returns-then-stamp-gt-MOST_NUMBER-clause-found : goal.returns-then-stamp-gt-MOST_NUMBER-clause-found
returns-then-stamp-gt-MOST_NUMBER-clause-found g c = λ file is reaches.
    let place = c.args.place in
    let left = c.args.left in
    let n = c.parts_of-length.result.0 in
    let stamp = c.parts_of-length.result.1 in
    let rest = rest_at file place left in
    let fields = c.read_all.new.into in
    let size : length fields ≡ 24 = omega (arith, c.read_all.auto.into) in
    let fits : 24 ≤ left = omega (arith, size, c.in_ok-read_all.ensures.fits c.if-not-branch.false) in
    let after = rest_at file (place + 24) (left - 24) in
    let has : Fields rest fields after n stamp.number stamp.time = record {
      bytes = c.parts_of-length.ensures.bytes;
      small = c.parts_of-length.ensures.small;
      long = omega (arith, reaches, c.requires.range);
      is = next_of file place left 24 fields size fits (first_of rest fields c.in_ok-read_all.field-0 c.if-not-branch.false (c.in_ok-read_all.ensures.first file is reaches));
    } in
    lacks_bound rest fields after n stamp.number stamp.time has (omega (arith, c.if-stamp-gt-MOST_NUMBER.true))

pub returns-then-left-le32-clause-found : goal.returns-then-left-le32-clause-found
returns-then-left-le32-clause-found g c = λ file is reaches.
    let rest = rest_at file c.args.place c.args.left in
    let fits : 24 ≤ c.args.left = omega (arith, c.read_all.auto.into, c.in_ok-read_all.ensures.fits c.if-not-branch.false) in
    lacks_numbers rest (omega (arith, c.if-left-le32.true, reaches))

pub returns-then-length-left-clause-found : goal.returns-then-length-left-clause-found
returns-then-length-left-clause-found g c = λ file is reaches.
    let place = c.args.place in
    let left = c.args.left in
    let n = c.parts_of-length.result.0 in
    let stamp = c.parts_of-length.result.1 in
    let rest = rest_at file place left in
    let fields = c.read_all.new.into in
    let size : length fields ≡ 24 = omega (arith, c.read_all.auto.into) in
    let fits : 24 ≤ left = omega (arith, size, c.in_ok-read_all.ensures.fits c.if-not-branch.false) in
    let after = rest_at file (place + 24) (left - 24) in
    let has : Fields rest fields after n stamp.number stamp.time = record {
      bytes = c.parts_of-length.ensures.bytes;
      small = c.parts_of-length.ensures.small;
      long = omega (arith, reaches, c.requires.range);
      is = next_of file place left 24 fields size fits (first_of rest fields c.in_ok-read_all.field-0 c.if-not-branch.false (c.in_ok-read_all.ensures.first file is reaches));
    } in
    lacks_room rest fields after n stamp.number stamp.time has (omega (arith, c.if-left-le32.false, c.if-length-left.true, reaches))

pub returns-then-not-branch-2-clause-found : goal.returns-then-not-branch-2-clause-found
returns-then-not-branch-2-clause-found g c = λ file is reaches.
    let place = c.args.place in
    let left = c.args.left in
    let n = c.parts_of-length.result.0 in
    let stamp = c.parts_of-length.result.1 in
    let rest = rest_at file place left in
    let fields = c.read_all.new.into in
    let size : length fields ≡ 24 = omega (arith, c.read_all.auto.into) in
    let fits : 24 ≤ left = omega (arith, size, c.in_ok-read_all.ensures.fits c.if-not-branch.false) in
    let after = rest_at file (place + 24) (left - 24) in
    let has : Fields rest fields after n stamp.number stamp.time = record {
      bytes = c.parts_of-length.ensures.bytes;
      small = c.parts_of-length.ensures.small;
      long = omega (arith, reaches, c.requires.range);
      is = next_of file place left 24 fields size fits (first_of rest fields c.in_ok-read_all.field-0 c.if-not-branch.false (c.in_ok-read_all.ensures.first file is reaches));
    } in
    let second = c.in_ok-read_all.ensures.same ∙ is in
    let reached = reaches_next file place left 24 fits reaches in
    let body = c.read_all-2.new.into in
    let long : length body ≡ n = omega (arith, c.read_all-2.auto.into, c.deref_mut.ensures.len, c.in_ok-body.ensures.len) in
    let short = short_of after body c.in_ok-read_all-2.field-0 c.if-not-branch-2.true (c.in_ok-read_all-2.ensures.first file second reached) in
    absurd (omega (arith, short, reached, c.if-length-left.false, long))

pub returns-then-not-branch-3-clause-found : goal.returns-then-not-branch-3-clause-found
returns-then-not-branch-3-clause-found g c = λ file is reaches.
    let place = c.args.place in
    let left = c.args.left in
    let n = c.parts_of-length.result.0 in
    let stamp = c.parts_of-length.result.1 in
    let rest = rest_at file place left in
    let fields = c.read_all.new.into in
    let size : length fields ≡ 24 = omega (arith, c.read_all.auto.into) in
    let fits : 24 ≤ left = omega (arith, size, c.in_ok-read_all.ensures.fits c.if-not-branch.false) in
    let after = rest_at file (place + 24) (left - 24) in
    let has : Fields rest fields after n stamp.number stamp.time = record {
      bytes = c.parts_of-length.ensures.bytes;
      small = c.parts_of-length.ensures.small;
      long = omega (arith, reaches, c.requires.range);
      is = next_of file place left 24 fields size fits (first_of rest fields c.in_ok-read_all.field-0 c.if-not-branch.false (c.in_ok-read_all.ensures.first file is reaches));
    } in
    let second = c.in_ok-read_all.ensures.same ∙ is in
    let reached = reaches_next file place left 24 fits reaches in
    let body = c.read_all-2.new.into in
    let long : length body ≡ n = omega (arith, c.read_all-2.auto.into, c.deref_mut.ensures.len, c.in_ok-body.ensures.len) in
    let next = next_of file (place + 24) (left - 24) n body long (omega (arith, c.if-length-left.false)) (first_of after body c.in_ok-read_all-2.field-0 c.if-not-branch-2.false (c.in_ok-read_all-2.ensures.first file second reached)) in
    let third = c.in_ok-read_all-2.ensures.same ∙ second in
    let at : place + 24 + n ≡ place + (24 + n) = omega arith in
    let also : left - 24 - n ≡ left - (24 + n) = omega arith in
    let tail = rest_at file (place + (24 + n)) (left - (24 + n)) in
    let moved : rest_at file (place + 24 + n) (left - 24 - n) ≡ tail = ap (λ (k : ℕ). rest_at file k (left - 24 - n)) at ∙ ap (λ (k : ℕ). rest_at file (place + (24 + n)) k) also in
    let enough : Reaches file (place + (24 + n)) (left - (24 + n)) = reaches_next file place left (24 + n) (omega (arith, c.if-length-left.false)) reaches in
    let check = c.read_all-3.new.into in
    let width : length check ≡ 32 = omega (arith, c.read_all-3.auto.into) in
    let short = short_of tail check c.in_ok-read_all-3.field-0 c.if-not-branch-3.true (c.in_ok-read_all-3.ensures.first file third enough) in
    absurd (omega (arith, short, enough, width, c.if-length-left.false))

pub returns-then-not-has_digest-clause-found : goal.returns-then-not-has_digest-clause-found
returns-then-not-has_digest-clause-found g c = λ file is reaches.
    let place = c.args.place in
    let left = c.args.left in
    let n = c.parts_of-length.result.0 in
    let stamp = c.parts_of-length.result.1 in
    let rest = rest_at file place left in
    let fields = c.read_all.new.into in
    let size : length fields ≡ 24 = omega (arith, c.read_all.auto.into) in
    let fits : 24 ≤ left = omega (arith, size, c.in_ok-read_all.ensures.fits c.if-not-branch.false) in
    let after = rest_at file (place + 24) (left - 24) in
    let has : Fields rest fields after n stamp.number stamp.time = record {
      bytes = c.parts_of-length.ensures.bytes;
      small = c.parts_of-length.ensures.small;
      long = omega (arith, reaches, c.requires.range);
      is = next_of file place left 24 fields size fits (first_of rest fields c.in_ok-read_all.field-0 c.if-not-branch.false (c.in_ok-read_all.ensures.first file is reaches));
    } in
    let second = c.in_ok-read_all.ensures.same ∙ is in
    let reached = reaches_next file place left 24 fits reaches in
    let body = c.read_all-2.new.into in
    let long : length body ≡ n = omega (arith, c.read_all-2.auto.into, c.deref_mut.ensures.len, c.in_ok-body.ensures.len) in
    let next = next_of file (place + 24) (left - 24) n body long (omega (arith, c.if-length-left.false)) (first_of after body c.in_ok-read_all-2.field-0 c.if-not-branch-2.false (c.in_ok-read_all-2.ensures.first file second reached)) in
    let third = c.in_ok-read_all-2.ensures.same ∙ second in
    let at : place + 24 + n ≡ place + (24 + n) = omega arith in
    let also : left - 24 - n ≡ left - (24 + n) = omega arith in
    let tail = rest_at file (place + (24 + n)) (left - (24 + n)) in
    let moved : rest_at file (place + 24 + n) (left - 24 - n) ≡ tail = ap (λ (k : ℕ). rest_at file k (left - 24 - n)) at ∙ ap (λ (k : ℕ). rest_at file (place + (24 + n)) k) also in
    let enough : Reaches file (place + (24 + n)) (left - (24 + n)) = reaches_next file place left (24 + n) (omega (arith, c.if-length-left.false)) reaches in
    let check = c.read_all-3.new.into in
    let width : length check ≡ 32 = omega (arith, c.read_all-3.auto.into) in
    let last = first_of tail check c.in_ok-read_all-3.field-0 c.if-not-branch-3.false (c.in_ok-read_all-3.ensures.first file third enough) in
    let follows : after ≡ body ++ (check ++ drop (length check) tail) = next ∙ ap (λ (l : List ℕ). body ++ l) (moved ∙ last) in
    let items = c.deref.ensures.value ∙ with_items_is c.in_ok-body.body body (omega (arith, c.read_all-2.auto.into, c.deref_mut.ensures.len)) in
    let summed : sha256 (fields ++ c.deref.result.now) ≡ sha256 (fields ++ body) = ap (λ (l : List ℕ). sha256 (fields ++ l)) items in
    lacks_digest rest fields after n stamp.number stamp.time has body check (drop (length check) tail) long width follows (λ same. absurd (no_digest _ _ c.has_digest.ensures c.if-not-has_digest.true (summed ∙ same)))

pub returns-clause-found : goal.returns-clause-found
returns-clause-found g c = λ file is reaches.
    let place = c.args.place in
    let left = c.args.left in
    let n = c.parts_of-length.result.0 in
    let stamp = c.parts_of-length.result.1 in
    let rest = rest_at file place left in
    let fields = c.read_all.new.into in
    let size : length fields ≡ 24 = omega (arith, c.read_all.auto.into) in
    let fits : 24 ≤ left = omega (arith, size, c.in_ok-read_all.ensures.fits c.if-not-branch.false) in
    let after = rest_at file (place + 24) (left - 24) in
    let has : Fields rest fields after n stamp.number stamp.time = record {
      bytes = c.parts_of-length.ensures.bytes;
      small = c.parts_of-length.ensures.small;
      long = omega (arith, reaches, c.requires.range);
      is = next_of file place left 24 fields size fits (first_of rest fields c.in_ok-read_all.field-0 c.if-not-branch.false (c.in_ok-read_all.ensures.first file is reaches));
    } in
    let second = c.in_ok-read_all.ensures.same ∙ is in
    let reached = reaches_next file place left 24 fits reaches in
    let body = c.read_all-2.new.into in
    let long : length body ≡ n = omega (arith, c.read_all-2.auto.into, c.deref_mut.ensures.len, c.in_ok-body.ensures.len) in
    let next = next_of file (place + 24) (left - 24) n body long (omega (arith, c.if-length-left.false)) (first_of after body c.in_ok-read_all-2.field-0 c.if-not-branch-2.false (c.in_ok-read_all-2.ensures.first file second reached)) in
    let third = c.in_ok-read_all-2.ensures.same ∙ second in
    let at : place + 24 + n ≡ place + (24 + n) = omega arith in
    let also : left - 24 - n ≡ left - (24 + n) = omega arith in
    let tail = rest_at file (place + (24 + n)) (left - (24 + n)) in
    let moved : rest_at file (place + 24 + n) (left - 24 - n) ≡ tail = ap (λ (k : ℕ). rest_at file k (left - 24 - n)) at ∙ ap (λ (k : ℕ). rest_at file (place + (24 + n)) k) also in
    let enough : Reaches file (place + (24 + n)) (left - (24 + n)) = reaches_next file place left (24 + n) (omega (arith, c.if-length-left.false)) reaches in
    let check = c.read_all-3.new.into in
    let width : length check ≡ 32 = omega (arith, c.read_all-3.auto.into) in
    let last = first_of tail check c.in_ok-read_all-3.field-0 c.if-not-branch-3.false (c.in_ok-read_all-3.ensures.first file third enough) in
    let follows : after ≡ body ++ (check ++ drop (length check) tail) = next ∙ ap (λ (l : List ℕ). body ++ l) (moved ∙ last) in
    let items = c.deref.ensures.value ∙ with_items_is c.in_ok-body.body body (omega (arith, c.read_all-2.auto.into, c.deref_mut.ensures.len)) in
    let summed : sha256 (fields ++ c.deref.result.now) ≡ sha256 (fields ++ body) = ap (λ (l : List ℕ). sha256 (fields ++ l)) items in
    let same = c.from.ensures ∙ with_items_is c.in_ok-body.body body (omega (arith, c.read_all-2.auto.into, c.deref_mut.ensures.len)) in
    let r : Record = record { stamp = stamp; body = c.from.result } in (
      (omega (arith, c.if-stamp-gt-MOST_NUMBER.false), c.parts_of-length.ensures.small.2),
      second_whole rest fields after n stamp.number stamp.time has body check (drop (length check) tail) long follows (sym summed ∙ c.has_digest.ensures.0 c.if-not-has_digest.false) r refl refl same,
    )
