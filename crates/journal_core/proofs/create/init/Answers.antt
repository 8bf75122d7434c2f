use Rattle.std.proofs.Common.{◌≡◌, List, ℕ, [], Some, length, sym, ◌∙◌, ap, subst, arith, rules}
use Rattle.std.proofs.lemmas.List.{nil_from_length}
use Rattle.disk_core.proofs.RunLaws.{reported, alone_call}
use Rattle.journal_core.specs.File.{HoldsAt}
use Rattle.journal_core.specs.Init.{new_file}
use Rattle.journal_core.specs.declared.layout.Format.TheVariants.{Second}
use Rattle.journal_core.proofs.Founding.{holds_new, founds_none, founds_after}
use Rattle.journal_core.proofs.create.init.Goals as goal

pub returns-in-Ok-clause-refused : goal.returns-in-Ok-clause-refused
returns-in-Ok-clause-refused g c =
    let alone = alone_call _ _ _ c.length.ensures.reads in
    record {
      cause = λ file is.
          let long = c.in-Ok.ensures.value file is in
          (long, λ empty. c.in-Ok.length-test.1 (long ∙ ap length empty));
      unchanged = λ count is. (search rules, alone);
      spared = λ file is filled. alone;
      disk_fault = λ is. absurd (cc);
      crash = λ is. absurd (cc);
      counted = alone.count;
      clock = alone.clock;
    }

pub returns-in-Err-clause-refused : goal.returns-in-Err-clause-refused
returns-in-Err-clause-refused g c =
    let alone = alone_call _ _ _ c.length.ensures.reads in
    record {
      cause = λ file is. tt;
      unchanged = λ count is. absurd (cc);
      spared = λ file is filled. alone;
      disk_fault = λ is. c.in-Err.ensures.reads.cause.failed;
      crash = λ fault last now file is empty. founds_none _ _ (alone.crash last now).1 (c.length.ensures.reads.moves.syncs last now);
      counted = alone.count;
      clock = alone.clock;
    }

pub returns-in-Ok-write_new-clause-made : goal.returns-in-Ok-write_new-clause-made
returns-in-Ok-write_new-clause-made g c =
    let state = g.D.Disk.state in
    let alone = alone_call _ _ _ c.length.ensures.reads in
    let read = c.in-Ok-eq0.ensures in
    let empty : (file : List ℕ) → (state c.args.disk).content ≡ Some file → file ≡ [] =
    λ file is. nil_from_length file (sym (read.value file is) ∙ c.in-Ok-eq0.field-0-test) in
    let new = c.in-Ok-write_new.ensures in
    let bytes : (file : List ℕ) → (state c.write_new.new.disk).content ≡ Some file → file ≡ new_file 68 c.args.area =
    λ last now.
    let mid = reported (state c.length.new.self).content (new.reported last now) in
    new.bytes mid.0 mid.1 (empty mid.0 (sym read.reads.same ∙ mid.1)) last now in
    record {
      empty = empty;
      bytes = bytes;
      holds = λ last now. subst (λ (f : List ℕ). HoldsAt Second f c.args.area 0 []) (sym (bytes last now)) (holds_new c.args.area c.requires.least c.requires.most);
      settled = new.settled;
      crash = λ last now.
          let mid = reported (state c.length.new.self).content (new.reported last now) in
          let span = (alone.crash mid.0 mid.1).1 in
          let founds = new.crash last now mid.0 mid.1 (empty mid.0 (sym read.reads.same ∙ mid.1)) in
          let synced = founds.1 in (
            founds_after _ _ _ span (c.length.ensures.reads.moves.syncs mid.0 mid.1) founds.0,
            (synced.0, omega (arith, synced.1, span.later), synced.2, synced.3),
          );
      count = omega (arith, alone.count, new.cause.later);
      clock = omega (arith, alone.clock, new.clock);
    }

pub returns-in-Err-write_new-clause-refused : goal.returns-in-Err-write_new-clause-refused
returns-in-Err-write_new-clause-refused g c =
    let state = g.D.Disk.state in
    let alone = alone_call _ _ _ c.length.ensures.reads in
    let read = c.in-Ok-eq0.ensures in
    let empty : (file : List ℕ) → (state c.args.disk).content ≡ Some file → file ≡ [] =
    λ file is. nil_from_length file (sym (read.value file is) ∙ c.in-Ok-eq0.field-0-test) in
    let new = c.in-Err-write_new.ensures in
    record {
      cause = λ file is. tt;
      unchanged = λ count is. absurd (cc);
      spared = λ file is filled. absurd (filled (empty file is));
      disk_fault = λ is. omega (arith, alone.count, new.cause.failed);
      crash = λ fault last now file is none.
          let mid = reported (state c.length.new.self).content (new.reported last now) in
          founds_after _ _ _ (alone.crash mid.0 mid.1).1 (c.length.ensures.reads.moves.syncs mid.0 mid.1)
          (new.crash last now mid.0 mid.1 (empty mid.0 (sym read.reads.same ∙ mid.1))).0;
      counted = omega (arith, alone.count, new.cause.later);
      clock = omega (arith, alone.clock, new.clock);
    }
