use Rattle.std.proofs.Common.{◌≡◌, ℕ, ◌+◌, ◌++◌, List, [], length, sym, refl, ◌∙◌, ap, subst, arith, length-append}
use Rattle.std.proofs.lemmas.List.{append-nil}
use Rattle.disk_core.specs.Disk.{Torn}
use Rattle.disk_core.specs.PastLaws.{torn_same}
use Rattle.disk_core.proofs.RunLaws.{started}
use Rattle.journal_core.specs.Buffer.{held_in, Gathered}
use Rattle.journal_core.proofs.Gathering.{length-held, wider, gathered_keep, gathered_flush, gathered_write, gathered_then, gathers_failed, split_is}
use Rattle.journal_core.proofs.Writing.{one_write, tears_in}
use Rattle.journal_core.proofs.buffer.Buffer.add.Goals as goal

pub returns-then-piece-room : goal.returns-then-piece-room
returns-then-piece-room g c =
    let old = g.D.Disk.state c.args.disk.now in
    let b0 = c.args.self.now in
    let piece = c.args.piece.now in
    let n : ℕ = b0.count + length piece in
    record {
      gathered = gathered_keep old b0 c.keep.new.self piece c.keep.ensures.start c.keep.ensures.count c.keep.ensures.held;
      crash = started old (Torn b0.start n) (torn_same b0.start n);
      clock = omega arith;
      cause = record { later = omega arith; failed = tt };
    }

pub returns-in_err-flush : goal.returns-in_err-flush
returns-in_err-flush g c =
    let state = g.D.Disk.state in
    let old = state c.args.disk.now in
    let b0 = c.args.self.now in
    let piece = c.args.piece.now in
    let b1 = c.keep-2.new.self in
    let prefix = c.split_at.result.0.now in
    let rest = c.split_at.result.1.now in
    let mid = state c.flush.new.disk in
    let n : ℕ = b0.count + length piece in
    let split : prefix ++ rest ≡ piece = split_is _ piece prefix rest c.split_at.ensures.front c.split_at.ensures.back in
    let sizes : length prefix + length rest ≡ length piece = sym (length-append prefix rest) ∙ ap length split in
    let run = wider old mid b0.start n b1.start (length (held_in b1)) (omega (arith, c.keep-2.ensures.start)) (omega (arith, c.keep-2.ensures.start, c.keep-2.ensures.count, length-held b1, sizes)) c.flush.ensures.writes.crash in
    gathers_failed old mid b0 c.flush.new.self piece _ c.from_residual.ensures.0 run c.flush.ensures.writes.clock c.flush.ensures.writes.cause.later c.in_err-flush.ensures.writes.cause.failed

pub returns-then-rest-lt-PIECE_LENGTH : goal.returns-then-rest-lt-PIECE_LENGTH
returns-then-rest-lt-PIECE_LENGTH g c =
    let state = g.D.Disk.state in
    let old = state c.args.disk.now in
    let b0 = c.args.self.now in
    let piece = c.args.piece.now in
    let b1 = c.keep-2.new.self in
    let prefix = c.split_at.result.0.now in
    let rest = c.split_at.result.1.now in
    let mid = state c.flush.new.disk in
    let n : ℕ = b0.count + length piece in
    let split : prefix ++ rest ≡ piece = split_is _ piece prefix rest c.split_at.ensures.front c.split_at.ensures.back in
    let sizes : length prefix + length rest ≡ length piece = sym (length-append prefix rest) ∙ ap length split in
    let run = wider old mid b0.start n b1.start (length (held_in b1)) (omega (arith, c.keep-2.ensures.start)) (omega (arith, c.keep-2.ensures.start, c.keep-2.ensures.count, length-held b1, sizes)) c.flush.ensures.writes.crash in
    let b2 = c.flush.new.self in
    let flush = c.in_ok-flush.ensures in
    let first = gathered_then old old mid b0 b1 b2 prefix [] (gathered_keep old b0 b1 prefix c.keep-2.ensures.start c.keep-2.ensures.count c.keep-2.ensures.held)
    (gathered_flush old mid b1 b2 flush.writes.puts flush.start flush.count) in
    let whole : (prefix ++ []) ++ rest ≡ piece = ap (λ (l : List ℕ). l ++ rest) (append-nil prefix) ∙ split in
    let b3 = c.keep-then-rest-lt-PIECE_LENGTH.new.self in
    let kept = c.keep-then-rest-lt-PIECE_LENGTH.ensures in
    record {
      gathered = subst (Gathered old mid b0 b3) whole (gathered_then old mid mid b0 b2 b3 (prefix ++ []) rest first (gathered_keep mid b2 b3 rest kept.start kept.count kept.held));
      crash = run;
      clock = c.flush.ensures.writes.clock;
      cause = record { later = c.flush.ensures.writes.cause.later; failed = tt };
    }

pub returns-in_err-write_at : goal.returns-in_err-write_at
returns-in_err-write_at g c =
    let state = g.D.Disk.state in
    let old = state c.args.disk.now in
    let b0 = c.args.self.now in
    let piece = c.args.piece.now in
    let b1 = c.keep-2.new.self in
    let prefix = c.split_at.result.0.now in
    let rest = c.split_at.result.1.now in
    let mid = state c.flush.new.disk in
    let n : ℕ = b0.count + length piece in
    let split : prefix ++ rest ≡ piece = split_is _ piece prefix rest c.split_at.ensures.front c.split_at.ensures.back in
    let sizes : length prefix + length rest ≡ length piece = sym (length-append prefix rest) ∙ ap length split in
    let run = wider old mid b0.start n b1.start (length (held_in b1)) (omega (arith, c.keep-2.ensures.start)) (omega (arith, c.keep-2.ensures.start, c.keep-2.ensures.count, length-held b1, sizes)) c.flush.ensures.writes.crash in
    let b2 = c.flush.new.self in
    let flush = c.in_ok-flush.ensures in
    let first = gathered_then old old mid b0 b1 b2 prefix [] (gathered_keep old b0 b1 prefix c.keep-2.ensures.start c.keep-2.ensures.count c.keep-2.ensures.held)
    (gathered_flush old mid b1 b2 flush.writes.puts flush.start flush.count) in
    let whole : (prefix ++ []) ++ rest ≡ piece = ap (λ (l : List ℕ). l ++ rest) (append-nil prefix) ∙ split in
    let new = state c.write_at.new.self in
    let write = one_write mid new b2.start rest _ c.write_at.ensures in
    let all = tears_in old mid new b0.start n b2.start (length rest) first.low (omega (arith, first.end, flush.count, sizes, ap length (append-nil prefix))) run write.crash in
    gathers_failed old new b0 b2 piece _ c.from_residual-in_err-write_at.ensures.0 all (omega (arith, c.flush.ensures.writes.clock, write.clock))
    (omega (arith, c.flush.ensures.writes.cause.later, write.cause.later)) (omega (arith, c.flush.ensures.writes.cause.later, c.in_err-write_at.ensures.cause.failed))

pub returns : goal.returns
returns g c =
    let state = g.D.Disk.state in
    let old = state c.args.disk.now in
    let b0 = c.args.self.now in
    let piece = c.args.piece.now in
    let b1 = c.keep-2.new.self in
    let prefix = c.split_at.result.0.now in
    let rest = c.split_at.result.1.now in
    let mid = state c.flush.new.disk in
    let n : ℕ = b0.count + length piece in
    let split : prefix ++ rest ≡ piece = split_is _ piece prefix rest c.split_at.ensures.front c.split_at.ensures.back in
    let sizes : length prefix + length rest ≡ length piece = sym (length-append prefix rest) ∙ ap length split in
    let run = wider old mid b0.start n b1.start (length (held_in b1)) (omega (arith, c.keep-2.ensures.start)) (omega (arith, c.keep-2.ensures.start, c.keep-2.ensures.count, length-held b1, sizes)) c.flush.ensures.writes.crash in
    let b2 = c.flush.new.self in
    let flush = c.in_ok-flush.ensures in
    let first = gathered_then old old mid b0 b1 b2 prefix [] (gathered_keep old b0 b1 prefix c.keep-2.ensures.start c.keep-2.ensures.count c.keep-2.ensures.held)
    (gathered_flush old mid b1 b2 flush.writes.puts flush.start flush.count) in
    let whole : (prefix ++ []) ++ rest ≡ piece = ap (λ (l : List ℕ). l ++ rest) (append-nil prefix) ∙ split in
    let new = state c.write_at.new.self in
    let write = one_write mid new b2.start rest _ c.write_at.ensures in
    let all = tears_in old mid new b0.start n b2.start (length rest) first.low (omega (arith, first.end, flush.count, sizes, ap length (append-nil prefix))) run write.crash in
    let wrote = one_write mid new b2.start rest _ c.in_ok-write_at.ensures in
    record {
      gathered = subst (Gathered old new b0 _) whole (gathered_then old mid new b0 b2 _ (prefix ++ []) rest first (gathered_write mid new b2 _ rest wrote.puts flush.count refl flush.count));
      crash = all;
      clock = omega (arith, c.flush.ensures.writes.clock, write.clock);
      cause = record { later = omega (arith, c.flush.ensures.writes.cause.later, write.cause.later); failed = tt };
    }
