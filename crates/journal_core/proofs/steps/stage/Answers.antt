use Rattle.std.proofs.Common.{◌≡◌, ℕ, ◌+◌, ◌∷◌, ◌++◌, List, [], length, Some, ◌∙◌, ap, arith, length-append}
use Rattle.sha2.specs.Sha256.{sha256}
use Rattle.std.specs.Option.{option_map}
use Rattle.disk_core.specs.Disk.{written, Torn}
use Rattle.disk_core.specs.PastLaws.{torn_same}
use Rattle.disk_core.proofs.RunLaws.{started, tears_on}
use Rattle.journal_core.specs.Steps.{staged}
use Rattle.journal_core.proofs.Results.{on_ok}
use Rattle.journal_core.proofs.Staging.{three_pieces, three_writes}
use Rattle.journal_core.proofs.Writing.{writes_failed, cause_then}
use Rattle.journal_core.proofs.Written.{length-staged, length-fields}
use Rattle.journal_core.proofs.steps.stage.Goals as goal

pub returns-in_err-write_at : goal.returns-in_err-write_at
returns-in_err-write_at g c =
    let place = c.args.place in
    let body = c.args.body.now in
    let n : ℕ = length (staged c.args.stamp body c.args.next_gate) in
    let long : n ≡ 57 + length body = length-staged c.args.stamp body c.args.next_gate in
    let size : length c.fields-fields.result ≡ 24 = ap length c.fields-fields.ensures ∙ length-fields (length body) c.args.stamp in
    let first = tears_on _ _ _ place n place c.fields-fields.result _ (omega arith) (omega (arith, size, long)) (started _ (Torn place n) (torn_same place n)) c.write_at.ensures in
    writes_failed _ _ place _ _ c.from_residual.ensures.0 first c.write_at.ensures.moves.clock c.write_at.ensures.cause.later c.in_err-write_at.ensures.cause.failed

pub returns-in_err-write_at-2 : goal.returns-in_err-write_at-2
returns-in_err-write_at-2 g c =
    let place = c.args.place in
    let body = c.args.body.now in
    let n : ℕ = length (staged c.args.stamp body c.args.next_gate) in
    let long : n ≡ 57 + length body = length-staged c.args.stamp body c.args.next_gate in
    let size : length c.fields-fields.result ≡ 24 = ap length c.fields-fields.ensures ∙ length-fields (length body) c.args.stamp in
    let first = tears_on _ _ _ place n place c.fields-fields.result _ (omega arith) (omega (arith, size, long)) (started _ (Torn place n) (torn_same place n)) c.write_at.ensures in
    let second = tears_on _ _ _ place n (place + 24) body _ (omega arith) (omega (arith, long)) first c.write_at-2.ensures in
    writes_failed _ _ place _ _ c.from_residual-in_err-write_at-2.ensures.0 second (omega (arith, c.write_at.ensures.moves.clock, c.write_at-2.ensures.moves.clock))
    (omega (arith, c.write_at.ensures.cause.later, c.write_at-2.ensures.cause.later)) (omega (arith, c.write_at.ensures.cause.later, c.in_err-write_at-2.ensures.cause.failed))

pub returns : goal.returns
returns g c =
    let place = c.args.place in
    let body = c.args.body.now in
    let fields = c.fields-fields.result in
    let end = c.end_of-end.result in
    let n : ℕ = length (staged c.args.stamp body c.args.next_gate) in
    let long : n ≡ 57 + length body = length-staged c.args.stamp body c.args.next_gate in
    let size : length fields ≡ 24 = ap length c.fields-fields.ensures ∙ length-fields (length body) c.args.stamp in
    let checked = c.end_of-end.ensures ∙ ap (λ (l : List ℕ). l ++ c.args.next_gate ∷ []) c.digest.ensures in
    let summed = ap (λ (l : List ℕ). sha256 (l ++ body) ++ c.args.next_gate ∷ []) c.fields-fields.ensures in
    let whole = three_pieces c.args.stamp body fields end c.args.next_gate c.fields-fields.ensures (checked ∙ summed) in
    let first = tears_on _ _ _ place n place fields _ (omega arith) (omega (arith, size, long)) (started _ (Torn place n) (torn_same place n)) c.write_at.ensures in
    let second = tears_on _ _ _ place n (place + 24) body _ (omega arith) (omega (arith, long)) first c.write_at-2.ensures in
    let third = tears_on _ _ _ place n (place + 24 + length body) end _ (omega arith) (omega (arith, long, ap length whole, length-append fields (body ++ end), length-append body end, size)) second c.write_at-3.ensures in
    record {
      puts = on_ok c.write_at-3.result (λ last file is.
          last
          ∙ ap (option_map (written (place + 24 + length body) end)) (c.in_ok-write_at-2.ensures.puts ∙ ap (option_map (written (place + 24) body)) (c.in_ok-write_at.ensures.puts ∙ ap (option_map (written place fields)) is))
          ∙ ap Some (three_writes place fields body end file size ∙ ap (λ (l : List ℕ). written place l file) whole)) c.write_at-3.ensures.puts;
      crash = third;
      clock = omega (arith, c.write_at.ensures.moves.clock, c.write_at-2.ensures.moves.clock, c.write_at-3.ensures.moves.clock);
      cause = cause_then _ _ _ c.write_at-3.result (omega (arith, c.write_at.ensures.cause.later, c.write_at-2.ensures.cause.later)) c.write_at-3.ensures.cause;
    }
