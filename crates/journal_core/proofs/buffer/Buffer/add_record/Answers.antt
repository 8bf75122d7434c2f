use Rattle.std.proofs.Common.{◌≡◌, ℕ, ◌+◌, ◌∷◌, ◌++◌, List, [], length, ◌∙◌, ap, subst, arith, length-append}
use Rattle.sha2.specs.Sha256.{sha256}
use Rattle.journal_core.specs.Buffer.{Gathers}
use Rattle.journal_core.specs.File.{opened}
use Rattle.journal_core.specs.declared.layout.Format.TheVariants.{Second}
use Rattle.journal_core.specs.declared.records.Record.{Record}
use Rattle.journal_core.proofs.Gathering.{gathers_then, stopped, opened_pieces}
use Rattle.journal_core.proofs.Written.{length-opened, length-fields}
use Rattle.journal_core.proofs.buffer.Buffer.add_record.Goals as goal

pub returns-in_err-add : goal.returns-in_err-add
returns-in_err-add g c =
    let state = g.D.Disk.state in
    let old = state c.args.disk.now in
    let a = c.args.self.now in
    let body = c.args.body.now in
    let r : Record = record { stamp = c.args.stamp; body = body } in
    let whole : List ℕ = opened Second r in
    let long : length whole ≡ 57 + length body = length-opened r in
    let fields = c.fields-fields.result in
    let size : length fields ≡ 24 = ap length c.fields-fields.ensures ∙ length-fields (length body) c.args.stamp in
    stopped old (state c.add.new.disk) a c.add.new.self (1 ∷ []) whole _ c.from_residual.ensures.0 (omega (arith, long)) c.add.ensures.crash c.add.ensures.clock c.add.ensures.cause.later c.in_err-add.ensures.cause.failed

pub returns-in_err-add-2 : goal.returns-in_err-add-2
returns-in_err-add-2 g c =
    let state = g.D.Disk.state in
    let old = state c.args.disk.now in
    let a = c.args.self.now in
    let body = c.args.body.now in
    let r : Record = record { stamp = c.args.stamp; body = body } in
    let whole : List ℕ = opened Second r in
    let long : length whole ≡ 57 + length body = length-opened r in
    let fields = c.fields-fields.result in
    let size : length fields ≡ 24 = ap length c.fields-fields.ensures ∙ length-fields (length body) c.args.stamp in
    let s1 = state c.add.new.disk in
    let b1 = c.add.new.self in
    let g1 = c.in_ok-add.ensures in
    let s2 = state c.add-2.new.disk in
    let b2 = c.add-2.new.self in
    let e = gathers_then old s1 s2 a b1 b2 (1 ∷ []) fields c.add-2.result g1.gathered g1.crash g1.clock g1.cause.later c.add-2.ensures in
    stopped old s2 a b2 ((1 ∷ []) ++ fields) whole _ c.from_residual-in_err-add-2.ensures.0 (omega (arith, long, size)) e.crash e.clock e.cause.later (omega (arith, g1.cause.later, c.in_err-add-2.ensures.cause.failed))

pub returns-in_err-add-3 : goal.returns-in_err-add-3
returns-in_err-add-3 g c =
    let state = g.D.Disk.state in
    let old = state c.args.disk.now in
    let a = c.args.self.now in
    let body = c.args.body.now in
    let r : Record = record { stamp = c.args.stamp; body = body } in
    let whole : List ℕ = opened Second r in
    let long : length whole ≡ 57 + length body = length-opened r in
    let fields = c.fields-fields.result in
    let size : length fields ≡ 24 = ap length c.fields-fields.ensures ∙ length-fields (length body) c.args.stamp in
    let s1 = state c.add.new.disk in
    let b1 = c.add.new.self in
    let g1 = c.in_ok-add.ensures in
    let s2 = state c.add-2.new.disk in
    let b2 = c.add-2.new.self in
    let g2 = gathers_then old s1 s2 a b1 b2 (1 ∷ []) fields _ g1.gathered g1.crash g1.clock g1.cause.later c.in_ok-add-2.ensures in
    let s3 = state c.add-3.new.disk in
    let b3 = c.add-3.new.self in
    let e = gathers_then old s2 s3 a b2 b3 ((1 ∷ []) ++ fields) body c.add-3.result g2.gathered g2.crash g2.clock g2.cause.later c.add-3.ensures in
    stopped old s3 a b3 (((1 ∷ []) ++ fields) ++ body) whole _ c.from_residual-in_err-add-3.ensures.0 (omega (arith, long, size, length-append fields body)) e.crash e.clock e.cause.later
    (omega (arith, g2.cause.later, c.in_err-add-3.ensures.cause.failed))

pub returns : goal.returns
returns g c =
    let state = g.D.Disk.state in
    let old = state c.args.disk.now in
    let a = c.args.self.now in
    let body = c.args.body.now in
    let r : Record = record { stamp = c.args.stamp; body = body } in
    let whole : List ℕ = opened Second r in
    let long : length whole ≡ 57 + length body = length-opened r in
    let fields = c.fields-fields.result in
    let size : length fields ≡ 24 = ap length c.fields-fields.ensures ∙ length-fields (length body) c.args.stamp in
    let s1 = state c.add.new.disk in
    let b1 = c.add.new.self in
    let g1 = c.in_ok-add.ensures in
    let s2 = state c.add-2.new.disk in
    let b2 = c.add-2.new.self in
    let g2 = gathers_then old s1 s2 a b1 b2 (1 ∷ []) fields _ g1.gathered g1.crash g1.clock g1.cause.later c.in_ok-add-2.ensures in
    let s3 = state c.add-3.new.disk in
    let b3 = c.add-3.new.self in
    let g3 = gathers_then old s2 s3 a b2 b3 ((1 ∷ []) ++ fields) body _ g2.gathered g2.crash g2.clock g2.cause.later c.in_ok-add-3.ensures in
    let s4 = state c.add-4.new.disk in
    let b4 = c.add-4.new.self in
    let digest = c.digest-digest.result in
    let summed = c.digest-digest.ensures ∙ ap (λ (l : List ℕ). sha256 (l ++ body)) c.fields-fields.ensures in
    let pieces = opened_pieces c.args.stamp body fields digest c.fields-fields.ensures summed in
    subst (λ (l : List ℕ). Gathers old s4 a b4 l c.add-4.result) pieces
    (gathers_then old s3 s4 a b3 b4 (((1 ∷ []) ++ fields) ++ body) digest c.add-4.result g3.gathered g3.crash g3.clock g3.cause.later c.add-4.ensures)
