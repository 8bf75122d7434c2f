use Rattle.std.proofs.Common.{◌≡◌, ℕ, ◌≤◌, sym, false, true, List, length, Some, ◌∙◌, ap, subst, arith, rules}
use Rattle.disk_core.specs.Disk.{written, Torn}
use Rattle.disk_core.specs.Runs.{Spans}
use Rattle.disk_core.proofs.RunLaws.{reported}
use Rattle.journal_core.specs.Init.{new_file, new_length}
use Rattle.journal_core.proofs.Founding.{written_first, written_text, founds_first, founds_second, ends_synced, length-new_file}
use Rattle.journal_core.proofs.Results.{some_same, on_ok}
use Rattle.journal_core.proofs.create.write_new.Goals as goal

never_ok : false ≡ true → ⊥
never_ok is = absurd (cc)

pub returns-in_err-write_durably-clause-crash : goal.returns-in_err-write_durably-clause-crash
returns-in_err-write_durably-clause-crash g c = λ last now file is empty.
    let state = g.D.Disk.state in
    let size : length c.first_bytes-bytes.result ≤ new_length = omega (arith, ap length c.first_bytes-bytes.ensures, length-new_file 0 c.args.area) in
    let write = c.in_err-write_durably.ensures in (
      founds_first (state c.args.disk.now) (state c.write_durably.new.disk) (length c.first_bytes-bytes.result) _ size (λ moment ends. never_ok ends.0)
          (write.syncs last now) (write.writes.writes.crash last now).1,
      search rules,
    )

pub returns-clause-bytes : goal.returns-clause-bytes
returns-clause-bytes g c = on_ok c.write_durably-2.result (λ wrote file is empty last now.
    let bytes = c.first_bytes-bytes.result in
    let first =
    c.in_ok-write_durably.ensures.writes.writes.puts file is ∙ ap (λ (l : List ℕ). Some (written 0 bytes l)) empty ∙ ap Some (written_first bytes ∙ c.first_bytes-bytes.ensures) in
    let second = wrote (new_file 0 c.args.area) first ∙ ap Some (written_text c.args.area) in
    sym (some_same (g.D.Disk.state c.write_durably-2.new.disk).content (new_file 68 c.args.area) last second now)) c.write_durably-2.ensures.writes.writes.puts

pub returns-clause-reported : goal.returns-clause-reported
returns-clause-reported g c = λ last now.
    let mid = reported (g.D.Disk.state c.write_durably.new.disk).content (c.write_durably-2.ensures.writes.writes.crash last now).0 in
    (c.write_durably.ensures.writes.writes.crash mid.0 mid.1).0

pub returns-clause-crash : goal.returns-clause-crash
returns-clause-crash g c = λ last now file is empty.
    let state = g.D.Disk.state in
    let bytes = c.first_bytes-bytes.result in
    let old = state c.args.disk.now in
    let between = state c.write_durably.new.disk in
    let new = state c.write_durably-2.new.disk in
    let size : length bytes ≡ 34 = omega (arith, ap length c.first_bytes-bytes.ensures, length-new_file 0 c.args.area) in
    let later = c.write_durably-2.ensures.writes.writes.crash last now in
    let mid = reported between.content later.0 in
    let there =
    c.in_ok-write_durably.ensures.writes.writes.puts file is ∙ ap (λ (l : List ℕ). Some (written 0 bytes l)) empty ∙ ap Some (written_first bytes ∙ c.first_bytes-bytes.ensures) in
    let span = (c.write_durably.ensures.writes.writes.crash mid.0 mid.1).1 in
    let first = subst (λ (n : ℕ). Spans old between (Torn 0 n)) size span in
    let syncs = c.write_durably.ensures.syncs mid.0 mid.1 in
    let more = c.write_durably-2.ensures.syncs last now in
    let founds = founds_second old between new c.args.area _ _ c.requires.least c.requires.most (λ moment ends. ends.1) syncs more first
    (λ image left. c.in_ok-write_durably.ensures.writes.settled (new_file 0 c.args.area) there image left) later.1 in
    (founds, ends_synced old between new c.write_durably-2.result (c.write_durably-2.ensures.later last now) (c.write_durably.ensures.later mid.0 mid.1) more)
