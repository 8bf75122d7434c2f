use Rattle.std.proofs.Common.{◌≡◌, ℕ, ◌-◌, min, length, ◌∙◌, arith}
use Rattle.journal_core.specs.declared.header.Header.{Header}
use Rattle.journal_core.specs.File.{HasHeader, base_of}
use Rattle.journal_core.proofs.Opens.{cause_of, no_header, inside_is, reaches_area, holds_read, refused_found}
use Rattle.journal_core.proofs.Results.{match_some, match_none}
use Rattle.journal_core.proofs.open.read_file.Goals as goal

pub returns-in_default-clause-meaning : goal.returns-in_default-clause-meaning
returns-in_default-clause-meaning g c = λ file is.
    let first = c.in_ok-length.ensures.reads.same ∙ is in
    no_header file (match_none ((area side : ℕ) → HasHeader file area side → ⊥) (λ (header : Header). HasHeader file header.area header.side) c.in_ok-header.field-0 (c.in_ok-header.ensures.found file first) c.in_default.is)

pub returns-in_err-entries-clause-meaning : goal.returns-in_err-entries-clause-meaning
returns-in_err-entries-clause-meaning g c = λ file is.
    let first = c.in_ok-length.ensures.reads.same ∙ is in
    let second = c.in_ok-header.ensures.same ∙ first in
    let header = c.in-Some.header in
    let has : HasHeader file header.area header.side =
    match_some ((area side : ℕ) → HasHeader file area side → ⊥) (λ (header : Header). HasHeader file header.area header.side) c.in_ok-header.field-0 header (c.in_ok-header.ensures.found file first) c.in-Some.is in
    let size : c.min-size.result ≡ min (length file - base_of header.area header.side) header.area = omega (arith, c.in_ok-length.ensures.value file is) in
    refused_found c.args.format file c.from_residual-in_err-entries.result c.in_err-entries.field-0.0 c.from_residual-in_err-entries.ensures.1
    (cause_of c.args.format c.in_err-entries.field-0.0 file _ header.area header.side has (inside_is file header.area header.side c.min-size.result size)
    (c.in_err-entries.ensures.refused file second (reaches_area file header.area header.side c.min-size.result size)))

pub returns-clause-meaning : goal.returns-clause-meaning
returns-clause-meaning g c = λ file is.
    let first = c.in_ok-length.ensures.reads.same ∙ is in
    let second = c.in_ok-header.ensures.same ∙ first in
    let header = c.in-Some.header in
    let has : HasHeader file header.area header.side =
    match_some ((area side : ℕ) → HasHeader file area side → ⊥) (λ (header : Header). HasHeader file header.area header.side) c.in_ok-header.field-0 header (c.in_ok-header.ensures.found file first) c.in-Some.is in
    let size : c.min-size.result ≡ min (length file - base_of header.area header.side) header.area = omega (arith, c.in_ok-length.ensures.value file is) in
    let read = c.in_ok-entries.ensures.read file second (reaches_area file header.area header.side c.min-size.result size) in
    (holds_read c.args.format file _ header.area header.side c.in_ok-entries.used c.in_ok-entries.entries has (inside_is file header.area header.side c.min-size.result size) read, read.4)
