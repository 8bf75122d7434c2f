use Rattle.std.proofs.Common.{◌∙◌}
use Rattle.journal_core.proofs.Fields.{is_big_endian, length-big_endian}
use Rattle.journal_core.proofs.Written.{three_fields}
use Rattle.journal_core.proofs.records.fields.Goals as goal

pub returns : goal.returns
returns c =
    let stamp = c.args.stamp in
    let first = c.copy_from_slice.ensures.after ∙ is_big_endian c.to_be_bytes.result c.args.length c.to_be_bytes.ensures in
    let second = c.copy_from_slice-2.ensures.after ∙ is_big_endian c.to_be_bytes-2.result stamp.number c.to_be_bytes-2.ensures in
    let third = c.copy_from_slice-3.ensures.after ∙ is_big_endian c.to_be_bytes-3.result stamp.time c.to_be_bytes-3.ensures in
    rw (first, second, third) (three_fields _ _ _ (length-big_endian c.args.length) (length-big_endian stamp.number))
