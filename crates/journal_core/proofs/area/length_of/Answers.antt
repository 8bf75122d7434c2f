use Rattle.std.proofs.Common.{sym}
use Rattle.journal_core.proofs.Fields.{field_read}
use Rattle.journal_core.proofs.area.length_of.Goals as goal

pub returns-clause-bytes : goal.returns-clause-bytes
returns-clause-bytes c = sym (field_read c.args.field.now c.from_be_bytes.result c.told-field c.fits-field c.from_be_bytes.ensures)
