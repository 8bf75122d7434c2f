use Rattle.record_core.proofs.Numbers.{is_eight}
use Rattle.record_core.proofs.Written.{appended}
use Rattle.record_core.proofs.writing.write_eight.Goals as goal

pub returns : goal.returns
returns c = appended c.extend_from_slice.result c.args.out.now.items c.extend_from_slice.new.self.items c.to_be_bytes.result _ c.extend_from_slice.ensures.items (is_eight c.to_be_bytes.result c.args.n c.to_be_bytes.ensures)
