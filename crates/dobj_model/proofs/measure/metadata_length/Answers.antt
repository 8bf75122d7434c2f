use Rattle.std.proofs.Common.{arith}
use Rattle.dobj_model.proofs.Forms.{metadata_sound}
use Rattle.dobj_model.proofs.measure.metadata_length.Goals as goal

pub returns-clause-sound : goal.returns-clause-sound
returns-clause-sound c =
    metadata_sound c.args.metadata.now c.get.ensures.utf8 c.get-2.ensures.utf8 c.requires.created_on
    c.requires.modified_on (omega (arith, c.requires.last))
