use Rattle.std.proofs.Common.{length}
use Rattle.disk_core.proofs.TornLemmas.{still_torn}
use Rattle.disk_core.proofs.torn.torn_images.Goals as goal

pub returns : goal.returns
returns c =
    c.in_ok-push_last.ensures (c.in_ok-push_first.ensures (still_torn c.args.before.now c.in_ok-images.images c.args.place (length c.args.piece.now) c.in_ok-images.ensures))
