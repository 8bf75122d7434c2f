use Rattle.std.proofs.Common.{◌∙◌}
use Rattle.type_core.proofs.FitLemmas.{fit_without}
use Rattle.type_core.proofs.fitting.fits.Goals as goal

pub returns-in-None : goal.returns-in-None
returns-in-None g c =
    c.fits_in-in-None.ensures
    ∙ fit_without (g.T.Typed.is_of c.args.objects.now) c.args.object.now c.args.schema.now c.in-None.ensures
