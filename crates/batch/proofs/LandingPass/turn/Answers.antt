use Rattle.journal.proofs.Operations.{op_fits_fine}
use Rattle.batch.proofs.LandingPass.turn.Goals as goal

pub land-requires-clause-value_value : goal.land-requires-clause-value_value
land-requires-clause-value_value c = op_fits_fine _ _ _ c.requires.tested
