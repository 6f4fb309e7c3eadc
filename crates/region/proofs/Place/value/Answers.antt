use Rattle.region.specs.Places.{value_at}
use Rattle.region.proofs.Place.value.Goals as goal

pub returns : goal.returns
unfolding value_at
returns c = c.part.ensures
