use Rattle.region.specs.Places.{key_at}
use Rattle.region.proofs.Place.key.Goals as goal

pub returns : goal.returns
unfolding key_at
returns c = c.part.ensures
