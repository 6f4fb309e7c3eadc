use mathlib.Core.Path.{refl}
use Rattle.definition.specs.Public
use Rattle.store.proofs.space.Goals as goal

pub returns : goal.returns
unfolding Public.space
returns c = refl
