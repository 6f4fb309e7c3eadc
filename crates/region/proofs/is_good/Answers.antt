use Rattle.std.proofs.Common.{refl, sym}
use Rattle.definition.specs.Region.{good}
use Rattle.definition.proofs.Choices.{picked, passed}
use Rattle.region.proofs.is_good.Goals as goal

pub returns-in-None : goal.returns-in-None
unfolding good
returns-in-None c = passed _ _ _ (sym c.in-None.ensures) refl

pub returns-in-Some : goal.returns-in-Some
unfolding good
returns-in-Some c = picked _ _ _ (sym c.in-Some.ensures) c.is_distinct.ensures
