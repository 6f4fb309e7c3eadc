use Rattle.std.proofs.Common.{ℕ, ◌<◌}
use Rattle.definition.specs.Region.{items}
use Rattle.region.specs.Classes.{NewIn, back}
use Rattle.region.proofs.is_distinct.Given as goal

abbrev pub invariant-loop-class : goal.invariant-loop-class
invariant-loop-class l = (k : ℕ) → k < l.class → NewIn k l.classes (back (items l.region))
