use Rattle.std.proofs.Common.{◌≡◌}
use Rattle.region.specs.Changes.{Counted}
use Rattle.region.proofs.space_from.Given as goal

abbrev pub invariant-loop-place : goal.invariant-loop-place
invariant-loop-place l =
    let it = l.place-iterator in
    (goal.iterator-loop-place).can_next it × (goal.iterator-loop-place).is_finite it × (it.region.now ≡ l.region) × (l.used ≡ it.at) × Counted l.region it.at l.takes
