use Rattle.std.proofs.Common.{◌≡◌, drop}
use Rattle.definition.specs.Region.{items}
use Rattle.region.specs.Places.{place_of}
use Rattle.region.proofs.find.Given as goal

abbrev pub invariant-loop-place : goal.invariant-loop-place
invariant-loop-place l =
    (goal.iterator-loop-place).can_next l.place-iterator × (goal.iterator-loop-place).is_finite l.place-iterator × (l.place-iterator.region.now ≡ l.region)
    × (place_of 0 l.key (items l.region) ≡ place_of l.place-iterator.at l.key (items (drop l.place-iterator.at l.region)))
