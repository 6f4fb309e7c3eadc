use Rattle.std.proofs.Common.{◌≡◌, drop}
use Rattle.definition.specs.Region.{items}
use Rattle.region.specs.Places.{place_of}
use Rattle.region.specs.Changes.{Counted}
use Rattle.region.proofs.survey.Given as goal

abbrev pub invariant-loop-place : goal.invariant-loop-place
invariant-loop-place l =
    let it = l.place-iterator in
    (goal.iterator-loop-place).can_next it × (goal.iterator-loop-place).is_finite it × (it.region.now ≡ l.region) × (l.used ≡ it.at)
    × Counted l.region it.at l.takes × (place_of 0 l.key (items l.region) ≡ place_of it.at l.key (items (drop it.at l.region)))
