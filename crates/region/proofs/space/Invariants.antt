use Rattle.std.proofs.Common.{◌≡◌, ◌+◌, ◌≤◌, length, drop}
use Rattle.definition.specs.Region
use Rattle.definition.specs.Region.{items}
use Rattle.definition.specs.Space.{takes}
use Rattle.region.proofs.space.Given as goal

abbrev pub invariant-loop-place : goal.invariant-loop-place
invariant-loop-place l =
    let it = l.place-iterator in
    (goal.iterator-loop-place).is_finite it × (it.region.now ≡ l.region) × (l.used ≡ it.at) × (it.at ≤ length l.region) × (l.takes ≤ it.at)
    × (Region.used (items l.region) ≡ it.at + Region.used (items (drop it.at l.region))) × (takes (items l.region) ≡ l.takes + takes (items (drop it.at l.region)))
