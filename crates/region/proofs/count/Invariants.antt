use Rattle.std.proofs.Common.{◌≡◌, ◌+◌, ◌≤◌, length, drop}
use Rattle.definition.specs.Region.{items}
use Rattle.region.proofs.count.Given as goal

abbrev pub invariant-loop : goal.invariant-loop
invariant-loop l =
    let it = l.iterator' in
    (goal.iterator-loop).is_finite it × (it.region.now ≡ l.region) × (l.n ≤ it.at) × (length (items l.region) ≡ l.n + length (items (drop it.at l.region)))
