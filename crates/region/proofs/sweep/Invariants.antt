use Rattle.std.proofs.Common.{◌≡◌, ◌≤◌, length, drop}
use Rattle.definition.specs.Region.{whole}
use Rattle.region.proofs.sweep.Given as goal

abbrev pub invariant-loop-place : goal.invariant-loop-place
invariant-loop-place l =
    let it = l.place-iterator in
    (goal.iterator-loop-place).is_finite it × (it.region.now ≡ l.region) × (l.end ≡ it.at) × (l.n ≤ it.at) × (it.at ≤ length l.region)
    × (whole l.region ≡ whole (drop it.at l.region))
