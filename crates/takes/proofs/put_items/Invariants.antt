use Rattle.std.proofs.Common.{◌≡◌, ◌≤◌, length}
use Rattle.takes.proofs.put_items.Given as goal

abbrev pub invariant-loop-place : goal.invariant-loop-place
invariant-loop-place l =
    let it = l.place-iterator in
    (goal.iterator-loop-place).can_next it × (goal.iterator-loop-place).is_finite it × (it.region.now ≡ l.records) × (it.at ≤ length l.records)
