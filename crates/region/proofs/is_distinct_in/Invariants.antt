use Rattle.std.proofs.Common.{◌≡◌}
use Rattle.region.proofs.Classes.{Walked}
use Rattle.region.proofs.is_distinct_in.Given as goal

abbrev pub invariant-loop-place : goal.invariant-loop-place
invariant-loop-place l =
    let it = l.place-iterator in
    (goal.iterator-loop-place).can_next it × (goal.iterator-loop-place).is_finite it × (it.region.now ≡ l.region) × Walked l.region l.class l.classes it.at l.table
