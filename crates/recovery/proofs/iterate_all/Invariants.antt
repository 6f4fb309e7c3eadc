use Rattle.recovery.proofs.Sweeping.{Iterating}
use Prim.Native.Nat.{◌-◌, ◌≤◌}
use lib.ListN.{length}
use Rattle.recovery.proofs.iterate_all.Given as goal

abbrev pub invariant-loop-met : goal.invariant-loop-met
invariant-loop-met l = (l.at ≤ length l.region) × Iterating l.region l.script l.initial.step l.at l.step

abbrev pub decreases-loop-met : goal.decreases-loop-met
decreases-loop-met l = length l.region - l.at
