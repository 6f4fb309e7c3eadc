use Rattle.std.proofs.Common.{◌≤◌, length}
use Rattle.takes.proofs.read_operations.Given as goal

abbrev pub invariant-loop-operation : goal.invariant-loop-operation
invariant-loop-operation l =
    (goal.iterator-loop-operation).can_next l.operation-iterator ×
    (goal.iterator-loop-operation).is_finite l.operation-iterator × (l.used ≤ length l.list)
