use Rattle.std.proofs.Common.{◌≤◌, length}
use Rattle.takes.proofs.read_codes.Given as goal

abbrev pub invariant-loop-word : goal.invariant-loop-word
invariant-loop-word l = l.count ≤ length l.codes

abbrev pub decreases-loop-word : goal.decreases-loop-word
decreases-loop-word l = length l.rest
