use Rattle.slices.proofs.Copying.{Copied}
use Rattle.slices.proofs.copy_in.Given as goal

abbrev pub invariant-loop-i : goal.invariant-loop-i
invariant-loop-i l = Copied l.initial.dst l.src l.at l.i l.dst
