use Rattle.windows.proofs.Windows.{Shifted}
use Rattle.windows.proofs.ScanWindow.insert_at.Given as goal

abbrev pub invariant-loop-i : goal.invariant-loop-i
invariant-loop-i l = Shifted l.at l.initial.carried l.initial.places l.fn.self.len l.places l.carried l.i
