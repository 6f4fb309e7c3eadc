use Rattle.definition.specs.Scan.{rising}
use Rattle.windows.specs.Forms.{window_items}
use Rattle.windows.proofs.Windows.{Passed}
use Rattle.windows.proofs.ScanWindow.position.Given as goal

abbrev pub invariant-loop-i : goal.invariant-loop-i
invariant-loop-i l = Passed rising l.key (window_items l.region l.fn.self) l.i
