use native.Mathlib.Omega.{arith}
use Rattle.windows.proofs.Windows.{window_last, window_none}
use Rattle.windows.proofs.ScanWindow.last_of.Goals as goal

pub returns-then-self-eq0 : goal.returns-then-self-eq0
returns-then-self-eq0 c = window_none c.requires.sane _ c.requires.last_held c.if-self-eq0.true

pub returns : goal.returns
returns c = window_last c.requires.sane _ _ (omega arith)
