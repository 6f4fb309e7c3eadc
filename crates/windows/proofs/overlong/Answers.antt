use native.Mathlib.Omega.{arith}
use Rattle.windows.proofs.Windows.{long_skipped, long_fine}
use Rattle.windows.proofs.overlong.Goals as goal

pub returns-then-not-matches : goal.returns-then-not-matches
returns-then-not-matches c = long_skipped _ _ _ c.matches.ensures c.if-not-matches.true

pub returns : goal.returns
returns c = long_fine _ _ _ c.matches.ensures c.requires c.if-not-matches.false (omega arith)
