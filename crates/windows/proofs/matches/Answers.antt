use Rattle.windows.proofs.Windows.{skips, tests}
use Rattle.windows.proofs.matches.Goals as goal

pub returns-then-reserved : goal.returns-then-reserved
returns-then-reserved c = skips _ _ _ c.key-key.ensures c.reserved.ensures c.if-reserved.true

pub returns : goal.returns
returns c = tests _ _ _ c.key-key.ensures c.reserved.ensures c.if-reserved.false c.begins.ensures
