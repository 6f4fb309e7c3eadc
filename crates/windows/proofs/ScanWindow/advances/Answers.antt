use Rattle.std.proofs.Common.{rules}
use Rattle.windows.proofs.Windows.{last_held, advances_at, advances_none}
use Rattle.windows.proofs.ScanWindow.advances.Goals as goal

pub key-requires : goal.key-requires
key-requires c = let h = last_held _ c.last_of.ensures.held c.in-Some.is in search rules

pub returns-in-Some : goal.returns-in-Some
returns-in-Some c = advances_at _ c.requires.sane _ c.last_of.ensures c.in-Some.is c.key.ensures c.beyond.ensures

pub returns-in-None : goal.returns-in-None
returns-in-None c = advances_none _ c.requires.sane _ c.last_of.ensures c.in-None.is
