use Rattle.std.proofs.Common.{rules}
use Rattle.windows.proofs.Windows.{beyond_at, beyond_none, last_held}
use Rattle.windows.proofs.beyond.Goals as goal

pub key-requires : goal.key-requires
key-requires c = let h = last_held _ c.requires c.in-Some.is in search rules

pub returns-in-Some : goal.returns-in-Some
returns-in-Some c = beyond_at _ _ _ c.in-Some.is c.key.ensures c.before-in-Some.ensures

pub returns-in-None : goal.returns-in-None
returns-in-None c = beyond_none _ _ _ c.in-None.is
