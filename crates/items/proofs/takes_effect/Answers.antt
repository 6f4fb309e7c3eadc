use Rattle.items.specs.Forms.{has_effect}
use Rattle.std.proofs.Common.{sym, ap}
use Rattle.items.proofs.takes_effect.Goals as goal

pub returns-in-Pass : goal.returns-in-Pass
unfolding has_effect
returns-in-Pass c = sym (ap has_effect c.in-Pass.is)

pub returns-in-Fail : goal.returns-in-Fail
unfolding has_effect
returns-in-Fail c = sym (ap has_effect c.in-Fail.is)
