use mathlib.Core.Path.{sym, ap}
use Rattle.definition.specs.Calls.{is_pending}
use Rattle.gate.proofs.is_pending.Goals as goal

pub returns-in-Clean : goal.returns-in-Clean
unfolding is_pending
returns-in-Clean c = sym (ap is_pending c.in-Clean.is)

pub returns-in-Debris : goal.returns-in-Debris
unfolding is_pending
returns-in-Debris c = sym (ap is_pending c.in-Debris.is)

pub returns-in-Pending : goal.returns-in-Pending
unfolding is_pending
returns-in-Pending c = sym (ap is_pending c.in-Pending.is)
