use mathlib.Core.Path.{sym, ap}
use mathlib.Core.Bool.{not}
use Rattle.definition.specs.Calls.{is_clean}
use Rattle.definition.specs.declared.Health.{Health}
use Rattle.gate.proofs.is_unclean.Goals as goal

pub returns-in-Debris : goal.returns-in-Debris
unfolding is_clean
returns-in-Debris c = sym (ap (λ (h : Health). not (is_clean h)) c.in-Debris.is)

pub returns-in-Pending : goal.returns-in-Pending
unfolding is_clean
returns-in-Pending c = sym (ap (λ (h : Health). not (is_clean h)) c.in-Pending.is)

pub returns-in-Clean : goal.returns-in-Clean
unfolding is_clean
returns-in-Clean c = sym (ap (λ (h : Health). not (is_clean h)) c.in-Clean.is)
