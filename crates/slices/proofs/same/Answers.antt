use Rattle.std.proofs.Common.{sym, ap, List, ℕ, length, ◌-◌}
use lib.ListN.{get_or}
use Rattle.definition.proofs.Choices.{eqs_false}
use Rattle.slices.proofs.same.Goals as goal

pub returns-then-x-y : goal.returns-then-x-y
returns-then-x-y c = sym (eqs_false _ _ (λ e. c.if-x-y.true (ap (λ (s : List ℕ). get_or s (length s - 1) 0) e)))
