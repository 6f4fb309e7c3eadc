use Rattle.std.proofs.Common.{length, ◌-◌}
use Rattle.definition.specs.Scan.{rising}
use Rattle.windows.specs.Forms.{last_key}
use Rattle.scan.proofs.Passing.{Passing}
use Rattle.scan.proofs.pass.Given as goal

abbrev pub invariant-loop-met : goal.invariant-loop-met
invariant-loop-met l = Passing rising l.region l.script l.prefix (last_key l.region l.last) l.initial.step l.window l.step l.at

abbrev pub decreases-loop-met : goal.decreases-loop-met
decreases-loop-met l = length l.region - l.at
