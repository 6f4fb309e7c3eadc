use Rattle.script.proofs.Laws.{fate_in}
use Rattle.script.proofs.fate.Goals as goal

pub returns-in-Some : goal.returns-in-Some
returns-in-Some c = fate_in _ _ c.byte_fate.ensures c.if-step.false c.in-Some.ensures.lookup.0 c.in-Some.ensures.lookup.1
