use Rattle.std.proofs.lemmas.Result.{err_from_is_err_and}
use Rattle.gate.proofs.Saying.{gate_idle, gate_done, gate_failed}
use Rattle.gate.proofs.converge.Goals as goal

pub returns-then-not-needed : goal.returns-then-not-needed
returns-then-not-needed c = gate_idle c.if-not-needed.true c.requires

pub returns-in_err-next : goal.returns-in_err-next
returns-in_err-next c = let p = err_from_is_err_and c.from_residual.result c.from_residual.ensures.1 in rw (p.1, p.2) (gate_failed c.if-not-needed.false c.recover.ensures c.in_err-next.was)

pub returns : goal.returns
returns c = gate_done c.if-not-needed.false c.recover.ensures c.in_ok-next.was
