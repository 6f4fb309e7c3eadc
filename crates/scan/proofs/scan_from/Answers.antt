use Rattle.scan.proofs.Writing.{scan_nothing}
use Rattle.scan.proofs.scan_from.Goals as goal

pub returns-then-most-eq0 : goal.returns-then-most-eq0
returns-then-most-eq0 c = scan_nothing _ _ _ _ _ _ c.if-most-eq0.true
