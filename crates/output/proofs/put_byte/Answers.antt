use Rattle.std.proofs.Common.{rules}
use Rattle.output.proofs.Puts.{added, flushed}
use Rattle.output.proofs.put_byte.Goals as goal

pub returns-then-used-out : goal.returns-then-used-out
returns-then-used-out g c = added _ _ _ c.if-used-out.true

pub returns : goal.returns
returns g c = flushed _ _ _ c.if-used-out.false (search rules)
