use Rattle.std.proofs.Common.{arith}
use Rattle.output.proofs.Puts.{digits_last, digits_more, another, room}
use Rattle.output.proofs.decimal.Goals as goal

pub returns-then-rest-eq0-clause-digits : goal.returns-then-rest-eq0-clause-digits
returns-then-rest-eq0-clause-digits c =
    digits_last _ _ _ _ _ c.loop-at.invariant.2 c.loop-at.invariant.0 (omega arith) c.glyph.ensures c.if-rest-eq0.true

pub loop-at-preserved : goal.loop-at-preserved
loop-at-preserved c = (
  another _ _ c.loop-at.invariant.1 (omega arith),
  room _ _ c.loop-at.invariant.0 c.loop-at.invariant.1,
  digits_more _ _ _ _ _ c.loop-at.invariant.2 c.loop-at.invariant.0 (omega arith) c.glyph.ensures (omega arith),
)
