use borrow.Author.Rules.{rules}
use mathlib.Core.Path.{refl}
use Rattle.slices.proofs.Copying.{copied_none, copied_more, copied_written}
use Rattle.slices.proofs.copy_in.Goals as goal

pub loop-i-init : goal.loop-i-init
loop-i-init c = copied_none _ _ _

pub loop-i-preserved : goal.loop-i-preserved
loop-i-preserved c = copied_more c.loop-i.invariant (search rules) c.loop-i-test.true refl

pub returns : goal.returns
returns c = copied_written c.loop-i.invariant c.loop-i-test.false
