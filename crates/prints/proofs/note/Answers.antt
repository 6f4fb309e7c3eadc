use native.Mathlib.Omega.{arith}
use borrow.Author.Rules.{rules}
use mathlib.Core.Path.{refl, ap}
use Prim.Native.Nat.{◌<◌}
use lib.ListN.{length}
use Rattle.prints.proofs.Tables.{along_first, along_next, along_hit, along_over, noted_new, noted_old}
use Rattle.prints.proofs.note.Goals as goal

pub loop-i-init : goal.loop-i-init
loop-i-init c = (refl, along_first _ _ _ _ refl)

pub returns-then-there-eq0 : goal.returns-then-there-eq0
returns-then-there-eq0 c = let n = ap length c.loop-i.invariant.0 in
    let w : c.loop-i.i < length c.loop-i.table = search rules in
    noted_new {h = c.args.h} c.loop-i.invariant.0 refl c.loop-i.invariant.1 c.loop-i-test.true c.if-there-eq0.true w

pub returns-then-there-print : goal.returns-then-there-print
returns-then-there-print c = noted_old {h = c.args.h} c.loop-i.invariant.0 refl c.loop-i.invariant.1 (along_hit c.loop-i.invariant.1 c.loop-i-test.true (omega arith) c.if-there-print.true)

pub loop-i-preserved : goal.loop-i-preserved
loop-i-preserved c = (c.loop-i.invariant.0, along_next c.loop-i.invariant.1 c.loop-i-test.true (omega arith) c.if-there-print.false)

pub returns : goal.returns
returns c = noted_old {h = c.args.h} c.loop-i.invariant.0 refl c.loop-i.invariant.1 (along_over c.loop-i.invariant.1 c.loop-i-test.false)
