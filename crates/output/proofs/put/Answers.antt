use Rattle.output.proofs.Puts.{put_more, put_all}
use Rattle.output.proofs.put.Goals as goal

pub loop-byte-preserved : goal.loop-byte-preserved
loop-byte-preserved g c =
    put_more _ _ c.loop-byte.invariant c.loop-byte-test.true c.put_byte-used.ensures

pub returns : goal.returns
returns g c = put_all _ _ c.loop-byte.invariant c.loop-byte-test.false
