use Rattle.std.proofs.Common.{ap, ◌∙◌}
use Rattle.output.specs.Waiting.{add_bytes}
use Rattle.output.proofs.Puts.{hex_more, hex_all}
use Rattle.output.proofs.put_hex.Goals as goal

pub loop-byte-preserved : goal.loop-byte-preserved
loop-byte-preserved g c =
    hex_more _ _ c.loop-byte.invariant c.loop-byte-test.true
    (c.put-used.ensures ∙ ap (add_bytes _) c.spelled.ensures)

pub returns : goal.returns
returns g c = hex_all _ _ c.loop-byte.invariant c.loop-byte-test.false
