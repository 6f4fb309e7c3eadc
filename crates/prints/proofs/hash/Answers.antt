use Rattle.std.proofs.Common.{rules, ◌∙◌}
use Rattle.prints.proofs.Hashes.{hash_two}
use Rattle.prints.proofs.hash.Goals as goal

pub loop-left-preserved : goal.loop-left-preserved
loop-left-preserved c = (c.mix-h.ensures.1, c.loop-left.invariant.1 ∙ hash_two c.loop-left.h c.loop-left.left.now c.in-len2-up.len_at_least (search rules) c.mix-h.ensures.0)
