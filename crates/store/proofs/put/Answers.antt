use Rattle.std.proofs.Common.{sym, ◌∙◌}
use Rattle.std.specs.Prelude.{Err}
use Rattle.definition.specs.Public.{put}
use Rattle.definition.specs.Calls as C
use Rattle.definition.specs.Codec.{laid}
use Rattle.gate.proofs.Saying.{public_bad, public_ready, public_unready, unchanged_outcome, reply_outcome}
use Rattle.store.proofs.put.Goals as goal

pub returns-then-not-is_good : goal.returns-then-not-is_good
unfolding put
returns-then-not-is_good c = unchanged_outcome c.unchanged.ensures ∙ public_bad Err _ _ _ _ _ c.is_good.ensures c.if-not-is_good.true

pub ready-requires : goal.ready-requires
ready-requires c = sym c.is_good.ensures ∙ c.if-not-is_good.false

pub returns-in-Err : goal.returns-in-Err
unfolding put C.put laid
returns-in-Err c = reply_outcome c.refused.ensures ∙ public_unready Err _ c.args.state _ c.is_good.ensures c.if-not-is_good.false c.ready.ensures c.in-Err.is

pub returns : goal.returns
unfolding put C.put laid
returns c = public_ready Err _ c.args.state _ c.is_good.ensures c.if-not-is_good.false c.ready.ensures c.in-Ok.is c.put_ready.ensures
