use Rattle.std.proofs.Common.{sym, ◌∙◌}
use Rattle.std.specs.Prelude.{Err}
use Rattle.definition.specs.Public.{delete}
use Rattle.definition.specs.Codec.{laid, long_key}
use Rattle.definition.proofs.Choices.{pick_yes, pick_no}
use Rattle.gate.proofs.Saying.{public_bad, public_ready, public_unready, says_as, says_ret, as_told, unchanged_outcome, reply_outcome}
use borrow.Author.Tests.{lt-ltb, le-ltb}
use Rattle.store.proofs.Mounting.{delete_past, delete_reserved}
use Rattle.store.proofs.delete.Goals as goal

pub returns-then-not-is_good : goal.returns-then-not-is_good
unfolding delete
returns-then-not-is_good c = unchanged_outcome c.unchanged.ensures ∙ public_bad Err _ _ _ _ _ c.is_good.ensures c.if-not-is_good.true

pub returns-then-reserved : goal.returns-then-reserved
returns-then-reserved c = unchanged_outcome c.unchanged-then-reserved.ensures ∙ delete_reserved _ _ _ c.args.state c.reserved.ensures c.if-reserved.true c.is_good.ensures c.if-not-is_good.false

pub ready-requires : goal.ready-requires
ready-requires c = sym c.is_good.ensures ∙ c.if-not-is_good.false

pub returns-in-Err : goal.returns-in-Err
unfolding laid
returns-in-Err c = reply_outcome c.refused.ensures ∙ public_unready Err _ c.args.state _ c.is_good.ensures c.if-not-is_good.false c.ready.ensures c.in-Err.is ∙ delete_past _ _ _ c.args.state c.reserved.ensures c.if-reserved.false

pub returns-then-key-gt-MAX_LEN : goal.returns-then-key-gt-MAX_LEN
unfolding laid long_key
returns-then-key-gt-MAX_LEN c = reply_outcome c.reply.ensures ∙ public_ready Err _ c.args.state _ c.is_good.ensures c.if-not-is_good.false c.ready.ensures c.in-Ok.is (says_as (pick_yes _ _ (lt-ltb _ _ c.if-key-gt-MAX_LEN.true)) (says_ret c.ready.ensures.fine)) ∙ delete_past _ _ _ c.args.state c.reserved.ensures c.if-reserved.false

pub returns : goal.returns
unfolding laid long_key
returns c = public_ready Err _ c.args.state _ c.is_good.ensures c.if-not-is_good.false c.ready.ensures c.in-Ok.is (says_as (pick_no _ _ (le-ltb _ _ c.if-key-gt-MAX_LEN.false)) (as_told _ c.told.ensures c.delete_key.ensures)) ∙ delete_past _ _ _ c.args.state c.reserved.ensures c.if-reserved.false
