use Rattle.std.proofs.Common.{sym, ap, ◌∙◌}
use Rattle.std.specs.Prelude.{Err}
use Rattle.definition.specs.Public.{get, outcome}
use Rattle.definition.specs.Calls as C
use Rattle.definition.specs.Codec.{laid}
use Rattle.definition.proofs.Choices.{pick_yes, pick_no}
use Rattle.gate.proofs.Saying.{public_bad, public_ready, public_unready, says_as, says_ret, as_told, unchanged_outcome, reply_outcome}
use Rattle.store.proofs.get.Goals as goal

pub returns-then-not-is_good : goal.returns-then-not-is_good
unfolding get
returns-then-not-is_good c = unchanged_outcome c.unchanged.ensures ∙ public_bad Err _ _ _ _ _ c.is_good.ensures c.if-not-is_good.true

pub ready-requires : goal.ready-requires
ready-requires c = sym c.is_good.ensures ∙ c.if-not-is_good.false

pub returns-in-Err : goal.returns-in-Err
unfolding get C.get laid
returns-in-Err c = reply_outcome c.refused.ensures ∙ public_unready Err _ c.args.state _ c.is_good.ensures c.if-not-is_good.false c.ready.ensures c.in-Err.is

pub returns-then-unstorable : goal.returns-then-unstorable
unfolding get C.get laid
returns-then-unstorable c = reply_outcome c.reply.ensures ∙ public_ready Err _ c.args.state _ c.is_good.ensures c.if-not-is_good.false c.ready.ensures c.in-Ok.is (says_as (pick_yes _ _ (sym c.unstorable.ensures ∙ c.if-unstorable.true)) (says_ret c.ready.ensures.fine))

pub returns : goal.returns
unfolding get C.get
returns c =
    let u = c.told.result in
    ap (λ o. outcome u.answer u.state u.calls c.ready.new.region o) c.get_key.ensures.output
    ∙ public_ready Err _ c.args.state _ c.is_good.ensures c.if-not-is_good.false c.ready.ensures c.in-Ok.is (says_as (pick_no _ _ (sym c.unstorable.ensures ∙ c.if-unstorable.false)) (as_told _ c.told.ensures c.get_key.ensures.tells))
