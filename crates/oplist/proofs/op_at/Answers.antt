use Rattle.std.proofs.Common.{refl}
use Rattle.oplist.proofs.Lists.{is_put, is_delete}
use Rattle.oplist.proofs.op_at.Goals as goal

pub returns-then-agrees : goal.returns-then-agrees
returns-then-agrees c =
    is_put _ _ c.wide-klen.ensures.0 c.le16_at-vlen.ensures.0 c.size-size.ensures c.if-left-size.false c.agrees.ensures c.if-list-at.false _ refl
    c.key-key.ensures c.value-value.ensures refl c.if-agrees.true

pub returns-then-agrees-2 : goal.returns-then-agrees-2
returns-then-agrees-2 c =
    is_delete _ _ c.wide-klen.ensures.0 c.le16_at-vlen.ensures.0 c.size-size.ensures c.if-left-size.false c.agrees.ensures c.if-agrees.false c.agrees-2.ensures c.if-list-at.false _ refl
    c.key-key.ensures c.value-value-then-agrees-2.ensures refl c.if-agrees-2.true
