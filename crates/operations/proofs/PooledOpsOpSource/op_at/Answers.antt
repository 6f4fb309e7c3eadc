use Rattle.std.proofs.Common.{rules, refl, sym, ◌∙◌, ◌<◌, ◌≤◌, length}
use Rattle.operations.proofs.Reading.{none_ended, none_named, op_named_at}
use Rattle.operations.proofs.PooledOpsOpSource.op_at.Goals as goal

pub returns-in_err-op : goal.returns-in_err-op
returns-in_err-op c =
    let n : length c.args.self.now.ops.now ≤ c.args.at = let l = c.in_err-op.ensures.lookup in search rules in
    rw (c.from_residual.ensures) (none_ended _ _ _ n)

pub returns-then-not-is_op : goal.returns-then-not-is_op
returns-then-not-is_op c =
    let l = c.in_ok-op.ensures.lookup in
    let n : c.args.at < length c.args.self.now.ops.now = search rules in
    none_named _ _ _ n _ l.1 (sym c.is_op.ensures ∙ c.if-not-is_op.true)

pub returns : goal.returns
returns c =
    let l = c.in_ok-op.ensures.lookup in
    let n : c.args.at < length c.args.self.now.ops.now = search rules in
    op_named_at _ _ _ n _ l.1 (sym c.is_op.ensures ∙ c.if-not-is_op.false) _ c.kind_of.ensures c.key_of.ensures c.value_of.ensures refl
