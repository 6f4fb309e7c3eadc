use mathlib.Core.Path.{sym, subst}
use Rattle.definition.proofs.Choices.{passed_on}
use Rattle.codec.specs.Forms.{EntryWrites}
use Rattle.codec.proofs.Laws.{entry_refused, entry_full, entry_made}
use Rattle.codec.proofs.encode_entry.Goals as goal

pub returns-in_err-check_op : goal.returns-in_err-check_op
returns-in_err-check_op c =
    subst (EntryWrites _ _ _ _ _) (sym (passed_on _ c.from_residual.ensures.1)) (entry_refused _ _ _ _ c.in_err-check_op.ensures)

pub returns-then-out-n : goal.returns-then-out-n
returns-then-out-n c = entry_full _ _ _ _ c.in_ok-check_op.ensures c.if-out-n.true

pub returns : goal.returns
returns c = entry_made _ _ _ _ c.in_ok-check_op.ensures _ _ c.if-out-n.false c.copy_in.ensures c.copy_in-2.ensures
