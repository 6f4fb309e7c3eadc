use Rattle.std.proofs.Common.{ℕ}
use lib.ListN.{length-replicate}
use Rattle.journal.proofs.Operations.{never_refused, entry_within, entry_length, entry_allowed, entry_stored}
use Rattle.journal.proofs.write_entry.Goals as goal

pub returns-in-Err : goal.returns-in-Err
returns-in-Err c = absurd (never_refused _ c.requires.value_value c.encode_op.ensures (length-replicate {A = ℕ} 354 0) c.in-Err.is)

pub slice_bounds-entry-end : goal.slice_bounds-entry-end
slice_bounds-entry-end c = entry_within _ c.requires.value_value c.encode_op.ensures (length-replicate {A = ℕ} 354 0) c.in-Ok.is

pub slice_bounds-store-end-2 : goal.slice_bounds-store-end-2
slice_bounds-store-end-2 c = entry_length _ c.requires.value_value c.encode_op.ensures (length-replicate {A = ℕ} 354 0) c.in-Ok.is

pub store-requires-clause-value_value : goal.store-requires-clause-value_value
store-requires-clause-value_value c = entry_allowed _ c.requires.value_value c.encode_op.ensures (length-replicate {A = ℕ} 354 0) c.in-Ok.is _ c.journal_key.ensures

pub returns : goal.returns
returns c = entry_stored _ c.requires.value_value c.encode_op.ensures (length-replicate {A = ℕ} 354 0) c.in-Ok.is _ c.journal_key.ensures c.store.ensures
