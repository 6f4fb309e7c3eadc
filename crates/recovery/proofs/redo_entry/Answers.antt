use borrow.Author.Rules.{rules}
use Rattle.recovery.proofs.Entries.{entry_corrupt, entry_put, entry_delete, entry_fits, delete_fits}
use Rattle.recovery.proofs.redo_entry.Goals as goal

pub land-requires : goal.land-requires
land-requires c = record { region_value = search rules; value_value = entry_fits _ c.decode_entry.ensures c.key_part-key.ensures c.value_part-value.ensures c.in-Put.is }

pub land-requires-in-Delete : goal.land-requires-in-Delete
land-requires-in-Delete c = record { region_value = search rules; value_value = delete_fits _ _ }

pub returns-in-Put : goal.returns-in-Put
returns-in-Put c = entry_put _ _ c.decode_entry.ensures c.key_part-key.ensures c.value_part-value.ensures c.in-Put.is c.land.ensures

pub returns-in-Delete : goal.returns-in-Delete
returns-in-Delete c = entry_delete _ _ c.decode_entry.ensures c.key_part-key.ensures c.value_part-value.ensures c.in-Delete.is c.land-in-Delete.ensures

pub returns-in-Corrupt : goal.returns-in-Corrupt
returns-in-Corrupt c = entry_corrupt _ _ c.decode_entry.ensures c.in-Corrupt.is c.requires
