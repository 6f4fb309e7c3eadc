use Rattle.std.proofs.Common.{rules}
use Rattle.records.proofs.Copying.{record_fits, head_long}
use Rattle.records.proofs.put_record.Goals as goal

pub copy_in-requires : goal.copy_in-requires
copy_in-requires c =
    let f = record_fits _ _ _ _ c.requires.value_in_bounds in
    let n = head_long _ _ _ c.header-head.ensures in
    search rules

pub copy_in-requires-2 : goal.copy_in-requires-2
copy_in-requires-2 c = let f = record_fits _ _ _ _ c.requires.value_in_bounds in search rules

pub copy_in-requires-3 : goal.copy_in-requires-3
copy_in-requires-3 c = let f = record_fits _ _ _ _ c.requires.value_in_bounds in search rules
