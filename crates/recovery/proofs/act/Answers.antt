use Rattle.recovery.proofs.Entries.{put_fits, acts_put, acts_delete}
use Rattle.recovery.proofs.act.Goals as goal

pub store-requires : goal.store-requires
store-requires c = record { region_value = c.requires.region_value; value_value = put_fits _ _ c.in-Put.is c.requires.value_value }

pub returns-in-Put : goal.returns-in-Put
returns-in-Put c = acts_put _ _ c.in-Put.is c.store.ensures

pub returns-in-Delete : goal.returns-in-Delete
returns-in-Delete c = acts_delete _ _ c.in-Delete.is c.remove.ensures
