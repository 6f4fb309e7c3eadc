use Rattle.windows.proofs.Windows.{item_written, item_fits}
use Rattle.windows.proofs.put_place.Goals as goal

pub put_record-requires : goal.put_record-requires
put_record-requires c = let claims = item_fits c.requires.held c.key.ensures c.value.ensures _ _ c.requires.place_in_bounds in record { key_len_bound = claims.0; value_in_bounds = claims.1 }

pub returns : goal.returns
returns c = item_written c.requires.held c.key.ensures c.value.ensures _ _ c.put_record.ensures
