use Rattle.codec.proofs.Laws.{put_encodes, delete_encodes}
use Rattle.codec.proofs.encode_op.Goals as goal

pub returns-in-Put : goal.returns-in-Put
returns-in-Put c = put_encodes c.in-Put.is c.encode_entry.ensures

pub returns-in-Delete : goal.returns-in-Delete
returns-in-Delete c = delete_encodes _ c.in-Delete.is c.encode_entry-in-Delete.ensures
