use Rattle.exports.proofs.CodecCrossing.{encodes}
use Rattle.exports.proofs.codecs.takes_entry_write.Goals as goal

pub returns : goal.returns
returns c = encodes _ _ c.kind_of-kind.ensures c.from.ensures c.encode_op.ensures
