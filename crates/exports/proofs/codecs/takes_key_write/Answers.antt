use Rattle.exports.proofs.CodecCrossing.{writes}
use Rattle.exports.proofs.codecs.takes_key_write.Goals as goal

pub returns : goal.returns
returns c = let w = c.write.ensures in writes c.from.ensures w.0 w.1
