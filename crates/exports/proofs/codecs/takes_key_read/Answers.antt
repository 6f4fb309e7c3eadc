use Rattle.exports.proofs.CodecCrossing.{key_is}
use Rattle.exports.proofs.codecs.takes_key_read.Goals as goal

pub returns-in-Ok : goal.returns-in-Ok
returns-in-Ok c = key_is _ c.from.ensures c.read.ensures c.in-Ok.is

pub returns-in-Err : goal.returns-in-Err
returns-in-Err c = key_is _ c.from-in-Err.ensures c.read.ensures c.in-Err.is
