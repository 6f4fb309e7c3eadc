use Rattle.exports.proofs.Crossing.{hears}
use Rattle.exports.proofs.takes_mount.Goals as goal

pub returns : goal.returns
returns c = hears c.built.ensures c.from.ensures c.mount-reply.ensures
