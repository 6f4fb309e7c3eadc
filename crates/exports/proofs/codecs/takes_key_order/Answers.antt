use mathlib.Core.Path.{ap, ◌∙◌}
use Rattle.exports.specs.Codecs.{order_number}
use Rattle.exports.proofs.codecs.takes_key_order.Goals as goal

pub returns : goal.returns
returns c = c.order_number.ensures ∙ ap order_number c.order.ensures
