use mathlib.Core.Path.{ap, ◌∙◌}
use Rattle.definition.specs.declared.State.{State}
use Rattle.definition.specs.Public as P
use Rattle.exports.proofs.Crossing.{hears}
use Rattle.exports.proofs.takes_put.Goals as goal

pub returns : goal.returns
returns c = hears c.built.ensures c.from-2.ensures (c.put-reply.ensures ∙ ap (λ (st : State). P.put c.args.region.now c.args.script.now st c.args.key.now c.args.value.now) c.from.ensures)
