use mathlib.Core.Path.{ap, ◌∙◌}
use Rattle.definition.specs.declared.State.{State}
use Rattle.definition.specs.Public as P
use Rattle.exports.proofs.Crossing.{hears}
use Rattle.exports.proofs.takes_batch.Goals as goal

pub returns : goal.returns
returns c = hears c.built.ensures c.from-2.ensures (c.apply_batch-reply.ensures ∙ ap (λ (st : State). P.apply_batch c.args.region.now c.args.script.now st c.args.list.now) c.from.ensures)
