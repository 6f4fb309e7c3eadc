use mathlib.Core.Path.{ap, ◌∙◌}
use Rattle.definition.specs.declared.State.{State}
use Rattle.definition.specs.Public as P
use Rattle.exports.proofs.Crossing.{hears}
use Rattle.exports.proofs.takes_scan.Goals as goal

pub returns : goal.returns
returns c = hears c.built.ensures c.from-2.ensures (c.scan_prefix-reply.ensures ∙ ap (λ (st : State). P.scan_prefix c.args.region.now c.args.script.now st c.args.prefix.now c.args.most c.args.out.now) c.from.ensures)
