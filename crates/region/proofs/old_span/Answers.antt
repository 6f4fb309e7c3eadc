use mathlib.Core.Path.{sym, ap, ◌∙◌}
use Rattle.region.specs.Places.{span_found}
use Rattle.region.proofs.old_span.Goals as goal

pub returns-in-None : goal.returns-in-None
unfolding span_found
returns-in-None c = sym (ap span_found c.in-None.is)

pub returns-in-Some : goal.returns-in-Some
unfolding span_found
returns-in-Some c = c.span.ensures ∙ sym (ap span_found c.in-Some.is)
