use mathlib.Core.Path.{refl, ◌∙◌}
use Rattle.marks.proofs.Marks.{reserved_first}
use Rattle.marks.proofs.reserved.Goals as goal

pub returns : goal.returns
returns c = c.eq.ensures ∙ reserved_first _ _ _ c.first.ensures.value refl
