use Rattle.std.proofs.Common.{refl, sym, ◌∙◌}
use Rattle.items.proofs.Laws.{remove_effect, remove_none}
use Rattle.items.proofs.remove.Goals as goal

pub returns-then-takes_effect : goal.returns-then-takes_effect
returns-then-takes_effect c = remove_effect _ c.stepped-next.ensures c.remove-space.ensures refl _ c.fate-verdict.ensures
    (sym c.takes_effect.ensures ∙ c.if-takes_effect.true) c.answered.ensures

pub returns : goal.returns
returns c = remove_none _ c.stepped-next.ensures _ c.fate-verdict.ensures (sym c.takes_effect.ensures ∙ c.if-takes_effect.false)
    c.requires.region_value c.answered-2.ensures
