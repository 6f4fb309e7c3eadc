use mathlib.Core.Path.{sym, ◌∙◌}
use borrow.Author.Tests.{eq-eqb, ne_eqb}
use Rattle.definition.proofs.Choices.{pick_yes, pick_no}
use Rattle.exports.specs.Forms.{health_of}
use Rattle.exports.proofs.health_of.Goals as goal

pub returns-then-number-eq0 : goal.returns-then-number-eq0
unfolding health_of
returns-then-number-eq0 c = sym (pick_yes _ _ (eq-eqb _ _ c.if-number-eq0.true))

pub returns-then-number-eq1 : goal.returns-then-number-eq1
unfolding health_of
returns-then-number-eq1 c = sym (pick_no _ _ (ne_eqb _ _ c.if-number-eq0.false) ∙ pick_yes _ _ (eq-eqb _ _ c.if-number-eq1.true))

pub returns : goal.returns
unfolding health_of
returns c = sym (pick_no _ _ (ne_eqb _ _ c.if-number-eq0.false) ∙ pick_no _ _ (ne_eqb _ _ c.if-number-eq1.false))
