use mathlib.Core.Path.{sym}
use borrow.Author.Tests.{eq-eqb, ne_eqb}
use Rattle.definition.proofs.Choices.{pick_yes, pick_no}
use Rattle.exports.specs.Codecs.{kind_of}
use Rattle.exports.proofs.codecs.kind_of.Goals as goal

pub returns-then-number-eq2 : goal.returns-then-number-eq2
unfolding kind_of
returns-then-number-eq2 c = sym (pick_yes _ _ (eq-eqb _ _ c.if-number-eq2.true))

pub returns : goal.returns
unfolding kind_of
returns c = sym (pick_no _ _ (ne_eqb _ _ c.if-number-eq2.false))
