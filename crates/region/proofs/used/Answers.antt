use Rattle.std.proofs.Common.{sym, ap, ◌∙◌, ◌+◌, arith, ℕ, drop}
use Rattle.definition.specs.Region
use Rattle.definition.specs.Region.{items}
use Rattle.region.proofs.Answers.{turn_met, turn_over}
use Rattle.region.proofs.Walks.{met_used, used_stop}
use Rattle.region.proofs.used.Goals as goal

pub loop-place-preserved : goal.loop-place-preserved
loop-place-preserved c =
    let i = c.loop-place.invariant in
    let s = c.in-Some.ensures.steps in
    let t = turn_met i.1 s.0 in
    let m = t.1 in
    (tt, s.1 ∙ i.1, c.end-end.ensures ∙ sym m.next_is, m.inside, i.4 ∙ ap (λ (x : ℕ). x + Region.used (items (drop x c.args.region.now))) t.0 ∙ met_used m)

pub returns : goal.returns
returns c =
    let i = c.loop-place.invariant in
    (i.2 ∙ sym (i.4 ∙ used_stop _ _ (turn_over i.1 c.in-None.ensures.steps.0)), omega (arith, i.2, i.3))
