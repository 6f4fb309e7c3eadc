use Rattle.std.proofs.Common.{sym, ◌∙◌}
use Rattle.region.proofs.Answers.{turn_met, turn_over, trusts_turn}
use Rattle.region.proofs.Walks.{place_hit, place_miss, place_stop, sought_here}
use Rattle.region.proofs.find.Goals as goal

pub returns-then-same : goal.returns-then-same
returns-then-same c =
    let i = c.loop-place.invariant in
    let t = turn_met i.2 c.in-Some.ensures.steps.0 in
    sym (sought_here _ _ t.0 i.3 ∙ place_hit t.1 _ c.key.ensures c.same.ensures c.if-same.true)

pub loop-place-preserved : goal.loop-place-preserved
loop-place-preserved c =
    let i = c.loop-place.invariant in
    let s = c.in-Some.ensures.steps in
    let t = turn_met i.2 s.0 in
    (trusts_turn i.0 s, tt, s.1 ∙ i.2, sought_here _ _ t.0 i.3 ∙ place_miss t.1 _ c.key.ensures c.same.ensures c.if-same.false)

pub returns : goal.returns
returns c =
    let i = c.loop-place.invariant in
    sym (i.3 ∙ place_stop _ _ _ (turn_over i.2 c.in-None.ensures.steps.0))
