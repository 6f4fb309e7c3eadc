use Rattle.std.proofs.Common.{rules, sym, ap, ◌∙◌, ◌+◌, arith, ℕ, length, ◌-◌, drop}
use Rattle.definition.specs.Region
use Rattle.definition.specs.Region.{items}
use Rattle.definition.specs.Space.{user_count, takes}
use Rattle.region.proofs.Answers.{turn_met, turn_over}
use Rattle.region.proofs.Walks.{met_used, met_takes, user_small, space_stop}
use Rattle.region.proofs.space.Goals as goal

pub overflow_add-takes : goal.overflow_add-takes
overflow_add-takes c =
    let u = user_small _ c.user_count-takes.ensures in
    let i = c.loop-place.invariant in
    search rules

pub loop-place-preserved : goal.loop-place-preserved
loop-place-preserved c =
    let i = c.loop-place.invariant in
    let s = c.in-Some.ensures.steps in
    let t = turn_met i.1 s.0 in
    let m = t.1 in
    let h = m.holds in
    let e = t.0 in
    let f = c.user_count-takes.ensures ∙ ap user_count c.key.ensures in
    let u = user_small _ c.user_count-takes.ensures in (
      tt,
      s.1 ∙ i.1,
      c.end-used.ensures ∙ sym m.next_is,
      m.inside,
      omega (arith, u, i.4),
      i.5 ∙ ap (λ (x : ℕ). x + Region.used (items (drop x c.args.region.now))) e ∙ met_used m,
      i.6 ∙ ap (λ (x : ℕ). c.loop-place.takes + takes (items (drop x c.args.region.now))) e ∙ met_takes m c.loop-place.takes f,
    )

pub returns : goal.returns
returns c =
    let i = c.loop-place.invariant in
    ap (λ (x : ℕ). record { used = x; free = length c.args.region.now - x; takes = c.loop-place.takes }) i.2
    ∙ space_stop _ _ c.loop-place.takes i.5 i.6 (turn_over i.1 c.in-None.ensures.steps.0)
