use Rattle.std.proofs.Common.{rules, refl, sym, ap, ◌∙◌, subst, ℕ, ◌-◌, length}
use Rattle.definition.specs.Space.{user_count}
use Rattle.region.specs.Changes.{Counted}
use Rattle.region.proofs.Answers.{turn_met, turn_over, trusts_turn, trusts_first, begun}
use Rattle.region.proofs.Walks.{user_small, place_hit, place_miss, place_stop, sought_here, counted_first, counted_next, counted_stop}
use Rattle.region.proofs.survey.Goals as goal

pub loop-place-init : goal.loop-place-init
loop-place-init c =
    let e = c.records_of-place-items.ensures in
    let f = c.into_iter-place-iterator.ensures.into_iter_gives in
    let b = begun e f in
    (trusts_first c.requires e f, tt, b.0, sym b.1, rw b.1 (counted_first _ c.requires), rw b.1 refl)

pub overflow_add-takes : goal.overflow_add-takes
overflow_add-takes c =
    let u = user_small _ c.user_count-takes.ensures in
    let i = c.loop-place.invariant.4 in
    search rules

pub space_from-requires : goal.space_from-requires
space_from-requires c =
    let i = c.loop-place.invariant in
    let t = turn_met i.2 c.in-Some.ensures.steps.0 in
    let f = c.user_count-takes.ensures ∙ ap user_count c.key.ensures in
    rw (c.end-used.ensures ∙ sym t.1.next_is) (counted_next (subst (λ (x : ℕ). Counted c.args.region.now x c.loop-place.takes) t.0 i.4) t.1 f)

pub returns-then-same : goal.returns-then-same
returns-then-same c =
    let i = c.loop-place.invariant in
    let t = turn_met i.2 c.in-Some.ensures.steps.0 in
    record { space = c.space_from.ensures; found = sym (sought_here _ _ t.0 i.5 ∙ place_hit t.1 _ c.key-in-loop-place.ensures c.same.ensures c.if-same.true) }

pub loop-place-preserved : goal.loop-place-preserved
loop-place-preserved c =
    let i = c.loop-place.invariant in
    let s = c.in-Some.ensures.steps in
    let t = turn_met i.2 s.0 in
    let f = c.user_count-takes.ensures ∙ ap user_count c.key.ensures in (
      trusts_turn i.0 s,
      tt,
      s.1 ∙ i.2,
      c.end-used.ensures ∙ sym t.1.next_is,
      counted_next (subst (λ (x : ℕ). Counted c.args.region.now x c.loop-place.takes) t.0 i.4) t.1 f,
      sought_here _ _ t.0 i.5 ∙ place_miss t.1 _ c.key-in-loop-place.ensures c.same.ensures c.if-same.false,
    )

pub returns : goal.returns
returns c =
    let i = c.loop-place.invariant in
    let z = turn_over i.2 c.in-None.ensures.steps.0 in
    record {
      space = ap (λ (x : ℕ). record { used = x; free = length c.args.region.now - x; takes = c.loop-place.takes }) i.3 ∙ counted_stop i.4 z;
      found = sym (i.5 ∙ place_stop _ _ _ z);
    }
