use Rattle.std.proofs.Common.{refl, ◌∙◌, subst, ℕ}
use lib.ListN.{length-replicate}
use Rattle.definition.proofs.Choices.{true≢false}
use Rattle.prints.specs.Prints.{table_size}
use Rattle.region.proofs.Answers.{turn_met, turn_over, trusts_turn, trusts_first, begun}
use Rattle.region.proofs.Classes.{Walked, walked_first, walked_whole, walked_stop, walked_twice, walked_next}
use Rattle.region.proofs.is_distinct_in.Goals as goal

pub loop-place-init : goal.loop-place-init
loop-place-init c =
    let e = c.records_of-place-items.ensures in
    let f = c.into_iter-place-iterator.ensures.into_iter_gives in
    let b = begun e f in (
      trusts_first c.requires.0 e f,
      tt,
      b.0,
      rw b.1 (walked_first _ _ _ _ c.requires.0 (length-replicate {A = ℕ} table_size 0)),
    )

pub is_new-requires-clause-before_value : goal.is_new-requires-clause-before_value
is_new-requires-clause-before_value c =
    let i = c.loop-place.invariant in
    let t = turn_met i.2 c.in-Some.ensures.steps.0 in
    walked_whole (subst (λ (x : ℕ). Walked c.args.region.now c.args.class c.args.classes x c.loop-place.table) t.0 i.3) c.part-before.ensures

pub returns-then-not-is_new : goal.returns-then-not-is_new
returns-then-not-is_new c =
    let i = c.loop-place.invariant in
    let t = turn_met i.2 c.in-Some.ensures.steps.0 in
    let w = subst (λ (x : ℕ). Walked c.args.region.now c.args.class c.args.classes x c.loop-place.table) t.0 i.3 in
    record {
      new = λ y. absurd (true≢false y refl);
      old = λ f. walked_twice w t.1 c.part-before.ensures c.key.ensures c.is_new.ensures c.if-not-is_new.true;
    }

pub loop-place-preserved : goal.loop-place-preserved
loop-place-preserved c =
    let i = c.loop-place.invariant in
    let s = c.in-Some.ensures.steps in
    let t = turn_met i.2 s.0 in
    let w = subst (λ (x : ℕ). Walked c.args.region.now c.args.class c.args.classes x c.loop-place.table) t.0 i.3 in
    (trusts_turn i.0 s, tt, s.1 ∙ i.2, walked_next w t.1 c.part-before.ensures c.key.ensures c.is_new.ensures c.if-not-is_new.false)

pub returns : goal.returns
returns c =
    let i = c.loop-place.invariant in
    record { new = λ y. walked_stop i.3 (turn_over i.2 c.in-None.ensures.steps.0); old = λ f. absurd (true≢false refl f) }
