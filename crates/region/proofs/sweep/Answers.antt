use Rattle.std.proofs.Common.{sym, ap, ◌∙◌, arith, ℕ, drop}
use Rattle.std.specs.Prelude.{is_some}
use Rattle.definition.specs.Region.{blank, whole}
use Rattle.region.proofs.Answers.{turn_met, turn_over, then_some_told}
use Rattle.region.proofs.Walks.{met_whole, whole_stop}
use Rattle.region.proofs.sweep.Goals as goal

pub loop-place-preserved : goal.loop-place-preserved
loop-place-preserved c =
    let i = c.loop-place.invariant in
    let s = c.in-Some.ensures.steps in
    let t = turn_met i.1 s.0 in
    let m = t.1 in
    let h = m.holds in
    let e = t.0 in
    (tt, s.1 ∙ i.1, c.end-end.ensures ∙ sym m.next_is, omega arith, m.inside, i.5 ∙ ap (λ (x : ℕ). whole (drop x c.args.region.now)) e ∙ met_whole m)

pub returns : goal.returns
returns c =
    let i = c.loop-place.invariant in
    ap is_some c.then_some.ensures ∙ then_some_told c.is_blank_from.result c.loop-place.n ∙ c.is_blank_from.ensures
    ∙ ap (λ (x : ℕ). blank (drop x c.args.region.now)) i.2
    ∙ sym (i.5 ∙ whole_stop _ (turn_over i.1 c.in-None.ensures.steps.0))
