use Rattle.std.proofs.Common.{rules, arith, sym, ap, ◌∙◌, ◌≡◌, ◌-◌, ◌+◌, ℕ, length, take, drop, replicate}
use lib.ListN.{length-take, length-drop}
use lib.Seq.{get_or-drop}
use Rattle.slices.proofs.Copying.{copied_none, copied_more, copied_ahead, copied_all}
use Rattle.records.proofs.Copying.{cut_is}
use Rattle.records.proofs.cut.Goals as goal

pub loop-moved-init : goal.loop-moved-init
loop-moved-init c = copied_none _ _ _

pub loop-moved-preserved : goal.loop-moved-preserved
loop-moved-preserved c =
    let a = c.args in
    let e = length-drop (a.at + a.n) a.region.now in
    copied_more c.loop-moved.invariant (search rules) (search rules)
    (copied_ahead c.loop-moved.invariant _ (search rules) (search rules) ∙ sym (get_or-drop (a.at + a.n) a.region.now c.loop-moved.moved 0))

pub returns : goal.returns
returns c =
    let a = c.args in
    let m = c.loop-moved.auto.moved-end in
    let t = c.loop-moved-test.false in
    let l = c.loop-moved.invariant.long in
    let b = c.requires.n_bound in
    let long : length (take (a.end - (a.end - a.n)) (drop (a.end - a.n) c.loop-moved.region)) ≡ a.end - (a.end - a.n) = simp (length-take, length-drop) (omega arith) in
    cut_is _ _ _ _ _ _ c.requires.n_bound.0 c.requires.n_bound.1 c.requires.region_value
    (copied_all c.loop-moved.invariant (a.end - (a.at + a.n)) (search rules)) (search rules)
    (c.fill.ensures.after (λ y e. e) ∙ ap (λ (k : ℕ). replicate k 255) long)
