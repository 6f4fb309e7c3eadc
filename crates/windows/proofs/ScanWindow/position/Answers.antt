use Rattle.std.proofs.Common.{rules, arith, subst, ◌≡◌}
use Rattle.definition.specs.Scan.{rising}
use Rattle.windows.specs.Forms.{window_items, Parts}
use Rattle.windows.proofs.Windows.{filled_length, turns_over, turn_inside, turn_held, turn_key, passed_none, passed_on, passed_here, passed_all}
use Rattle.windows.proofs.ScanWindow.position.Goals as goal

pub loop-i-init : goal.loop-i-init
loop-i-init c = passed_none _ _

pub key-requires : goal.key-requires
key-requires c = let h = turn_held c.requires c.loop-i-test.true in search rules

pub returns-then-not-before : goal.returns-then-not-before
returns-then-not-before c = passed_here c.requires c.loop-i.invariant (turn_inside c.requires c.loop-i-test.true) (turn_key c.requires c.loop-i-test.true c.key.ensures) c.before-in-loop-i.ensures c.if-not-before.true

pub loop-i-preserved : goal.loop-i-preserved
loop-i-preserved c = passed_on c.requires c.loop-i.invariant (turn_inside c.requires c.loop-i-test.true) (turn_key c.requires c.loop-i-test.true c.key.ensures) c.before-in-loop-i.ensures c.if-not-before.false

pub returns : goal.returns
returns c =
    let e = turns_over c.requires c.loop-i-test.false in
    let l = c.loop-i.auto.i-end in
    let f = filled_length c.requires in
    let end : c.loop-i.i ≡ c.args.self.len = omega arith in
    subst (Parts rising c.args.key.now (window_items c.args.region.now c.args.self)) end (passed_all c.requires c.loop-i.invariant e)
