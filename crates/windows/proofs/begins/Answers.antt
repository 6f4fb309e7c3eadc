use Rattle.std.proofs.Common.{rules, ◌∙◌}
use Rattle.definition.proofs.Windows.{begins_over, begins_short, begins_miss}
use Rattle.windows.proofs.Windows.{begins_is}
use Rattle.windows.proofs.begins.Goals as goal

pub returns-then-is_empty : goal.returns-then-is_empty
returns-then-is_empty c = let e = c.if-is_empty.ensures in begins_over _ _ 0 (search rules)

pub returns-then-is_empty-2 : goal.returns-then-is_empty-2
returns-then-is_empty-2 c =
    let e = c.if-is_empty.ensures in
    let f = c.if-is_empty-2.ensures in
    begins_short _ _ 0 (search rules) (search rules)

pub returns-then-prefix-key : goal.returns-then-prefix-key
returns-then-prefix-key c =
    let e = c.if-is_empty.ensures in
    let f = c.if-is_empty-2.ensures in
    begins_miss _ _ 0 (search rules) (search rules) c.if-prefix-key.true

pub returns : goal.returns
returns c = c.starts_with.ensures.value ∙ begins_is c.args.prefix.now c.args.key.now
