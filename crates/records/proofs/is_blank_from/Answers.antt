use Rattle.std.proofs.Common.{rules, tests, ◌∙◌, ◌-◌, sym, length, take, drop, true, ◌&&◌, eqb}
use Rattle.std.proofs.lemmas.Iterator.{YieldsList-from_slice}
use Rattle.std.proofs.lemmas.Iterator.Consumers.{fold_from_yields_List}
use Rattle.records.proofs.Runs.{blank_is_fold, blank_rest}
use Rattle.records.proofs.is_blank_from.Goals as goal

pub returns : goal.returns
returns c =
    let s = c.args.region.now in
    fold_from_yields_List _ (λ a x. a && eqb x 255) true _ c.fold.ensures.ran (YieldsList-from_slice (take (length s - c.min.result) (drop c.min.result s)) (cc)) (λ a x b q k. search (rules, tests))
    ∙ sym (blank_is_fold _) ∙ blank_rest s c.args.at c.min.ensures
