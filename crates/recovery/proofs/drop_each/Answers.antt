use Rattle.std.proofs.lemmas.Result.{err_from_is_err_and}
use Rattle.std.proofs.Common.{refl, ap}
use Rattle.std.specs.Prelude.{option_map}
use Rattle.recovery.proofs.Sweeping.{copied_key, four_of, dropping_start, dropped_all, drop_failed, drop_on, drop_less}
use Rattle.items.proofs.Laws.{remove_wrote}
use Rattle.recovery.proofs.drop_each.Goals as goal

pub loop-key-init : goal.loop-key-init
loop-key-init c = (refl, c.space-held.ensures, dropping_start c.requires)

pub returns-in_err-step : goal.returns-in_err-step
returns-in_err-step c = let p = err_from_is_err_and c.from_residual.result c.from_residual.ensures.1 in rw (p.1, p.2) (drop_failed c.loop-key.invariant.2 c.first_journal.ensures.key (copied_key c.in-Some.is (four_of c.first_journal.ensures.four c.in-Some.is) c.copied-key.ensures.long c.copied-key.ensures.front) c.remove.ensures c.in_err-step.was)

pub loop-key-smaller : goal.loop-key-smaller
loop-key-smaller c = drop_less c.loop-key.invariant.2 c.first_journal.ensures.key (copied_key c.in-Some.is (four_of c.first_journal.ensures.four c.in-Some.is) c.copied-key.ensures.long c.copied-key.ensures.front) c.remove.ensures c.in_ok-step.was

pub loop-key-preserved : goal.loop-key-preserved
loop-key-preserved c = (cc, (remove_wrote _ c.remove.ensures c.in_ok-step.was).counted, drop_on c.loop-key.invariant.2 c.first_journal.ensures.key (copied_key c.in-Some.is (four_of c.first_journal.ensures.four c.in-Some.is) c.copied-key.ensures.long c.copied-key.ensures.front) c.remove.ensures c.in_ok-step.was)

pub returns : goal.returns
returns c = dropped_all c.loop-key.invariant.2 c.first_journal.ensures.key (ap (option_map (λ k. k.now)) c.in_default.is)
