use Rattle.windows.proofs.Windows.{keep_skipped, keep_behind, keep_offered}
use Rattle.windows.proofs.keep.Goals as goal

pub returns-then-not-matches : goal.returns-then-not-matches
returns-then-not-matches c = keep_skipped _ _ _ _ _ _ c.matches.ensures c.requires.sane c.if-not-matches.true

pub returns-then-not-beyond : goal.returns-then-not-beyond
returns-then-not-beyond c = keep_behind _ _ _ _ _ _ c.matches.ensures c.if-not-matches.false c.key.ensures c.beyond.ensures c.requires.sane c.if-not-beyond.true

pub returns : goal.returns
returns c = keep_offered _ _ _ _ _ _ c.matches.ensures c.if-not-matches.false c.key.ensures c.beyond.ensures c.if-not-beyond.false c.offer.ensures
