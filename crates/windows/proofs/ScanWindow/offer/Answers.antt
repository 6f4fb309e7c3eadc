use native.Mathlib.Omega.{arith}
use Rattle.windows.proofs.Windows.{window_length, offered}
use Rattle.windows.proofs.ScanWindow.offer.Goals as goal

pub insert_at-requires : goal.insert_at-requires
insert_at-requires c = let g = c.requires.sane in
    let e = window_length g in
    (g.eight, g.most, omega (arith, c.position-at.ensures.within))

pub returns : goal.returns
returns c = offered c.requires.sane c.requires.held c.key.ensures c.position-at.ensures c.insert_at.ensures
