use Rattle.std.proofs.Common.{◌+◌, drop}
use Rattle.slices.proofs.Copying.{Copied}
use Rattle.records.proofs.cut.Given as goal

abbrev pub invariant-loop-moved : goal.invariant-loop-moved
invariant-loop-moved l = Copied l.initial.region (drop (l.at + l.n) l.initial.region) l.at l.moved l.region
