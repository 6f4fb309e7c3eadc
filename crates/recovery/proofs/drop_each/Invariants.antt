use Rattle.recovery.proofs.Sweeping.{Dropping}
use Rattle.std.proofs.Common.{◌≡◌, length}
use Rattle.definition.specs.Region.{items}
use Rattle.definition.specs.Space.{space_of}
use Rattle.definition.specs.Recovery.{journal_keys}
use Rattle.recovery.proofs.drop_each.Given as goal

abbrev pub invariant-loop-key : goal.invariant-loop-key
invariant-loop-key l = (length l.region ≡ length l.initial.region) × (l.held ≡ space_of l.region) × Dropping l.initial.region l.script l.initial.step l.region l.step

abbrev pub decreases-loop-key : goal.decreases-loop-key
decreases-loop-key l = length (journal_keys (items l.region))
