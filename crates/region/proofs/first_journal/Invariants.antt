use Rattle.std.proofs.Common.{◌≡◌, drop}
use Rattle.definition.specs.Region.{items}
use Rattle.definition.specs.Recovery.{journal_keys}
use Rattle.region.specs.Places.{first_of}
use Rattle.region.proofs.first_journal.Given as goal

abbrev pub invariant-loop-place : goal.invariant-loop-place
invariant-loop-place l =
    let it = l.place-iterator in
    (goal.iterator-loop-place).can_next it × (goal.iterator-loop-place).is_finite it × (it.region.now ≡ l.region)
    × (first_of (journal_keys (items l.region)) ≡ first_of (journal_keys (items (drop it.at l.region))))
