use Rattle.recovery.proofs.Replaying.{Replaying}
use Rattle.std.proofs.Common.{◌≡◌, length}
use Rattle.recovery.proofs.replay.Given as goal

abbrev pub invariant-loop-index : goal.invariant-loop-index
invariant-loop-index l = (length l.region ≡ length l.initial.region) × Replaying l.count l.initial.region l.script l.initial.step l.index l.region l.step
