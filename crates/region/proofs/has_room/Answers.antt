use Prim.Native.Nat.{◌-◌, ◌≤◌}
use native.Mathlib.Omega.{arith}
use Rattle.region.proofs.Changing.{room_rest}
use Rattle.region.proofs.has_room.Goals as goal

pub returns : goal.returns
returns c = let h : c.args.used - c.args.old ≤ c.args.len = omega (arith, c.requires.1) in room_rest _ _ _ h
