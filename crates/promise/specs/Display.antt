-- Request C-11, "Show the free room on the box's display": "For any state reached by calls from the last mount tried,
-- on a region nobody else touched, it equals what the walk gives." proofs/TheDisplay proves it, and with no condition
-- on the region: its image may be bad, and the journal anybody's.
use Rattle.std.specs.Prelude.{◌≡◌, ℕ, Some}
use Rattle.definition.specs.Tools.{Bytes}
use Rattle.definition.specs.Space.{space_of}
use Rattle.definition.specs.Public as Public
use Rattle.definition.specs.declared.State.{State}
use Rattle.promise.specs.Run.{Call, Moment, turn}

-- `Reached region st`: the region and the state that belong together
pub data Reached : Bytes → State → Type 0 where
  -- a mount was tried, of any bytes, and whatever it answered
  tried : (region script : Bytes) (start at : ℕ)
      → Reached (Public.mount region script start at).region (Public.mount region script start at).state
  -- and then any call, under any script, with the newest state, on the region as the call before it left it
  called : {region : Bytes} {st next : State} {m : Moment} (c : Call) (script : Bytes) → Reached region st
      → (turn c (record { region = region; script = script; newest = Some st })).next ≡ m → m.newest ≡ Some next
      → Reached m.region next

-- THE DISPLAY'S QUESTION, which reads only the state, equals what the walk gives.
abbrev pub Displayed : Type 0
Displayed = (region : Bytes) (st : State) → Reached region st → Public.space st ≡ space_of region
