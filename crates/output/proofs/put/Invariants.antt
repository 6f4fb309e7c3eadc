-- what is left of the text, put behind what waits, makes what all of it was to make
use Rattle.std.proofs.Common.{◌≡◌, drop}
use Rattle.output.specs.Waiting.{waits, add_bytes}
use Rattle.output.proofs.put.Given as goal

abbrev pub invariant-loop-byte : goal.invariant-loop-byte
invariant-loop-byte g l =
    add_bytes (waits l.fn.out l.fn.used) l.text ≡ add_bytes (waits l.out l.used) (drop l.byte-index l.text)
