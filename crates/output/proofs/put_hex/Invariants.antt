-- what is left of the bytes, in hex behind what waits, makes what all of them were to make
use Rattle.std.proofs.Common.{◌≡◌, drop}
use Rattle.output.specs.Waiting.{waits, add_bytes, hex_of}
use Rattle.output.proofs.put_hex.Given as goal

abbrev pub invariant-loop-byte : goal.invariant-loop-byte
invariant-loop-byte g l =
    add_bytes (waits l.fn.out l.fn.used) (hex_of l.bytes)
    ≡ add_bytes (waits l.out l.used) (hex_of (drop l.byte-index l.bytes))
