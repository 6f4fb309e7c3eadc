-- What the calls and the codecs answer. The code names these types too, but antt has no name for another type's name.
use Rattle.std.specs.Prelude.{Bool, ℕ, Option, Result}
use Rattle.definition.specs.declared.Fault.{Fault}
use Rattle.definition.specs.declared.ScanEnd.{ScanEnd}

-- a codec: the bytes that it took or made
abbrev pub CodecAnswer : Type 0
CodecAnswer = Result ℕ Fault

-- mount, put and batch
abbrev pub Answer : Type 0
Answer = Result (Unit {0}) Fault

-- get: the value's length, if the key is there
abbrev pub GetAnswer : Type 0
GetAnswer = Result (Option ℕ) Fault

-- contains and delete
abbrev pub TruthAnswer : Type 0
TruthAnswer = Result Bool Fault

-- scan: how it ended
abbrev pub ScanAnswer : Type 0
ScanAnswer = Result ScanEnd Fault
