-- The forms of a put's contracts.
use Rattle.definition.specs.Tools.{Bytes, opt}
use Rattle.definition.specs.Region.{item}
use Rattle.definition.specs.Program.{Prog, err, flat, store}
use Rattle.definition.specs.Calls.{Said, put_fault, put_or, put_again}
use Rattle.definition.specs.Answers.{Answer}
use Rattle.definition.specs.declared.Health.{Health}

-- the tests of a put, and its store
unfoldable pub tested_store : Bytes → Bytes → Prog Bytes (Unit {0})
tested_store k v = opt (put_fault k v) (store flat (item k v)) err

-- a put on a store that is ready
abbrev pub put_ready : Bytes → Bytes → Health → Prog Bytes (Said Answer)
put_ready k v h = put_or flat k v h (put_again flat k v h)
