-- What is asked about a put whose store failed.
use Rattle.std.specs.Prelude.{Bool, false}
use Rattle.definition.specs.Tools.{pick}
use Rattle.definition.specs.Calls.{is_debris, is_full}
use Rattle.definition.specs.declared.Fault.{Fault}
use Rattle.definition.specs.declared.Health.{Health}

-- a put that a recovery clears the way for
unfoldable pub retried : Health → Fault → Bool
retried h e = pick (is_debris h) (is_full e) false
