-- The form of a get's contract.
use Rattle.std.specs.Prelude.{◌≡◌, ℕ, Option}
use Rattle.definition.specs.Tools.{Bytes}
use Rattle.definition.specs.Codec.{laid}
use Rattle.definition.specs.Program.{Prog}
use Rattle.definition.specs.Calls.{Said}
use Rattle.definition.specs.Answers.{GetAnswer}
use Rattle.definition.specs.declared.Step.{Step}
use Rattle.definition.specs.declared.Health.{Health}
use Rattle.gate.specs.Forms.{Told, Tells}

-- p tells r and hands out bytes, which are then at the front of the output
pub record Gets (p : Health → Prog Bytes (Said GetAnswer)) (s script : Bytes) (t : Step) (b : Bytes) (r : Told (Option ℕ))
    (out after : Bytes) : Type 0 where
  pub handed : Bytes
  pub tells : Tells p s script t b r handed
  pub output : after ≡ laid handed out
