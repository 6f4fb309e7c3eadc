-- the digits of what is left stand before those that are written, and there is room for them
use Rattle.std.proofs.Common.{◌≡◌, ◌++◌, ◌^◌, ◌<◌, drop}
use Rattle.output.specs.Waiting.{decimal_of}
use Rattle.output.proofs.decimal.Given as goal

abbrev pub invariant-loop-at : goal.invariant-loop-at
invariant-loop-at l = (0 < l.at) × (l.rest < 10 ^ l.at) × (decimal_of l.n ≡ decimal_of l.rest ++ drop l.at l.text)
