-- The forms of contracts from the item calls up: what a function that was lent a region ran, and what it answers.
-- They are indexed by the program, so that a caller's proof can go along its calls.
use Rattle.std.specs.Prelude.{◌≡◌, Bool, true, ℕ, ◌≤◌, length, Option, option_map, IfSome, IfOk, Ok, Err}
use Rattle.std.specs.Prelude as P
use Rattle.std.specs.Borrow.{Bor}
use Rattle.definition.specs.Tools.{Bytes}
use Rattle.definition.specs.Region.{good}
use Rattle.definition.specs.Program.{Prog, World, world, Result, ok, bad, exec, flat, fetch, step}
use Rattle.definition.specs.declared.Step.{Step}
use Rattle.definition.specs.declared.Fault.{Fault}
use Rattle.definition.specs.declared.Verdict.{Verdict}
use Rattle.definition.specs.declared.Verdict.TheVariants.{Pass, Fail}
use Rattle.region.specs.Places.{Visit}
use Rattle.region.specs.declared.Place.{Place}
use Rattle.items.specs.declared.Failure.{Failure}

-- p, run on the region s and the script from step t, comes to r and leaves the good image b
pub record Runs {A : Type 0} (p : Prog Bytes A) (s script : Bytes) (t : Step) (b : Bytes)
    (r : Result (World Bytes) A) : Type 0 where
  pub fine : good b ≡ true
  pub is : r ≡ exec p (world s script t)

-- what an item call that hands nothing out answers: where the call then stands, or why it failed
abbrev pub Answered : Type 0
Answered = P.Result Step Failure

abbrev pub failure : Fault → Step → Failure
failure f t = record { fault = f; step = t }

-- what its answer says of a run that leaves b
abbrev pub item_run : Bytes → Bytes → Answered → Result (World Bytes) (Unit {0})
item_run b script (Ok t) = ok tt (world b script t)
item_run b script (Err e) = bad e.fault (world b script e.step)

pub record Ran (p : Prog Bytes (Unit {0})) (s script : Bytes) (t : Step) (b : Bytes) (r : Answered) : Type 0 where
  pub fine : good b ≡ true
  pub is : item_run b script r ≡ exec p (world s script t)

-- a fetch's answer: the value, which is no longer than a record allows
abbrev pub value_of : Option (Bor Bytes) → Option Bytes
value_of = option_map (λ v. v.now)

abbrev pub Fetched : Type 0
Fetched = P.Result (Option (Bor Bytes) × Step) Failure

abbrev pub fetch_run : Bytes → Bytes → Fetched → Result (World Bytes) (Option Bytes)
fetch_run s script (Ok r) = ok (value_of r.0) (world s script r.1)
fetch_run s script (Err e) = bad e.fault (world s script e.step)

pub record Fetches (k s script : Bytes) (t : Step) (r : Fetched) : Type 0 where
  pub is : fetch_run s script r ≡ exec (fetch flat k) (world s script t)
  pub short : IfOk r (λ x. IfSome x.0 (λ v. length v.now ≤ 481))

-- a step of an iteration that stands at a place
abbrev pub Met : Type 0
Met = P.Result (Option Place × Step) Failure

abbrev pub next_run : Bytes → Bytes → Met → Result (World Bytes) (Unit {0})
next_run s script (Ok r) = ok tt (world s script r.1)
next_run s script (Err e) = bad e.fault (world s script e.step)

pub record Visits (s script : Bytes) (at : ℕ) (t : Step) (r : Met) : Type 0 where
  pub is : next_run s script r ≡ exec (step flat) (world s script t)
  pub met : IfOk r (λ x. Visit s at x.0)

-- whether a removal of this fate takes effect, and what it answers
unfoldable pub has_effect : Verdict → Bool
has_effect Pass = true
has_effect (Fail f e) = e

abbrev pub answered_of : Verdict → Step → Answered
answered_of Pass t = Ok t
answered_of (Fail f e) t = Err (failure f t)
