-- The public calls as one family: what is said of `Called` is said of every one of them, on any region, script and
-- state.
use mathlib.Core.List.{List}
use Prim.Native.Nat.{ℕ}
use Rattle.definition.specs.Tools.{Bytes}
use Rattle.definition.specs.Public.{Outcome, unmounted}
use Rattle.definition.specs.Public as Public
use Rattle.definition.specs.declared.State.{State}
use Rattle.definition.specs.Answers.{Answer, GetAnswer, TruthAnswer}
use Rattle.definition.specs.declared.Scanned.{Scanned}
use Rattle.definition.specs.declared.BatchOp.{BatchOp}

-- `Called region script A st r`: a public call on this region and script, from this state, came to r. A mount is
-- given no state; it goes on from the one of a store that is not mounted.
pub data Called (region script : Bytes) : (A : Type 0) → State → Outcome A → Type 1 where
  get : (st : State) (key out : Bytes) → Called region script GetAnswer st (Public.get region script st key out)
  contains : (st : State) (key : Bytes) → Called region script TruthAnswer st (Public.contains region script st key)
  put : (st : State) (key value : Bytes) → Called region script Answer st (Public.put region script st key value)
  delete : (st : State) (key : Bytes) → Called region script TruthAnswer st (Public.delete region script st key)
  apply_batch : (st : State) (list : Bytes) → Called region script Answer st (Public.apply_batch region script st list)
  apply_ops : (st : State) (ops : List BatchOp) (pool : Bytes)
      → Called region script Answer st (Public.apply_ops region script st ops pool)
  scan_prefix : (st : State) (prefix : Bytes) (most : ℕ) (out : Bytes)
      → Called region script Scanned st (Public.scan_prefix region script st prefix most out)
  mount : (start at : ℕ) → Called region script Answer (unmounted region at) (Public.mount region script start at)
