-- How a run goes: any list of calls, new scripts, power cuts and mounts, refused mounts included, each made by the
-- definition's public call. The region is lent whole to every call, and every call but mount is given the newest
-- state.
use Rattle.std.specs.Prelude.{List, [], ◌∷◌, ℕ, length, Option, None, Some, option_map, Ok, Err}
use Rattle.definition.specs.Tools.{Bytes, opt}
use Rattle.definition.specs.Region.{Item, records}
use Rattle.definition.specs.Codec.{Op}
use Rattle.definition.specs.OperationList.{ops_of, ops_over}
use Rattle.definition.specs.Numbers.{refusal}
use Rattle.definition.specs.Public.{Outcome, state}
use Rattle.definition.specs.Public as Public
use Rattle.definition.specs.declared.State.{State}
use Rattle.definition.specs.declared.BatchOp.{BatchOp}
use Rattle.definition.specs.declared.Fault.{Fault}
use Rattle.definition.specs.Answers.{Answer, GetAnswer, TruthAnswer, ScanAnswer}
use Rattle.definition.specs.declared.Scanned.{Scanned}

-- where a batch's operations come from: a list of records, or structs that name parts of one byte pool
pub data Source : Type 0 where
  from_list : (list : Bytes) → Source
  from_pool : (ops : List BatchOp) (pool : Bytes) → Source

-- the operations that it gives, if it is well formed
unfoldable pub operations : Source → Option (List Op)
operations (from_list list) = ops_of list
operations (from_pool ops pool) = ops_over pool ops

unfoldable pub batched : Source → Bytes → Bytes → State → Outcome Answer
batched (from_list list) region script st = Public.apply_batch region script st list
batched (from_pool ops pool) region script st = Public.apply_ops region script st ops pool

pub data Call : Type 0 where
  -- From now on another script, from any place in it. A script says the fate of each item call: a fault, with its
  -- effect done or not; the power cut, after which every item call fails until a mount; or a pass. A cut that stands
  -- stays.
  rescript : (script : Bytes) (at : ℕ) → Call
  -- at any address, and any place in the script: the first mount, one after a cut, or one at any other time
  mount : (start at : ℕ) → Call
  get : (key output : Bytes) → Call
  contains : (key : Bytes) → Call
  put : (key value : Bytes) → Call
  delete : (key : Bytes) → Call
  apply_batch : (source : Source) → Call
  scan_prefix : (prefix : Bytes) (most : ℕ) (output : Bytes) → Call

-- what is heard of a call: its answer, with the output after it where it has one; nothing, of a new script and of a
-- call that is not made
pub data Heard : Type 0 where
  nothing : Heard
  answered : Answer → Heard
  told : TruthAnswer → Heard
  got : GetAnswer → Bytes → Heard
  listed : Scanned → Bytes → Heard

-- what an answer refuses with
unfoldable pub refusal_of : Heard → Option Fault
refusal_of nothing = None
refusal_of (answered a) = refusal a
refusal_of (told a) = refusal a
refusal_of (got a output) = refusal a
refusal_of (listed a output) = refusal a.end

-- how a scan ended, and the records that stand
abbrev pub scanned : ScanAnswer → List Item → Scanned
scanned e is = record { end = e; count = length is; length = length (records is) }

-- what there is between calls: the region; the script; and the newest state, which is the last mount's or follows
-- from it by the calls since. Before the first mount, and after a refused one, there is none.
pub record Moment : Type 0 where
  pub region : Bytes
  pub script : Bytes
  pub newest : Option State

pub record Turn : Type 0 where
  pub heard : Heard
  pub next : Moment

-- a call but mount is made with the newest state, or not at all
unfoldable pub made : {A : Type 0} → Moment → (State → Outcome A) → (Outcome A → Heard) → Turn
made m run hear =
    opt m.newest (record { heard = nothing; next = m })
    (λ st. let r = run st in record { heard = hear r; next = record { region = r.region; script = m.script; newest = Some r.state } })

-- a refused mount leaves no state
unfoldable pub state_after : Answer → State → Option State
state_after (Ok done) st = Some st
state_after (Err f) st = None

unfoldable pub mounting : Moment → Outcome Answer → Turn
mounting m r =
    record { heard = answered r.answer; next = record { region = r.region; script = m.script; newest = state_after r.answer r.state } }

unfoldable pub turn : Call → Moment → Turn
turn (rescript script at) m =
    record { heard = nothing; next = record { region = m.region; script = script; newest = option_map (λ st. state st.health at st.cut st.space) m.newest } }
turn (mount start at) m = mounting m (Public.mount m.region m.script start at)
turn (get key output) m = made m (λ st. Public.get m.region m.script st key output) (λ r. got r.answer r.output)
turn (contains key) m = made m (λ st. Public.contains m.region m.script st key) (λ r. told r.answer)
turn (put key value) m = made m (λ st. Public.put m.region m.script st key value) (λ r. answered r.answer)
turn (delete key) m = made m (λ st. Public.delete m.region m.script st key) (λ r. told r.answer)
turn (apply_batch source) m = made m (batched source m.region m.script) (λ r. answered r.answer)
turn (scan_prefix prefix most output) m =
    made m (λ st. Public.scan_prefix m.region m.script st prefix most output) (λ r. listed r.answer r.output)

-- what there is after a run
unfoldable pub later : List Call → Moment → Moment
later [] m = m
later (c ∷ cs) m = later cs (turn c m).next
