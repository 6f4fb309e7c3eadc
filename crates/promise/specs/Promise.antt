-- Demand 3, the promise: whatever is called, whatever faults come, wherever the power is cut and the store mounted
-- again, the answers are those of a plain map. A run (Run) is any list of calls, new scripts, power cuts and mounts,
-- refused ones included. Each is the definition's public call on bytes, which the code's contracts cite. The region
-- is lent whole to each, and each is given the newest state: the last mount's, or what followed from it; after a
-- refused mount there is none, and no call is made. The theorems stand at the end: `Promise`, which proofs/Promised
-- proves, and `LastSentence`. proofs/Example computes such a run, proofs/Wrong has programs that the promise refuses,
-- proofs/Needed what goes wrong without the conditions; Beside has what holds besides.
use Rattle.std.specs.Prelude.{◌≡◌, ◌≢◌, Bool, true, false, List, [], ◌∷◌, ℕ, ◌%◌, ◌≤◌, ◌<◌, length, get_or, Option, None, Some, Ok, Err}
use Rattle.definition.specs.Tools.{Bytes, pick, eqs}
use Rattle.definition.specs.Region.{Item, fetched, records, look, good}
use Rattle.definition.specs.Codec.{Op, Put, Delete, reserved, laid}
use Rattle.definition.specs.Numbers.{number}
use Rattle.definition.specs.Calls.{region_fault}
use Rattle.definition.specs.Scan.{rising, begins}
use Rattle.definition.specs.declared.State.{State}
use Rattle.definition.specs.declared.Fault.{Fault}
use Rattle.definition.specs.declared.Fault.TheVariants.{FullStorage, BatchCommitted, CommitUncertain}
use Rattle.definition.specs.declared.ScanEnd.TheVariants as End
use Rattle.promise.specs.Run.{Source, operations, Call, mount, get, contains, put, delete, apply_batch, scan_prefix, Heard, nothing, answered, told, got, listed, refusal_of, scanned, Moment, turn, later}

-- ---- the plain map: a value, or none, for each key; what operations make of it, one behind the other; and all it
-- has under a prefix, by rising keys
abbrev pub Plain : Type 0
Plain = Bytes → Option Bytes

unfoldable pub after : Op → Plain → Plain
after (Put key value) A = λ k. pick (eqs key k) (Some value) (A k)
after (Delete key) A = λ k. pick (eqs key k) None (A k)

unfoldable pub after_all : List Op → Plain → Plain
after_all [] A = A
after_all (op ∷ ops) A = after_all ops (after op A)

unfoldable pub rises : List Item → Bool
rises [] = true
rises (i ∷ []) = true
rises (i ∷ (j ∷ is)) = pick (rising i.key j.key) (rises (j ∷ is)) false

pub record AllOf (prefix : Bytes) (A : Plain) (is : List Item) : Type 0 where
  pub in_order : rises is ≡ true
  pub complete : (k : Bytes) → fetched k is ≡ pick (begins prefix k) (A k) None

-- ---- `Does A c h B`: called c, the plain map A answers h, and is B from then on
pub data Does (A : Plain) : Call → Heard → Plain → Type 0 where
  mounted : {start at : ℕ} → Does A (mount start at) (answered (Ok tt)) A
  get_found : {key output v : Bytes} → A key ≡ Some v
      → Does A (get key output) (got (Ok (Some (length v))) (laid v output)) A
  get_absent : {key output : Bytes} → A key ≡ None → Does A (get key output) (got (Ok None) output) A
  contains_yes : {key v : Bytes} → A key ≡ Some v → Does A (contains key) (told (Ok true)) A
  contains_no : {key : Bytes} → A key ≡ None → Does A (contains key) (told (Ok false)) A
  put_ok : {key value : Bytes} → Does A (put key value) (answered (Ok tt)) (after (Put key value) A)
  delete_yes : {key v : Bytes} → A key ≡ Some v → Does A (delete key) (told (Ok true)) (after (Delete key) A)
  delete_no : {key : Bytes} → A key ≡ None → Does A (delete key) (told (Ok false)) A
  batch_ok : {source : Source} {ops : List Op} → operations source ≡ Some ops
      → Does A (apply_batch source) (answered (Ok tt)) (after_all ops A)
  scan_finished : {prefix output : Bytes} {most : ℕ} {is : List Item} → AllOf prefix A is
      → Does A (scan_prefix prefix most output) (listed (scanned (Ok End.Finished) is) (laid (records is) output)) A

-- ---- `Step A c h B`: while the plain map is A the store, called c, may answer h, and the map is B from then on.
-- Where the same answer may leave the map as it was or not, the call is in or out, and is one of the two once for
-- good: the next step starts from there.
pub data Step (A : Plain) : Call → Heard → Plain → Type 0 where
  -- Ok is in, and every successful get, contains and finished scan (and delete) equals the plain map
  ok : {c : Call} {h : Heard} {B : Plain} → Does A c h B → Step A c h B
  -- 15 is in; 16 is in or out
  committed : {source : Source} {B : Plain} → Does A (apply_batch source) (answered (Ok tt)) B
      → Step A (apply_batch source) (answered (Err BatchCommitted)) B
  uncertain_in : {source : Source} {B : Plain} → Does A (apply_batch source) (answered (Ok tt)) B
      → Step A (apply_batch source) (answered (Err CommitUncertain)) B
  uncertain_out : {source : Source} → Step A (apply_batch source) (answered (Err CommitUncertain)) A
  -- a put or delete answered with an item fault (4 to 12) is in or out: in by these, out by the next
  put_in : {key value : Bytes} {f : Fault} → 4 ≤ number f → number f ≤ 12
      → Step A (put key value) (answered (Err f)) (after (Put key value) A)
  delete_in : {key : Bytes} {f : Fault} → 4 ≤ number f → number f ≤ 12
      → Step A (delete key) (told (Err f)) (after (Delete key) A)
  -- every other answer is out; 13 is never one, and 15 and 16 are a batch's alone
  out : {c : Call} {h : Heard} {f : Fault} → refusal_of h ≡ Some f → number f ≢ 13 → number f ≢ 15 → number f ≢ 16
      → Step A c h A
  -- a call that is not made changes nothing, nor does a scan that ends before it is finished
  unmade : {c : Call} → Step A c nothing A
  stopped : {c : Call} {n l : ℕ} {shown : Bytes}
      → Step A c (listed (record { end = Ok End.Stopped; count = n; length = l }) shown) A
  no_room : {c : Call} {n l : ℕ} {shown : Bytes}
      → Step A c (listed (record { end = Ok End.NoRoom; count = n; length = l }) shown) A

-- every call of a run is answered as the plain map allows that the calls before it left
pub data Kept : Plain → List Call → Moment → Type 0 where
  end : {A : Plain} {m : Moment} → Kept A [] m
  then : {A : Plain} {c : Call} {cs : List Call} {m : Moment} (B : Plain) → Step A c (turn c m).heard B
      → Kept B cs (turn c m).next → Kept A (c ∷ cs) m

-- ---- A run starts with nothing mounted, on a region with no bookkeeping items, "those whose key begins with byte
-- 0". Its map has what the region has.
abbrev pub plain_of : Moment → Plain
plain_of m = λ k. look k m.region

pub record Start (m : Moment) : Type 0 where
  pub unmounted : m.newest ≡ None
  pub plain : (k : Bytes) → reserved k ≡ true → plain_of m k ≡ None

-- THE PROMISE: every run from such a start is answered as a plain map answers, and in such a run 13 is never answered.
abbrev pub Promise : Type 0
Promise = (m : Moment) → Start m → (run : List Call) → Kept (plain_of m) run m

abbrev pub Never13 : Type 0
Never13 =
    (m : Moment) → Start m → (run : List Call) (c : Call) (f : Fault)
    → refusal_of (turn c (later run m)).heard ≡ Some f → number f ≢ 13

-- ---- THE LAST SENTENCE: once faults stop and no cut stands, the first contains on a mounted store answers, or
-- reports 6; and so does a mount, which lifts a cut, of a region that may be mounted at all. proofs/Lasts proves it.

-- faults stop: nothing but passes is left in the script, or it is spent
abbrev pub Calm : Bytes → ℕ → Type 0
Calm script at = (i : ℕ) → at ≤ i → i < length script → get_or script i 0 % 128 ≡ 0

-- yes, no or Ok; or 6
pub data Responds : Heard → Type 0 where
  fine : Responds (answered (Ok tt))
  full : Responds (answered (Err FullStorage))
  yes : Responds (told (Ok true))
  no : Responds (told (Ok false))
  full_told : Responds (told (Err FullStorage))

abbrev pub LastSentence : Type 0
LastSentence =
    (m : Moment) → Start m → (run : List Call)
    → ((st : State) (key : Bytes) → (later run m).newest ≡ Some st → st.cut ≡ false → Calm (later run m).script st.at
    → Responds (turn (contains key) (later run m)).heard)
    × ((start at : ℕ) → good m.region ≡ true → region_fault start (length m.region) ≡ None → Calm (later run m).script at
    → Responds (turn (mount start at) (later run m)).heard)
