-- The promise speaks of something: a run with a lying store, an uncertain commit, a power cut and a remount, computed
-- from the definition.
use mathlib.Core.Path.{◌≡◌, refl, ap}
use mathlib.Core.Bool.{Bool, true, false}
use mathlib.Core.List.{List, [], ◌∷◌}
use Rattle.std.specs.Prelude.{Option, None, Some, Ok, Err}
use Prim.Native.Nat.{ℕ, ◌-◌}
use lib.ListN.{replicate}
use Rattle.definition.specs.Tools.{Bytes}
use Rattle.definition.specs.Region.{Item, item, fetched, render, look}
use Rattle.definition.specs.Public.{state}
use Rattle.definition.specs.declared.Space.{Space}
use Rattle.definition.specs.declared.State.{State}
use Rattle.definition.specs.declared.Fault.TheVariants.{Driver, CommitUncertain}
use Rattle.definition.specs.declared.DriverKind.TheVariants.{Other}
use Rattle.definition.specs.declared.Health.TheVariants.{Clean, Pending}
use Rattle.definition.specs.Answers.{Answer}
use Rattle.definition.specs.declared.ScanEnd.TheVariants.{Finished}
use Rattle.definition.proofs.Computes.{computes}
use Rattle.definition.proofs.Image.{erased}
use Rattle.promise.specs.Run.{from_list, batched, Call, rescript, mount, get, contains, put, apply_batch, scan_prefix, Heard, nothing, answered, told, got, listed, Moment, Turn, made, state_after, mounting, turn}
use Rattle.promise.specs.Promise.{Kept, Start, plain_of}
use Rattle.promise.proofs.Promised.{promise}

abbrev pub moment : List Item → Bytes → Option State → Moment
moment is script o = record { region = render 8192 is; script = script; newest = o }

abbrev pub hears : Heard → Moment → Turn
hears h m = record { heard = h; next = m }

-- ---- keys, values, and `put a 3; del b` as a list

abbrev pub a : Bytes
a = 0x61 ∷ []

abbrev pub holds : ℕ → Item
holds v = item a (v ∷ [])

abbrev list : Bytes
list = 0x0b ∷ 0 ∷ 0 ∷ 0 ∷ 1 ∷ 0 ∷ 1 ∷ 0 ∷ 1 ∷ 0x61 ∷ 0x33 ∷ 0x0a ∷ 0 ∷ 0 ∷ 0 ∷ 2 ∷ 0 ∷ 0 ∷ 0 ∷ 1 ∷ 0x62 ∷ []

abbrev committed : List Item
committed =
    holds 0x32 ∷ item (0 ∷ 0x6a ∷ 0 ∷ 0 ∷ []) (0 ∷ 1 ∷ 0x61 ∷ 0x33 ∷ []) ∷ item (0 ∷ 0x6a ∷ 0 ∷ 1 ∷ []) (1 ∷ 1 ∷ 0x62 ∷ [])
    ∷ item (0 ∷ 0x63 ∷ []) (0 ∷ 2 ∷ 0xff ∷ 0xfd ∷ []) ∷ []

-- a store that fails and is done all the same
abbrev lying : Bytes
lying = 0x83 ∷ []

-- the same of the marker, whose read-back fails too; then a pass, and the power is cut
abbrev cutting : Bytes
cutting = 0 ∷ 0 ∷ 0x83 ∷ 3 ∷ 0 ∷ 0x7f ∷ []

-- ---- the run

abbrev run : List Call
run =
    mount 0 0 ∷ put a (0x31 ∷ []) ∷ rescript lying 0 ∷ put a (0x32 ∷ []) ∷ get a (0 ∷ []) ∷ rescript cutting 0 ∷ apply_batch (from_list list) ∷ get a (0 ∷ []) ∷ contains a
    ∷ mount 0 6 ∷ get a (0 ∷ []) ∷ scan_prefix [] 100 (replicate 11 0) ∷ []

abbrev erased_store : Moment
erased_store = record { region = replicate 8192 255; script = []; newest = None }

start : Start erased_store
unfolding look fetched
start = record { unmounted = refl; plain = λ k r. ap (fetched k) (erased 8192).1 }

-- what the promise says of it
kept : Kept (plain_of erased_store) run erased_store
kept = promise erased_store start run

-- ---- what it is, call by call

-- a store that holds so much, in 8192 bytes: Clean; Pending, with the batch's journal and marker, and maybe cut
abbrev holding : ℕ → ℕ → Space
holding used takes = record { used = used; free = 8192 - used; takes = takes }

abbrev empty : Option State
empty = Some (state Clean 0 false (holding 0 0))

abbrev clean : ℕ → Option State
clean at = Some (state Clean at false (holding 11 1))

abbrev pending : ℕ → Bool → Option State
pending at cut = Some (state Pending at cut (holding 59 1))

abbrev failed : Answer
failed = Err (Driver Other)

turn1 : turn (mount 0 0) erased_store ≡ hears (answered (Ok tt)) (moment [] [] empty)
unfolding computes turn made batched mounting state_after
turn1 = refl

turn2 : turn (put a (0x31 ∷ [])) (moment [] [] empty) ≡ hears (answered (Ok tt)) (moment (holds 0x31 ∷ []) [] (clean 0))
unfolding computes turn made batched mounting state_after
turn2 = refl

turn3 : turn (rescript lying 0) (moment (holds 0x31 ∷ []) [] (clean 0)) ≡ hears nothing (moment (holds 0x31 ∷ []) lying (clean 0))
unfolding computes turn made batched mounting state_after
turn3 = refl

-- refused, and done: this one is in
turn4 : turn (put a (0x32 ∷ [])) (moment (holds 0x31 ∷ []) lying (clean 0)) ≡ hears (answered failed) (moment (holds 0x32 ∷ []) lying (clean 1))
unfolding computes turn made batched mounting state_after
turn4 = refl

turn5 : turn (get a (0 ∷ [])) (moment (holds 0x32 ∷ []) lying (clean 1)) ≡ hears (got (Ok (Some 1)) (0x32 ∷ [])) (moment (holds 0x32 ∷ []) lying (clean 1))
unfolding computes turn made batched mounting state_after
turn5 = refl

turn6 : turn (rescript cutting 0) (moment (holds 0x32 ∷ []) lying (clean 1)) ≡ hears nothing (moment (holds 0x32 ∷ []) cutting (clean 0))
unfolding computes turn made batched mounting state_after
turn6 = refl

-- 16: this one is in too, as the remount will show
turn7 : turn (apply_batch (from_list list)) (moment (holds 0x32 ∷ []) cutting (clean 0))
    ≡ hears (answered (Err CommitUncertain)) (moment committed cutting (pending 4 false))
unfolding computes turn made batched mounting state_after
turn7 = refl

-- the power goes while it recovers
turn8 : turn (get a (0 ∷ [])) (moment committed cutting (pending 4 false))
    ≡ hears (got (Err (Driver Other)) (0 ∷ [])) (moment committed cutting (pending 6 true))
unfolding computes turn made batched mounting state_after
turn8 = refl

turn9 : turn (contains a) (moment committed cutting (pending 6 true))
    ≡ hears (told (Err (Driver Other))) (moment committed cutting (pending 6 true))
unfolding computes turn made batched mounting state_after
turn9 = refl

turn10 : turn (mount 0 6) (moment committed cutting (pending 6 true)) ≡ hears (answered (Ok tt)) (moment (holds 0x33 ∷ []) cutting (clean 6))
unfolding computes turn made batched mounting state_after
turn10 = refl

turn11 : turn (get a (0 ∷ [])) (moment (holds 0x33 ∷ []) cutting (clean 6)) ≡ hears (got (Ok (Some 1)) (0x33 ∷ [])) (moment (holds 0x33 ∷ []) cutting (clean 6))
unfolding computes turn made batched mounting state_after
turn11 = refl

turn12 : turn (scan_prefix [] 100 (replicate 11 0)) (moment (holds 0x33 ∷ []) cutting (clean 6))
    ≡ hears (listed (record { end = Ok Finished; count = 1; length = 11 }) (0x0b ∷ 0 ∷ 0 ∷ 0 ∷ 1 ∷ 0 ∷ 1 ∷ 0 ∷ 1 ∷ 0x61 ∷ 0x33 ∷ []))
    (moment (holds 0x33 ∷ []) cutting (clean 6))
unfolding computes turn made batched mounting state_after
turn12 = refl

-- ---- and all of it as one fact

-- what is heard in a run, call by call
pub data Hears : List Call → Moment → List Heard → Type 0 where
  ends : {m : Moment} → Hears [] m []
  then : {c : Call} {cs : List Call} {h : Heard} {hs : List Heard} {m next : Moment} → turn c m ≡ hears h next → Hears cs next hs → Hears (c ∷ cs) m (h ∷ hs)

heard : Hears run erased_store
    (answered (Ok tt) ∷ answered (Ok tt) ∷ nothing ∷ answered failed ∷ got (Ok (Some 1)) (0x32 ∷ []) ∷ nothing ∷ answered (Err CommitUncertain)
    ∷ got (Err (Driver Other)) (0 ∷ []) ∷ told (Err (Driver Other)) ∷ answered (Ok tt) ∷ got (Ok (Some 1)) (0x33 ∷ [])
    ∷ listed (record { end = Ok Finished; count = 1; length = 11 }) (0x0b ∷ 0 ∷ 0 ∷ 0 ∷ 1 ∷ 0 ∷ 1 ∷ 0 ∷ 1 ∷ 0x61 ∷ 0x33 ∷ []) ∷ [])
heard =
    then turn1 (then turn2 (then turn3 (then turn4 (then turn5
    (then turn6 (then turn7 (then turn8 (then turn9 (then turn10 (then turn11 (then turn12 ends)))))))))))
