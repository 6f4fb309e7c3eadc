-- The promise, proved: from a region with no bookkeeping items every run is answered as a plain map answers, with
-- outputs that show it; the region keeps its length; and 13 is never answered.
use mathlib.Core.Path.{◌≡◌, refl, sym, ap, ◌∙◌, subst}
use mathlib.Core.Logic.{◌≢◌}
use mathlib.Core.Bool.{true, false}
use mathlib.Core.List.{List, [], ◌∷◌, ◌++◌}
use Rattle.std.specs.Prelude.{Option, None, Some, Err}
use Prim.Native.Nat.{ℕ}
use native.Mathlib.Omega.{arith}
use lib.ListN.{length}
use Rattle.definition.specs.Tools.{Bytes, pick, opt}
use Rattle.definition.specs.Region.{good}
use Rattle.definition.specs.Codec.{reserved, marker_key}
use Rattle.definition.specs.Numbers.{number, refusal}
use Rattle.definition.specs.Calls.{unstorable, region_fault}
use Rattle.definition.specs.Public.{Outcome, outcome, public}
use Rattle.definition.specs.Public as Public
use Rattle.definition.specs.declared.State.{State}
use Rattle.definition.specs.declared.Fault.{Fault}
use Rattle.definition.specs.Answers.{Answer}
use Rattle.definition.proofs.Choices.{pick_no, bool, opt_to}
use Rattle.definition.proofs.Codecs.{marker_reserved}
use Rattle.reasons.proofs.FlatLaws.{flat_laws}
use Rattle.reasons.proofs.StandsFor.{none≢some, out}
use Rattle.promise.specs.Run.{Call, rescript, mount, get, contains, put, delete, apply_batch, scan_prefix, Heard, Moment, Turn, made, state_after, mounting, turn, later, refusal_of}
use Rattle.promise.specs.Promise.{Plain, Kept, end, then, Start, plain_of, Promise, Never13}
use Rattle.promise.specs.Promise as P
use Rattle.promise.specs.Beside.{Shows, Shown, Outputs, LentWhole}
use Rattle.promise.proofs.Faults.{outright, Outright, region_outright}
use Rattle.promise.proofs.AtBytes.{Whichever, Holds, whichever, image_length}
use Rattle.promise.proofs.Keeps.{out_of, run_kept, run_holds}

-- ---- the start

start_holds : (m : Moment) → Start m → good m.region ≡ true → Whichever (length m.region) (plain_of m) m.region
unfolding unstorable
start_holds m s g =
    out (record {
      good = g;
      extent = refl;
      user = λ k u. refl;
      hidden = λ k u. bool (reserved k) (λ r. s.plain k r) (λ r. flat_laws.no_long_key k m.region g (sym (pick_no _ _ r) ∙ u));
      no_marker = s.plain marker_key marker_reserved;
    })

-- ---- what is no good image is never mounted, and stays as it is

data Spurned (region : Bytes) : Outcome Answer → Type 0 where
  spurned : {f : Fault} {st : State} {n : ℕ} {output : Bytes} → Outright f → Spurned region (outcome (Err f) st n region output)

bad_mount : (region script : Bytes) (start at : ℕ) → good region ≡ false → Spurned region (Public.mount region script start at)
unfolding Public.mount public outright number pick
bad_mount region script start at g =
    opt_to (Spurned region) (region_fault start (length region)) (λ e. rw g (spurned refl)) (λ f e. spurned (region_outright _ _ f e))

record Stays (A : Plain) (c : Call) (region : Bytes) (t : Turn) : Type 0 where
  step : P.Step A c t.heard A
  shows : Shows A c t.heard
  unmounted : t.next.newest ≡ None
  same : t.next.region ≡ region

bad_turn : (A : Plain) (c : Call) (region script : Bytes) → good region ≡ false
    → Stays A c region (turn c (record { region = region; script = script; newest = None }))
unfolding turn made mounting opt state_after refusal_of refusal Shows
bad_turn A (rescript new at) region script g = record { step = P.unmade; shows = tt; unmounted = refl; same = refl }
bad_turn A (mount start at) region script g = refused (bad_mount region script start at g)
  where
    refused : {r : Outcome Answer} → Spurned region r → Stays A (mount start at) region (mounting (record { region = region; script = script; newest = None }) r)
    refused (spurned x) = record { step = out_of refl x; shows = tt; unmounted = refl; same = refl }
bad_turn A (get key output) region script g = record { step = P.unmade; shows = tt; unmounted = refl; same = refl }
bad_turn A (contains key) region script g = record { step = P.unmade; shows = tt; unmounted = refl; same = refl }
bad_turn A (put key value) region script g = record { step = P.unmade; shows = tt; unmounted = refl; same = refl }
bad_turn A (delete key) region script g = record { step = P.unmade; shows = tt; unmounted = refl; same = refl }
bad_turn A (apply_batch source) region script g = record { step = P.unmade; shows = tt; unmounted = refl; same = refl }
bad_turn A (scan_prefix prefix most output) region script g = record { step = P.unmade; shows = tt; unmounted = refl; same = refl }

module _ (A : Plain) where
  bad_stays : (c : Call) (m : Moment) → m.newest ≡ None → good m.region ≡ false → Stays A c m.region (turn c m)
  bad_stays c m u g = subst (λ (o : Option State). Stays A c m.region (turn c (record { region = m.region; script = m.script; newest = o })))
      (sym u) (bad_turn A c m.region m.script g)

  bad_kept : (run : List Call) (m : Moment) → m.newest ≡ None → good m.region ≡ false → (kept : Kept A run m) × Shown kept
  unfolding Shown
  bad_kept [] m u g = (end, tt)
  bad_kept (c ∷ run) m u g =
      let t = bad_stays c m u g in
      let (kept, shown) = bad_kept run (turn c m).next t.unmounted (ap good t.same ∙ g) in
      (then A t.step kept, (t.shows, shown))

  bad_later : (run : List Call) (m : Moment) → m.newest ≡ None → good m.region ≡ false → (later run m).region ≡ m.region
  unfolding later
  bad_later [] m u g = refl
  bad_later (c ∷ run) m u g = let t = bad_stays c m u g in bad_later run (turn c m).next t.unmounted (ap good t.same ∙ g) ∙ t.same

  -- and nothing is ever mounted on it
  pub bad_unmounted : (run : List Call) (m : Moment) → m.newest ≡ None → good m.region ≡ false → (later run m).newest ≡ None
  unfolding later
  bad_unmounted [] m u g = u
  bad_unmounted (c ∷ run) m u g = let t = bad_stays c m u g in bad_unmounted run (turn c m).next t.unmounted (ap good t.same ∙ g)

-- ---- the promise

pub started : (m : Moment) → Start m → good m.region ≡ true → Holds (length m.region) m.newest (plain_of m) m.region
started m s g = subst (λ (o : Option State). Holds (length m.region) o (plain_of m) m.region) (sym s.unmounted) (start_holds m s g)

pub outputs : Outputs
outputs m s run =
    bool (good m.region) (λ g. run_kept (length m.region) run (plain_of m) m (started m s g)) (λ g. bad_kept (plain_of m) run m s.unmounted g)

pub promise : Promise
promise m s run = (outputs m s run).0

pub lent_whole : LentWhole
lent_whole m s run =
    bool (good m.region)
    (λ g. let (A, h) = run_holds (length m.region) run (plain_of m) m (started m s g) in
    image_length (length m.region) (whichever (length m.region) (later run m).newest h))
    (λ g. ap (λ (r : Bytes). length r) (bad_later (plain_of m) run m s.unmounted g))

-- ---- 13

some_is : {a b : Fault} → Some a ≡ Some b → a ≡ b
some_is p = cc

same_fault : {g f : Fault} → number g ≢ 13 → Some g ≡ Some f → number f ≢ 13
same_fault d e p = d (ap number (some_is e) ∙ p)

-- what the plain map does is no refusal
no_refusal : {A B : Plain} {c : Call} {h : Heard} → P.Does A c h B → refusal_of h ≡ None
unfolding refusal_of refusal
no_refusal P.mounted = refl
no_refusal (P.get_found x) = refl
no_refusal (P.get_absent x) = refl
no_refusal (P.contains_yes x) = refl
no_refusal (P.contains_no x) = refl
no_refusal P.put_ok = refl
no_refusal (P.delete_yes x) = refl
no_refusal (P.delete_no x) = refl
no_refusal (P.batch_ok x) = refl
no_refusal (P.scan_finished x) = refl

-- a fault that a step of the plain map allows is none of these
fault_heard : {A B : Plain} {c : Call} {h : Heard} → P.Step A c h B → (f : Fault) → refusal_of h ≡ Some f → number f ≢ 13
unfolding refusal_of refusal number
fault_heard (P.ok x) f e = absurd (none≢some (sym (no_refusal x) ∙ e))
fault_heard (P.committed x) f e = same_fault (λ q. absurd (omega arith)) e
fault_heard (P.uncertain_in x) f e = same_fault (λ q. absurd (omega arith)) e
fault_heard P.uncertain_out f e = same_fault (λ q. absurd (omega arith)) e
fault_heard (P.put_in a b) f e = same_fault (λ q. absurd (omega arith)) e
fault_heard (P.delete_in a b) f e = same_fault (λ q. absurd (omega arith)) e
fault_heard (P.out r x y z) f e = same_fault x (sym r ∙ e)
fault_heard P.unmade f e = absurd (none≢some e)
fault_heard P.stopped f e = absurd (none≢some e)
fault_heard P.no_room f e = absurd (none≢some e)

-- the last call of a run is a step of the plain map at that time
last_step : (run : List Call) (c : Call) {A : Plain} {m : Moment} → Kept A (run ++ (c ∷ [])) m
    → (B : Plain) × (C : Plain) × P.Step B c (turn c (later run m)).heard C
unfolding later
last_step [] c {A} (then B x k) = (A, B, x)
last_step (d ∷ run) c (then B x k) = last_step run c k

pub never_13 : Never13
never_13 m s run c f e = let (B, C, x) = last_step run c (promise m s (run ++ (c ∷ []))) in fault_heard x f e
