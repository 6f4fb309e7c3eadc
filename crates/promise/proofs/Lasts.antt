-- The promise's last sentence: once faults stop, the first contains on a mounted store answers or reports 6, and so
-- does a mount. It follows from what the calls ensure, with no fault left that a script may bring.
use mathlib.Core.Path.{◌≡◌, refl, sym, ◌∙◌, subst}
use mathlib.Core.Bool.{false}
use mathlib.Core.List.{[]}
use Rattle.std.specs.Prelude.{Option, None, Some, Err}
use Prim.Native.Nat.{ℕ, ◌%◌}
use native.Mathlib.Omega.{arith}
use lib.ListN.{length, get_or}
use lib.Dec.{ltb}
use borrow.Author.Tests.{ltb-true, eq-eqb, ne_eqb}
use Rattle.definition.specs.Tools.{Bytes, pick, opt}
use Rattle.definition.specs.Region.{good}
use Rattle.definition.specs.Script.{byte_fate, fate, stepped}
use Rattle.definition.specs.Program.{Prog, world, exec, flat}
use Rattle.definition.specs.Calls.{Said, region_fault}
use Rattle.definition.specs.Calls as Calls
use Rattle.definition.specs.Public.{outcome, unmounted, begin}
use Rattle.definition.specs.Public as Public
use Rattle.definition.specs.declared.State.{State}
use Rattle.definition.specs.declared.Step.{Step}
use Rattle.definition.specs.declared.Fault.{Fault}
use Rattle.definition.specs.declared.Verdict.TheVariants.{Pass}
use Rattle.definition.specs.Answers.{Answer, TruthAnswer}
use Rattle.definition.proofs.Choices.{pick_yes, pick_no, bool, opt_none}
use Rattle.reasons.proofs.Ensures.{Ensures, Ends, Obeys, exec_ensures}
use Rattle.reasons.proofs.FlatLaws.{flat_laws}
use Rattle.reasons.proofs.StandsFor.{none≢some}
use Rattle.reasons.proofs.Recovers.{by_fate, no_room}
use Rattle.reasons.proofs.Answers as Answers
use Rattle.reasons.proofs.Answers.{Never}
use Rattle.promise.specs.Run.{mount, contains, answered, told, Moment, made, mounting, turn, later}
use Rattle.promise.specs.Promise.{Plain, plain_of, Calm, Responds, fine, full, yes, no, full_told, LastSentence}
use Rattle.promise.proofs.AtBytes.{base, Standing, Whichever, Holds, whichever, image_good, on_public}
use Rattle.promise.proofs.Keeps.{run_holds}
use Rattle.promise.proofs.Promised.{bad_unmounted, started, lent_whole}

abbrev NoFault : Fault → Type 0
NoFault f = ⊥

-- a calm script brings none, and stays calm
record Quiet (script : Bytes) (t : Step) : Type 0 where
  uncut : t.cut ≡ false
  calm : Calm script t.at

quiet_fate : (script : Bytes) (t : Step) → Quiet script t → fate script t ≡ Pass
unfolding fate byte_fate
quiet_fate script t q =
    pick_no _ _ q.uncut
    ∙ bool (ltb t.at (length script))
    (λ l. pick_yes _ _ l ∙ pick_yes _ _ (eq-eqb _ _ (q.calm t.at (omega arith) (ltb-true _ _ l)))) (λ l. pick_no _ _ l)

quiet_step : (script : Bytes) (t : Step) → Quiet script t → Quiet script (stepped script t)
unfolding stepped pick
quiet_step script t q =
    rw q.uncut (bool (ltb t.at (length script))
    (λ l. rw l (record {
      uncut =
          let z : get_or script t.at 0 % 128 ≡ 0 = q.calm t.at (omega arith) (ltb-true _ _ l) in
          let n : get_or script t.at 0 % 128 ≡ 127 → ⊥ = λ e. absurd (omega arith) in
          ne_eqb _ _ n;
      calm = λ i a b. q.calm i (omega arith) b;
    }))
    (λ l. rw l (record { uncut = refl; calm = q.calm })))

quiet : (script : Bytes) (t : Step) → Quiet script t → Obeys NoFault (fate script t) × Quiet script (stepped script t)
quiet script t q = (subst (Obeys NoFault) (sym (quiet_fate script t q)) tt, quiet_step script t q)

quiet_runs : {X : Type 0} {Q : Said X → Bytes → Type 0} {p : Prog Bytes (Said X)} (region script : Bytes) (st : State) → st.cut ≡ false → Calm script st.at
    → Ensures NoFault Q Never p region → Ends Q Never (exec p (world region script (begin st)))
quiet_runs region script st u c e = exec_ensures NoFault Quiet quiet (λ script t n q. record { uncut = q.uncut; calm = q.calm }) e (world region script (begin st)) (record { uncut = u; calm = c }) refl

module _ (len : ℕ) where
  contains_responds : {A : Plain} {key : Bytes} {r : Said TruthAnswer} {s : Bytes} → Answers.ContainsSays flat flat_laws base len NoFault A key r s
      → Responds (told r.answer)
  contains_responds (Answers.contains_yes e m) = yes
  contains_responds (Answers.contains_no e m) = no
  contains_responds (Answers.contains_failed (by_fate x) m) = absurd x
  contains_responds (Answers.contains_failed (no_room x) m) = full_told

  mount_responds : {A : Plain} {r : Said Answer} {s : Bytes} → Answers.MountSays flat flat_laws base len NoFault A r s → Responds (answered r.answer)
  mount_responds (Answers.mount_done m) = fine
  mount_responds (Answers.mount_failed (by_fate x) m) = absurd x
  mount_responds (Answers.mount_failed (no_room x) m) = full

  contains_lasts : (A : Plain) (region script : Bytes) (st : State) (key : Bytes) → Standing len st.health A region → st.cut ≡ false → Calm script st.at
      → Responds (told (Public.contains region script st key).answer)
  unfolding Public.contains
  contains_lasts A region script st key m u c =
      on_public Err (λ r. Responds (told r.answer)) _ region script st []
      (image_good len (whichever len (Some st) m))
      (quiet_runs region script st u c (Answers.contains_ensures flat flat_laws base len NoFault key st.health region m)) (λ r w q. contains_responds q)

  mount_lasts : (A : Plain) (region script : Bytes) (start at : ℕ) → Whichever len A region → region_fault start (length region) ≡ None → Calm script at
      → Responds (answered (Public.mount region script start at).answer)
  unfolding Public.mount
  mount_lasts A region script start at m e c =
      rw (opt_none (Public.public Err (Calls.mount flat) region script (unmounted region at) [])
      (λ f. outcome (Err f) (unmounted region at) 0 region []) e)
      (on_public Err (λ r. Responds (answered r.answer)) (Calls.mount flat) region script (unmounted region at) [] (image_good len m)
      (quiet_runs region script (unmounted region at) refl c (Answers.mount_ensures flat flat_laws base len NoFault region m)) (λ r w q. mount_responds q))

  -- at any moment under whose newest state the items stand for some map
  module _ (m : Moment) (A : Plain) (h : Holds len m.newest A m.region) where
    contains_turn : (st : State) (key : Bytes) → m.newest ≡ Some st → st.cut ≡ false → Calm m.script st.at → Responds (turn (contains key) m).heard
    unfolding turn made opt
    contains_turn st key e u c = rw e (contains_lasts A m.region m.script st key (subst (λ (o : Option State). Holds len o A m.region) e h) u c)

    mount_turn : (start at : ℕ) → region_fault start (length m.region) ≡ None → Calm m.script at → Responds (turn (mount start at) m).heard
    unfolding turn mounting
    mount_turn start at e c = mount_lasts A m.region m.script start at (whichever len m.newest h) e c

pub last_sentence : LastSentence
last_sentence m s run =
    let len : ℕ = length m.region in (
      -- what is no good image is never mounted, so that there is no state to ask with
      λ st key e u c. bool (good m.region)
          (λ g. let (A, h) = run_holds len run (plain_of m) m (started m s g) in contains_turn len (later run m) A h st key e u c)
          (λ g. absurd (none≢some (sym (bad_unmounted (plain_of m) run m s.unmounted g) ∙ e))),
      λ start at g e. let (A, h) = run_holds len run (plain_of m) m (started m s g) in
          mount_turn len (later run m) A h start at (subst (λ (l : ℕ). region_fault start l ≡ None) (sym (lent_whole m s run)) e),
    )
