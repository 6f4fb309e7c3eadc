-- Every call on a region that stands for a plain map is answered as the map may answer it, and leaves a region that
-- stands for the map after it.
use mathlib.Core.Path.{◌≡◌, refl, sym, ap, ◌∙◌, subst}
use mathlib.Core.Bool.{true}
use mathlib.Core.List.{List, [], ◌∷◌}
use Rattle.std.specs.Prelude.{Option, None, Some, Err}
use Prim.Native.Nat.{ℕ}
use lib.ListN.{length}
use Rattle.definition.specs.Tools.{Bytes, pick, opt}
use Rattle.definition.specs.Region.{Item, good}
use Rattle.definition.specs.Codec.{Op, Put, Delete, laid}
use Rattle.definition.specs.Script.{fate}
use Rattle.definition.specs.Numbers.{number, refusal}
use Rattle.definition.specs.Program.{Prog, World, world, exec, flat}
use Rattle.definition.specs.Calls.{Said, batch_of, region_fault}
use Rattle.definition.specs.Calls as Calls
use Rattle.definition.specs.Scan.{rising, beyond}
use Rattle.definition.specs.Public.{Outcome, outcome, unmounted, begin, public}
use Rattle.definition.specs.Public as Public
use Rattle.definition.specs.declared.State.{State}
use Rattle.definition.specs.declared.Step as Declared
use Rattle.definition.specs.declared.Fault.{Fault}
use Rattle.definition.specs.declared.Health.{Health}
use Rattle.definition.specs.Answers.{Answer, GetAnswer, TruthAnswer}
use Rattle.definition.specs.declared.Scanned.{Scanned}
use Rattle.definition.proofs.Choices.{pick_yes, opt_to}
use Rattle.reasons.proofs.Ensures.{Ensures, by_ret, by_option, weaken, Ends, Obeys, exec_ensures}
use Rattle.reasons.proofs.FlatLaws.{flat_laws}
use Rattle.reasons.proofs.Overlay.{effect, effects, updated, updated_all}
use Rattle.reasons.proofs.Answers.{Never}
use Rattle.reasons.proofs.Answers as Answers
use Rattle.reasons.proofs.Batches as Batches
use Rattle.reasons.proofs.Listings as Listings
use Rattle.reasons.proofs.Scans as Scans
use Rattle.promise.specs.Run.{Source, from_list, from_pool, operations, batched, Call, rescript, mount, get, contains, put, delete, apply_batch, scan_prefix, Heard, answered, told, got, listed, refusal_of, Moment, made, state_after, mounting, turn, later}
use Rattle.promise.specs.Promise.{Plain, after, after_all, rises, AllOf, Kept, end, then}
use Rattle.promise.specs.Promise as P
use Rattle.promise.specs.Beside.{handed, untouched, FirstOf, Ended, wrote, Shows, Shown}
use Rattle.promise.proofs.Faults.{ItemFault, outright, Outright, item_range, outright_range, item_outright, item_not_13, caused_item, script_obeys, put_outright, batch_outright, region_outright}
use Rattle.promise.proofs.AtBytes.{base, rising_order, Standing, Whichever, Holds, whichever, image_good, on_public}

-- ---- the same map and the same lists, in the words of the definition's proofs and in the promise's

after_is : (op : Op) (A : Plain) → updated op A ≡ after op A
unfolding after effect
after_is (Put k v) A = refl
after_is (Delete k) A = refl

after_all_is : (ops : List Op) (A : Plain) → updated_all ops A ≡ after_all ops A
unfolding after_all effects
after_all_is [] A = refl
after_all_is (op ∷ ops) A = ap (updated_all ops) (after_is op A) ∙ after_all_is ops (after op A)

rises_is : (is : List Item) → Listings.Rising rising rising_order is → rises is ≡ true
unfolding rises beyond
rises_is [] r = refl
rises_is (i ∷ []) r = refl
rises_is (i ∷ (j ∷ is)) r = pick_yes _ _ r.0 ∙ rises_is (j ∷ is) r.1

first_is : {prefix : Bytes} {A : Plain} {is : List Item} → Listings.First rising rising_order prefix A is → FirstOf prefix A is
unfolding Listings.under
first_is {is = is} x = record { in_order = rises_is is x.rises; complete = x.holds }

whole_is : {prefix : Bytes} {A : Plain} {is : List Item} → Listings.Whole rising rising_order prefix A is → AllOf prefix A is
unfolding Listings.under
whole_is {is = is} x = record { in_order = rises_is is x.rises; complete = x.holds }

first_of_all : {prefix : Bytes} {A : Plain} {is : List Item} → AllOf prefix A is → FirstOf prefix A is
first_of_all x = record { in_order = x.in_order; complete = λ k e. x.complete k }

-- ---- a refusal's number, as the calls' proofs know it and as the promise says it

pub out_of : {A : Plain} {c : Call} {h : Heard} {f : Fault} → refusal_of h ≡ Some f → Outright f → P.Step A c h A
out_of {f = f} r x = let n = outright_range f x in P.out r n.0 n.1 n.2

put_in_of : {A : Plain} {key value : Bytes} {f : Fault} → ItemFault f → P.Step A (put key value) (answered (Err f)) (after (Put key value) A)
put_in_of {f = f} x = let n = item_range f x in P.put_in n.0 n.1

delete_in_of : {A : Plain} {key : Bytes} {f : Fault} → ItemFault f → P.Step A (delete key) (told (Err f)) (after (Delete key) A)
delete_in_of {f = f} x = let n = item_range f x in P.delete_in n.0 n.1

-- ---- any script brings item faults only

any_script : (script : Bytes) (t : Declared.Step) → Unit {0} → Obeys ItemFault (fate script t) × Unit {0}
any_script script t u = (script_obeys script t, tt)

runs : {X : Type 0} {Q : Said X → Bytes → Type 0} {p : Prog Bytes (Said X)} (region script : Bytes) (st : State) → Ensures ItemFault Q Never p region
    → Ends Q Never (exec p (world region script (begin st)))
runs region script st e = exec_ensures ItemFault (λ s t. Unit {0}) any_script (λ s t n u. tt) e (world region script (begin st)) tt refl

module _ (len : ℕ) where
  -- what a call comes to: a step of the plain map, what its output shows of it, and a region that stands for the map
  -- after it
  record Done (A : Plain) (c : Call) (h : Heard) (health : Health) (region : Bytes) : Type 0 where
    after : Plain
    step : P.Step A c h after
    shows : Shows A c h
    stands : Standing len health after region

  abbrev done : {A : Plain} {c : Call} {h : Heard} {health : Health} {region : Bytes} (B : Plain)
      → P.Step A c h B → Shows A c h → Standing len health B region → Done A c h health region
  done B x s y = record { after = B; step = x; shows = s; stands = y }

  -- the same with a map in the other words
  also : {A : Plain} {c : Call} {h : Heard} (health : Health) (region : Bytes) {B C : Plain} → B ≡ C → P.Step A c h C → Shows A c h
      → Standing len health B region → Done A c h health region
  also health region e x s y = done _ x s (subst (λ B. Standing len health B region) e y)

  -- ---- the answers

  module _ {A : Plain} where
    get_done : {key output : Bytes} {r : Said GetAnswer} {s : Bytes} → Answers.GetSays flat flat_laws base len ItemFault A key (length output) r s
        → Done A (get key output) (got r.answer (laid r.wrote output)) r.health s
    unfolding laid outright number pick refusal_of refusal Shows
    get_done (Answers.get_found e m) = done A (P.ok (P.get_found e)) (handed refl) m
    get_done (Answers.get_absent e m) = done A (P.ok (P.get_absent e)) (handed refl) m
    get_done (Answers.get_small e l m) = done A (out_of refl refl) untouched m
    get_done (Answers.get_failed c m) = done A (out_of refl (item_outright _ (caused_item _ c))) untouched m

    contains_done : {key : Bytes} {r : Said TruthAnswer} {s : Bytes} → Answers.ContainsSays flat flat_laws base len ItemFault A key r s
        → Done A (contains key) (told r.answer) r.health s
    unfolding refusal_of refusal Shows
    contains_done (Answers.contains_yes e m) = done A (P.ok (P.contains_yes e)) tt m
    contains_done (Answers.contains_no e m) = done A (P.ok (P.contains_no e)) tt m
    contains_done (Answers.contains_failed c m) = done A (out_of refl (item_outright _ (caused_item _ c))) tt m

    put_done : {key value : Bytes} {r : Said Answer} {s : Bytes} → Answers.PutSays flat flat_laws base len ItemFault A key value r s
        → Done A (put key value) (answered r.answer) r.health s
    unfolding refusal_of refusal Shows
    put_done {key} {value} (Answers.put_done {h = h} {s = s} m) = also h s (after_is (Put key value) A) (P.ok P.put_ok) tt m
    put_done (Answers.put_refused e m) = done A (out_of refl (put_outright _ _ _ e)) tt m
    put_done {key} {value} (Answers.put_in {h = h} {s = s} c m) = also h s (after_is (Put key value) A) (put_in_of (caused_item _ c)) tt m
    put_done (Answers.put_out c m) = done A (out_of refl (item_outright _ (caused_item _ c))) tt m

    delete_done : {key : Bytes} {r : Said TruthAnswer} {s : Bytes} → Answers.DeleteSays flat flat_laws base len ItemFault A key r s
        → Done A (delete key) (told r.answer) r.health s
    unfolding outright number pick refusal_of refusal Shows
    delete_done {key} (Answers.delete_yes {h = h} {s = s} e m) = also h s (after_is (Delete key) A) (P.ok (P.delete_yes e)) tt m
    delete_done (Answers.delete_no e m) = done A (P.ok (P.delete_no e)) tt m
    delete_done (Answers.delete_reserved m) = done A (out_of refl refl) tt m
    delete_done {key} (Answers.delete_in {h = h} {s = s} c m) = also h s (after_is (Delete key) A) (delete_in_of (caused_item _ c)) tt m
    delete_done (Answers.delete_out c m) = done A (out_of refl (item_outright _ (caused_item _ c))) tt m

    batch_done : {source : Source} {ops : List Op} {r : Said Answer} {s : Bytes} → operations source ≡ Some ops
        → Batches.BatchSays flat flat_laws base len ItemFault A ops r s → Done A (apply_batch source) (answered r.answer) r.health s
    unfolding refusal_of refusal Shows
    batch_done {ops = ops} e (Batches.batch_done {h = h} {s = s} m) = also h s (after_all_is ops A) (P.ok (P.batch_ok e)) tt m
    batch_done {ops = ops} e (Batches.batch_committed {h = h} {s = s} m) = also h s (after_all_is ops A) (P.committed (P.batch_ok e)) tt m
    batch_done {ops = ops} e (Batches.batch_in {h = h} {s = s} m) = also h s (after_all_is ops A) (P.uncertain_in (P.batch_ok e)) tt m
    batch_done e (Batches.batch_out m) = done A P.uncertain_out tt m
    batch_done e (Batches.batch_failed c m) = done A (out_of refl (item_outright _ (caused_item _ c))) tt m
    batch_done e (Batches.batch_refused x m) = done A (out_of refl (batch_outright _ _ x)) tt m

    scan_done : {prefix output : Bytes} {most : ℕ} {r : Said Scanned} {s : Bytes}
        → Scans.ScanSays rising rising_order flat flat_laws base len ItemFault A prefix most (length output) r s
        → Done A (scan_prefix prefix most output) (listed r.answer (laid r.wrote output)) r.health s
    unfolding refusal_of refusal Shows Ended
    scan_done (Scans.scan_finished x m) = done A (P.ok (P.scan_finished (whole_is x))) (wrote (first_of_all (whole_is x)) tt) m
    scan_done (Scans.scan_stopped x l m) = done A P.stopped (wrote (first_is x) l) m
    scan_done (Scans.scan_full i x y l m) = done A P.no_room (wrote (first_is x) (i, first_is y, l)) m
    scan_done (Scans.scan_failed f x m) = done A (out_of refl (fault_outright f)) (wrote (first_is x) tt) m
      where
        fault_outright : {f : Fault} → Scans.ScanFault rising rising_order flat flat_laws base len ItemFault f → Outright f
        fault_outright (Scans.scan_caused c) = item_outright _ (caused_item _ c)
        fault_outright (Scans.scan_value v) = unfold outright number pick in refl
        fault_outright Scans.scan_stalled = unfold outright number pick in refl

  -- ---- the public calls

  module _ (A : Plain) (region script : Bytes) (st : State) (m : Standing len st.health A region) where
    image : good region ≡ true
    image = image_good len (whichever len (Some st) m)

    -- a call of this answer, and what is heard of it
    call : {X : Type 0} {Q : Said X → Bytes → Type 0} {c : Call} (refuse : Fault → X) (hear : Outcome X → Heard) {p : Prog Bytes (Said X)} (output : Bytes)
        → Ensures ItemFault Q Never p region
        → ((r : Said X) (w : World Bytes) → Q r w.region
        → Done A c (hear (outcome r.answer (Public.after r.health w.step) w.step.calls w.region (laid r.wrote output)))
        r.health w.region)
        → let r = public refuse p region script st output in Done A c (hear r) r.state.health r.region
    call {c = c} refuse hear output e f =
        on_public refuse (λ r. Done A c (hear r) r.state.health r.region) _ region script st output image (runs region script st e) f

    get_call : (key output : Bytes)
        → let r = Public.get region script st key output in Done A (get key output) (got r.answer r.output) r.state.health r.region
    unfolding Public.get
    get_call key output =
        call Err (λ r. got r.answer r.output) output
        (Answers.get_ensures flat flat_laws base len ItemFault key (length output) st.health region m) (λ r w q. get_done q)

    contains_call : (key : Bytes) → let r = Public.contains region script st key in Done A (contains key) (told r.answer) r.state.health r.region
    unfolding Public.contains
    contains_call key =
        call Err (λ r. told r.answer) [] (Answers.contains_ensures flat flat_laws base len ItemFault key st.health region m)
        (λ r w q. contains_done q)

    put_call : (key value : Bytes)
        → let r = Public.put region script st key value in Done A (put key value) (answered r.answer) r.state.health r.region
    unfolding Public.put
    put_call key value =
        call Err (λ r. answered r.answer) [] (Answers.put_ensures flat flat_laws base len ItemFault key value st.health region m) (λ r w q. put_done q)

    delete_call : (key : Bytes) → let r = Public.delete region script st key in Done A (delete key) (told r.answer) r.state.health r.region
    unfolding Public.delete
    delete_call key =
        call Err (λ r. told r.answer) [] (Answers.delete_ensures flat flat_laws base len ItemFault key st.health region m)
        (λ r w q. delete_done q)

    scan_call : (prefix : Bytes) (most : ℕ) (output : Bytes) → let r = Public.scan_prefix region script st prefix most output in
        Done A (scan_prefix prefix most output) (listed r.answer r.output) r.state.health r.region
    unfolding Public.scan_prefix
    scan_call prefix most output =
        call _ (λ r. listed r.answer r.output) output
        (Scans.scan_ensures rising rising_order flat flat_laws base len ItemFault A prefix most (length output) st.health region m) (λ r w q. scan_done q)

    -- what gives no operations is refused, and changes nothing
    source_ensures : (source : Source)
        → Ensures ItemFault (λ r s. Done A (apply_batch source) (answered r.answer) r.health s) Never
        (batch_of flat (operations source) st.health) region
    unfolding batch_of outright number pick refusal_of refusal Shows
    source_ensures source =
        by_option (operations source) _ _ (λ e. by_ret (done A (out_of refl refl) tt m))
        (λ ops e. weaken (Batches.batch_ensures flat flat_laws base len ItemFault item_not_13 A ops st.health region m) (λ r s q. batch_done e q) (λ f s x. x))

    -- a batch is the same call, wherever its operations come from
    batched_is : (source : Source) → batched source region script st ≡ public Err (batch_of flat (operations source) st.health) region script st []
    unfolding batched operations Public.apply_batch Public.apply_ops
    batched_is (from_list list) = refl
    batched_is (from_pool ops pool) = refl

    batch_call : (source : Source)
        → let r = batched source region script st in Done A (apply_batch source) (answered r.answer) r.state.health r.region
    batch_call source =
        subst (λ (r : Outcome Answer). Done A (apply_batch source) (answered r.answer) r.state.health r.region) (sym (batched_is source))
        (call Err (λ r. answered r.answer) [] (source_ensures source) (λ r w q. q))

  -- ---- a mount, from whatever stands

  record Mounted (A : Plain) (start at : ℕ) (r : Outcome Answer) : Type 0 where
    step : P.Step A (mount start at) (answered r.answer) A
    holds : Holds len (state_after r.answer r.state) A r.region

  mount_says : {A : Plain} {start at : ℕ} {t : Declared.Step} {r : Said Answer} {s output : Bytes}
      → Answers.MountSays flat flat_laws base len ItemFault A r s → Mounted A start at (outcome r.answer (Public.after r.health t) t.calls s output)
  unfolding state_after refusal_of refusal
  mount_says (Answers.mount_done m) = record { step = P.ok P.mounted; holds = m }
  mount_says (Answers.mount_failed c m) = record { step = out_of refl (item_outright _ (caused_item _ c)); holds = m }

  mount_call : (A : Plain) (region script : Bytes) (start at : ℕ) → Whichever len A region → Mounted A start at (Public.mount region script start at)
  unfolding Public.mount state_after refusal_of refusal
  mount_call A region script start at m =
      opt_to (Mounted A start at) (region_fault start (length region))
      (λ e. on_public Err (Mounted A start at) (Calls.mount flat) region script (unmounted region at) [] (image_good len m)
      (runs region script (unmounted region at) (Answers.mount_ensures flat flat_laws base len ItemFault region m)) (λ r w q. mount_says q))
      (λ f e. record { step = out_of refl (region_outright _ _ f e); holds = m })

  -- ---- a turn

  record Turned (A : Plain) (c : Call) (m : Moment) : Type 0 where
    after : Plain
    step : P.Step A c (turn c m).heard after
    shows : Shows A c (turn c m).heard
    holds : Holds len (turn c m).next.newest after (turn c m).next.region

  take_turn : (A : Plain) (c : Call) (region script : Bytes) (o : Option State) → Holds len o A region
      → Turned A c (record { region = region; script = script; newest = o })
  unfolding turn made mounting opt Shows
  take_turn A (rescript new at) region script None m = record { after = A; step = P.unmade; shows = tt; holds = m }
  take_turn A (rescript new at) region script (Some st) m = record { after = A; step = P.unmade; shows = tt; holds = m }
  take_turn A (mount start at) region script o m =
      let r = mount_call A region script start at (whichever len o m) in
      record { after = A; step = r.step; shows = tt; holds = r.holds }
  take_turn A (get key output) region script None m = record { after = A; step = P.unmade; shows = tt; holds = m }
  take_turn A (get key output) region script (Some st) m =
      let r = get_call A region script st m key output in
      record { after = r.after; step = r.step; shows = r.shows; holds = r.stands }
  take_turn A (contains key) region script None m = record { after = A; step = P.unmade; shows = tt; holds = m }
  take_turn A (contains key) region script (Some st) m =
      let r = contains_call A region script st m key in
      record { after = r.after; step = r.step; shows = r.shows; holds = r.stands }
  take_turn A (put key value) region script None m = record { after = A; step = P.unmade; shows = tt; holds = m }
  take_turn A (put key value) region script (Some st) m =
      let r = put_call A region script st m key value in
      record { after = r.after; step = r.step; shows = r.shows; holds = r.stands }
  take_turn A (delete key) region script None m = record { after = A; step = P.unmade; shows = tt; holds = m }
  take_turn A (delete key) region script (Some st) m =
      let r = delete_call A region script st m key in
      record { after = r.after; step = r.step; shows = r.shows; holds = r.stands }
  take_turn A (apply_batch source) region script None m = record { after = A; step = P.unmade; shows = tt; holds = m }
  take_turn A (apply_batch source) region script (Some st) m =
      let r = batch_call A region script st m source in
      record { after = r.after; step = r.step; shows = r.shows; holds = r.stands }
  take_turn A (scan_prefix prefix most output) region script None m = record { after = A; step = P.unmade; shows = tt; holds = m }
  take_turn A (scan_prefix prefix most output) region script (Some st) m =
      let r = scan_call A region script st m prefix most output in
      record { after = r.after; step = r.step; shows = r.shows; holds = r.stands }

  -- ---- a run, and what holds after it

  pub run_kept : (run : List Call) (A : Plain) (m : Moment) → Holds len m.newest A m.region → (kept : Kept A run m) × Shown kept
  unfolding Shown
  run_kept [] A m h = (end, tt)
  run_kept (c ∷ run) A m h =
      let t = take_turn A c m.region m.script m.newest h in
      let (kept, shown) = run_kept run t.after (turn c m).next t.holds in
      (then t.after t.step kept, (t.shows, shown))

  pub run_holds : (run : List Call) (A : Plain) (m : Moment) → Holds len m.newest A m.region
      → (B : Plain) × Holds len (later run m).newest B (later run m).region
  unfolding later
  run_holds [] A m h = (A, h)
  run_holds (c ∷ run) A m h =
      let t = take_turn A c m.region m.script m.newest h in
      run_holds run t.after (turn c m).next t.holds
