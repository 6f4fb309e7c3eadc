-- What an item call of a given fate comes to: a law for each way out.
use mathlib.Core.Path.{◌≡◌, refl, sym, ap, ◌∙◌}
use mathlib.Core.Bool.{Bool, true, false}
use Prim.Native.Nat.{ℕ}
use Rattle.std.specs.Borrow.{Bor}
use Rattle.definition.specs.Tools.{Bytes}
use Rattle.definition.specs.Region.{Item, good, room_in, store_in, remove_in, look}
use Rattle.definition.specs.Space.{space_of}
use Rattle.definition.specs.Script.{fate, stepped}
use Rattle.definition.specs.Program.{World, world, Result, ok, bad, exec, ask, change, keeping, ran, done, flat, store, remove, fetch, step}
use Rattle.definition.proofs.Choices.{pick_no, true≢false}
use Rattle.definition.proofs.Running.{given, exec_one}
use Rattle.definition.specs.declared.Space.{Space}
use Rattle.definition.specs.declared.Step.{Step}
use Rattle.definition.specs.declared.Fault.{Fault}
use Rattle.definition.specs.declared.Fault.TheVariants.{FullStorage}
use Rattle.definition.specs.declared.Verdict.{Verdict}
use Rattle.definition.specs.declared.Verdict.TheVariants.{Pass, Fail}
use Rattle.std.specs.Prelude.{Option, Some, None, Ok, Err, IfSome, ◌≤◌, length}
use Rattle.region.specs.Places.{Visit}
use Rattle.region.specs.declared.Place.{Place}
use Rattle.region.specs.Changes.{Now, Removes, Stores}
use Rattle.region.proofs.Answers.{stored_done, stored_full}
use Rattle.items.specs.declared.Failure.{Failure}
use Rattle.items.specs.Forms.{Answered, failure, Ran, item_run, value_of, Fetches, Visits, has_effect, answered_of}

-- what does not fit changes nothing
pub full_same : (i : Item) (s : Bytes) → room_in i s ≡ false → store_in i s ≡ s
unfolding store_in
full_same i s e = pick_no _ _ e

-- ---- a call that writes, by its fate

module _ (f : Bytes → Bool) (g : Bytes → Bytes) (s script : Bytes) (t : Step) {v : Verdict} {n : Step} (ev : v ≡ fate script t) (en : n ≡ stepped script t) where
  change_of : exec (change flat f g) (world s script t) ≡ given (λ s. tt) (done v (f s) (g s) (λ m. space_of (g s)) s script n)
  unfolding ran change
  change_of = exec_one f g (λ s m. space_of s) (λ s. tt) (world s script t) ∙ rw (ev, en)

  -- the effect is done, and the numbers kept are those of what it left
  module _ {b : Bytes} (o : Now b (g s)) {m : Space} (em : m ≡ space_of b) {u : Step} (eu : u ≡ keeping (λ x. m) n) where
    left_is : world b script u ≡ world (g s) script (keeping (λ x. space_of (g s)) n)
    left_is =
        ap (λ (u : Step). world b script u) (eu ∙ ap (λ (m : Space). keeping (λ x. m) n) em)
        ∙ ap (λ (b : Bytes). world b script (keeping (λ x. space_of b) n)) o.is

    pub wrote : v ≡ Pass → f s ≡ true → Ran (change flat f g) s script t b (Ok u)
    unfolding given done
    wrote p r = record { fine = o.fine; is = ap (λ (w : World Bytes). ok tt w) left_is ∙ sym (change_of ∙ rw (p, r)) }

    pub failed_on : {x : Fault} {e : Bool} → v ≡ Fail x e → e ≡ true → f s ≡ true → Ran (change flat f g) s script t b (Err (failure x u))
    unfolding given done
    failed_on {x} p q r =
        record {
          fine = o.fine;
          is = ap (λ (w : World Bytes). bad x w) left_is
              ∙ sym (change_of ∙ ap (λ v. given (λ s. tt) (done v (f s) (g s) (λ m. space_of (g s)) s script n)) (p ∙ ap (Fail x) q) ∙ rw r);
        }

  -- there was no room
  module _ {b : Bytes} (o : Now b s) (r : f s ≡ false) where
    pub full : v ≡ Pass → Ran (change flat f g) s script t b (Err (failure FullStorage n))
    unfolding given done
    full p = record { fine = o.fine; is = ap (λ b. item_run b script (Err (failure FullStorage n))) o.is ∙ sym (change_of ∙ rw (p, r)) }

    pub failed_full : {x : Fault} {e : Bool} → v ≡ Fail x e → e ≡ true → Ran (change flat f g) s script t b (Err (failure x n))
    unfolding given done
    failed_full {x} p q =
        record {
          fine = o.fine;
          is = ap (λ b. item_run b script (Err (failure x n))) o.is
              ∙ sym (change_of ∙ ap (λ v. given (λ s. tt) (done v (f s) (g s) (λ m. space_of (g s)) s script n)) (p ∙ ap (Fail x) q) ∙ rw r);
        }

  -- a fault without effect
  pub failed : {x : Fault} {e : Bool} → v ≡ Fail x e → e ≡ false → good s ≡ true → Ran (change flat f g) s script t s (Err (failure x n))
  unfolding given done
  failed p r o = record { fine = o; is = sym (change_of ∙ rw (p, r)) }

-- ---- the two calls that write

same_now : {i : Item} {s b : Bytes} {a : Option Space} → Stores i s b a → a ≡ None → Now b s
same_now {i} {s} h e = record { fine = h.now.fine; is = h.now.is ∙ full_same i s (stored_full h e) }

module _ (i : Item) {s script : Bytes} {t : Step} {v : Verdict} {n : Step} (ev : v ≡ fate script t) (en : n ≡ stepped script t) where
  module _ {b : Bytes} {a : Option Space} (h : Stores i s b a) where
    module _ {m : Space} (e : a ≡ Some m) {u : Step} (eu : u ≡ keeping (λ x. m) n) where
      pub store_done : v ≡ Pass → Ran (store flat i) s script t b (Ok u)
      unfolding store
      store_done p = wrote (room_in i) (store_in i) s script t ev en h.now (stored_done h e).1 eu p (stored_done h e).0

      pub store_failed_on : {x : Fault} {y : Bool} → v ≡ Fail x y → y ≡ true → Ran (store flat i) s script t b (Err (failure x u))
      unfolding store
      store_failed_on p y = failed_on (room_in i) (store_in i) s script t ev en h.now (stored_done h e).1 eu p y (stored_done h e).0

    module _ (e : a ≡ None) where
      pub store_full : v ≡ Pass → Ran (store flat i) s script t b (Err (failure FullStorage n))
      unfolding store
      store_full p = full (room_in i) (store_in i) s script t ev en (same_now h e) (stored_full h e) p

      pub store_failed_full : {x : Fault} {y : Bool} → v ≡ Fail x y → y ≡ true → Ran (store flat i) s script t b (Err (failure x n))
      unfolding store
      store_failed_full p y = failed_full (room_in i) (store_in i) s script t ev en (same_now h e) (stored_full h e) p y

  pub store_failed : {x : Fault} {e : Bool} → v ≡ Fail x e → e ≡ false → good s ≡ true → Ran (store flat i) s script t s (Err (failure x n))
  unfolding store
  store_failed p e g = failed (room_in i) (store_in i) s script t ev en p e g

module _ (k : Bytes) {s script : Bytes} {t : Step} {n : Step} (en : n ≡ stepped script t) where
  module _ {b : Bytes} {m : Space} (h : Removes k s b m) {u : Step} (eu : u ≡ keeping (λ x. m) n) where
    pub remove_effect : (v : Verdict) → v ≡ fate script t → has_effect v ≡ true → {a : Answered} → a ≡ answered_of v u → Ran (remove flat k) s script t b a
    unfolding remove has_effect
    remove_effect Pass ev e ea = rw ea (wrote (λ s. true) (remove_in k) s script t ev en h.now h.space eu refl refl)
    remove_effect (Fail x y) ev e ea = rw ea (failed_on (λ s. true) (remove_in k) s script t ev en h.now h.space eu refl e refl)

  pub remove_none : (v : Verdict) → v ≡ fate script t → has_effect v ≡ false → good s ≡ true → {a : Answered} → a ≡ answered_of v n
      → Ran (remove flat k) s script t s a
  unfolding remove has_effect
  remove_none Pass ev e g ea = absurd (true≢false refl e)
  remove_none (Fail x y) ev e g ea = rw ea (failed (λ s. true) (remove_in k) s script t ev en refl e g)

-- ---- reads: their fate alone decides

module _ (s script : Bytes) (t : Step) {A : Type 0} (a : Bytes → A) where
  read_run : Answered → Result (World Bytes) A
  read_run (Ok u) = ok (a s) (world s script u)
  read_run (Err e) = bad e.fault (world s script e.step)

  read_is : (v : Verdict) → v ≡ fate script t → exec (ask a) (world s script t) ≡ read_run (answered_of v (stepped script t))
  unfolding read_run ran ask given done
  read_is Pass ev = exec_one (λ s. true) (λ s. s) (λ s m. m) a (world s script t) ∙ rw (← ev)
  read_is (Fail x true) ev = exec_one (λ s. true) (λ s. s) (λ s m. m) a (world s script t) ∙ rw (← ev)
  read_is (Fail x false) ev = exec_one (λ s. true) (λ s. s) (λ s m. m) a (world s script t) ∙ rw (← ev)

  module _ {r : Answered} (er : r ≡ answered_of (fate script t) (stepped script t)) where
    pub read_ok : {u : Step} → r ≡ Ok u → ok (a s) (world s script u) ≡ exec (ask a) (world s script t)
    unfolding read_run
    read_ok e = sym (read_is (fate script t) refl ∙ ap read_run (sym er ∙ e))

    pub read_err : {e : Failure} → r ≡ Err e → bad e.fault (world s script e.step) ≡ exec (ask a) (world s script t)
    unfolding read_run
    read_err e = sym (read_is (fate script t) refl ∙ ap read_run (sym er ∙ e))

module _ (s script : Bytes) (t : Step) {r : Answered} (er : r ≡ answered_of (fate script t) (stepped script t)) where
  pub fetch_got : (k : Bytes) {x : Option (Bor Bytes)} {u : Step} → r ≡ Ok u → value_of x ≡ look k s → IfSome x (λ v. length v.now ≤ 481) → Fetches k s script t (Ok (x, u))
  unfolding fetch
  fetch_got k {u = u} e h l = record { is = ap (λ o. ok o (world s script u)) h ∙ read_ok s script t (look k) er e; short = l }

  pub fetch_missed : (k : Bytes) {e : Failure} → r ≡ Err e → Fetches k s script t (Err e)
  unfolding fetch
  fetch_missed k e = record { is = read_err s script t (look k) er e; short = tt }

  pub step_ran : good s ≡ true → Ran (step flat) s script t s r
  unfolding step
  step_ran g = go r refl
    where
      go : (x : Answered) → r ≡ x → Ran (step flat) s script t s r
      go (Ok u) e = record { fine = g; is = ap (item_run s script) e ∙ read_ok s script t (λ s. tt) er e }
      go (Err f) e = record { fine = g; is = ap (item_run s script) e ∙ read_err s script t (λ s. tt) er e }

  pub next_met : {at : ℕ} {x : Option Place} {u : Step} → r ≡ Ok u → Visit s at x → Visits s script at t (Ok (x, u))
  unfolding step
  next_met e h = record { met = h; is = read_ok s script t (λ s. tt) er e }

  pub next_unmet : {at : ℕ} {e : Failure} → r ≡ Err e → Visits s script at t (Err e)
  unfolding step
  next_unmet e = record { met = tt; is = read_err s script t (λ s. tt) er e }

-- ---- what a call that writes and is done has done: its effect, and the numbers kept are true

pub record Wrote (g : Bytes → Bytes) (s b : Bytes) (t : Step) : Type 0 where
  pub is : b ≡ g s
  pub counted : t.space ≡ space_of b

module _ (f : Bytes → Bool) (g : Bytes → Bytes) {s script b : Bytes} {t t1 : Step} {r : Answered} where
  change_done : Ran (change flat f g) s script t b r → r ≡ Ok t1 → Wrote g s b t1
  unfolding given done
  change_done h e = go (fate script t) (f s) (sym (change_of f g s script t refl refl) ∙ sym h.is ∙ ap (item_run b script) e)
    where
      go : (v : Verdict) (y : Bool) → given (λ s. tt {0}) (done v y (g s) (λ m. space_of (g s)) s script (stepped script t)) ≡ ok tt (world b script t1) → Wrote g s b t1
      go Pass true p =
          let q : world b script t1 ≡ world (g s) script (keeping (λ m. space_of (g s)) (stepped script t)) = cc in
          let eb : b ≡ g s = ap (λ (w : World Bytes). w.region) q in
          record { is = eb; counted = ap (λ (w : World Bytes). w.step.space) q ∙ ap space_of (sym eb) }
      go Pass false p = record { is = cc; counted = cc }
      go (Fail x true) true p = record { is = cc; counted = cc }
      go (Fail x true) false p = record { is = cc; counted = cc }
      go (Fail x false) y p = record { is = cc; counted = cc }

module _ {s script b : Bytes} {t t1 : Step} {r : Answered} where
  pub store_wrote : (i : Item) → Ran (store flat i) s script t b r → r ≡ Ok t1 → Wrote (store_in i) s b t1
  unfolding store
  store_wrote i h e = change_done (room_in i) (store_in i) h e

  pub remove_wrote : (k : Bytes) → Ran (remove flat k) s script t b r → r ≡ Ok t1 → Wrote (remove_in k) s b t1
  unfolding remove
  remove_wrote k h e = change_done (λ s. true) (remove_in k) h e
