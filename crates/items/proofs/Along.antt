-- How a function's proof goes along its calls: what was run so far, and then what follows a call's success or its
-- failure.
use mathlib.Core.Path.{◌≡◌, refl, sym, ap, ◌∙◌, subst}
use mathlib.Core.Bool.{true}
use Rattle.std.specs.Prelude.{Option, Some, Ok, Err, IfSome, IfOk, ◌≤◌, length}
use Prim.Native.Nat.{ℕ}
use Rattle.std.specs.Borrow.{Bor}
use Rattle.definition.specs.Tools.{Bytes}
use Rattle.definition.specs.Region.{good}
use Rattle.definition.specs.Program.{Prog, ret, err, see, on_p, ◌▷◌, World, world, Result, ok, bad, exec, flat, fetch, step}
use Rattle.definition.proofs.Running.{exec_ok, exec_bad}
use Rattle.definition.specs.declared.Step.{Step}
use Rattle.definition.specs.declared.Fault.{Fault}
use Rattle.region.specs.declared.Place.{Place}
use Rattle.items.specs.declared.Failure.{Failure}
use Rattle.items.specs.Forms.{Answered, Fetched, Met, Runs, Ran, item_run, value_of, Fetches, fetch_run, Visits, next_run}

-- ---- one run, by the answer's case

module _ {p : Prog Bytes (Unit {0})} {s script b : Bytes} {t : Step} {r : Answered} (h : Ran p s script t b r) where
  pub ran_done : {u : Step} → r ≡ Ok u → Runs p s script t b (ok tt (world b script u))
  ran_done e = record { fine = h.fine; is = sym (ap (item_run b script) e) ∙ h.is }

  pub ran_failed : {e : Failure} → r ≡ Err e → Runs p s script t b (bad e.fault (world b script e.step))
  ran_failed e = record { fine = h.fine; is = sym (ap (item_run b script) e) ∙ h.is }

module _ {k s script : Bytes} {t : Step} {r : Fetched} (g : good s ≡ true) (h : Fetches k s script t r) where
  pub fetch_done : {x : Option (Bor Bytes) × Step} → r ≡ Ok x → Runs (fetch flat k) s script t s (ok (value_of x.0) (world s script x.1))
  fetch_done e = record { fine = g; is = sym (ap (fetch_run s script) e) ∙ h.is }

  pub fetch_failed : {e : Failure} → r ≡ Err e → Runs (fetch flat k) s script t s (bad e.fault (world s script e.step))
  fetch_failed e = record { fine = g; is = sym (ap (fetch_run s script) e) ∙ h.is }

module _ {s script : Bytes} {at : ℕ} {t : Step} {r : Met} (g : good s ≡ true) (h : Visits s script at t r) where
  pub next_done : {x : Option Place × Step} → r ≡ Ok x → Runs (step flat) s script t s (ok tt (world s script x.1))
  next_done e = record { fine = g; is = sym (ap (next_run s script) e) ∙ h.is }

  pub next_failed : {e : Failure} → r ≡ Err e → Runs (step flat) s script t s (bad e.fault (world s script e.step))
  next_failed e = record { fine = g; is = sym (ap (next_run s script) e) ∙ h.is }

-- ---- a run, and what follows it

module _ {A B : Type 0} {p : Prog Bytes A} {s script b : Bytes} {t t1 : Step} (k : A → Prog Bytes B) where
  module _ (h : Fault → Prog Bytes B) {b2 : Bytes} {r : Result (World Bytes) B} where
    pub then_on : {a : A} → Runs p s script t b (ok a (world b script t1)) → Runs (k a) b script t1 b2 r → Runs (on_p p k h) s script t b2 r
    then_on x n = record { fine = n.fine; is = n.is ∙ sym (exec_ok p (world s script t) k h x.is) }

  -- a failure that nothing takes up
  pub then_failed : {f : Fault} → Runs p s script t b (bad f (world b script t1)) → Runs (p ▷ k) s script t b (bad f (world b script t1))
  unfolding exec
  then_failed x = record { fine = x.fine; is = sym (exec_bad p (world s script t) k err x.is) }

module _ {A : Type 0} {s script : Bytes} {t : Step} where
  pub runs_ret : {a : A} → good s ≡ true → Runs (ret a) s script t s (ok a (world s script t))
  unfolding exec
  runs_ret g = record { fine = g; is = refl }

  pub runs_err : {f : Fault} → good s ≡ true → Runs {A = A} (err f) s script t s (bad f (world s script t))
  unfolding exec
  runs_err g = record { fine = g; is = refl }

  pub runs_see : {c : Bytes → Prog Bytes A} {b : Bytes} {r : Result (World Bytes) A} → Runs (c s) s script t b r → Runs (see c) s script t b r
  unfolding exec
  runs_see h = record { fine = h.fine; is = h.is }

  -- a program that is another
  pub runs_as : {p q : Prog Bytes A} {b : Bytes} {r : Result (World Bytes) A} → q ≡ p → Runs p s script t b r → Runs q s script t b r
  runs_as e h = record { fine = h.fine; is = h.is ∙ ap (λ p. exec p (world s script t)) (sym e) }

-- ---- what an item call's answer makes of a run

module _ {p : Prog Bytes (Unit {0})} {s script b : Bytes} {t : Step} where
  pub done_ran : {u : Step} → Runs p s script t b (ok tt (world b script u)) → Ran p s script t b (Ok u)
  done_ran h = record { fine = h.fine; is = h.is }

  pub failed_ran : {e : Failure} → Runs p s script t b (bad e.fault (world b script e.step)) → Ran p s script t b (Err e)
  failed_ran h = record { fine = h.fine; is = h.is }

  pub ran_runs : {r : Answered} → Ran p s script t b r → Runs p s script t b (item_run b script r)
  ran_runs h = record { fine = h.fine; is = h.is }

  pub runs_ran : (r : Answered) → Runs p s script t b (item_run b script r) → Ran p s script t b r
  runs_ran r h = record { fine = h.fine; is = h.is }

-- ---- an item call, and the item calls that follow it

pub ran_as : {p q : Prog Bytes (Unit {0})} {s script b : Bytes} {t : Step} {r : Answered} → q ≡ p → Ran p s script t b r → Ran q s script t b r
ran_as {s = s} {script = script} {t = t} e h = record { fine = h.fine; is = h.is ∙ ap (λ p. exec p (world s script t)) (sym e) }

module _ {p : Prog Bytes (Unit {0})} {s script b : Bytes} {t : Step} {r : Answered} where
  module _ (k : Unit {0} → Prog Bytes (Unit {0})) (h : Ran p s script t b r) where
    pub seq_failed : {e : Failure} → r ≡ Err e → Ran (p ▷ k) s script t b (Err e)
    seq_failed e = failed_ran (then_failed k (ran_failed h e))

    pub seq_on : {u : Step} {b2 : Bytes} {r2 : Answered} → r ≡ Ok u → Ran (k tt) b script u b2 r2 → Ran (p ▷ k) s script t b2 r2
    seq_on {r2 = r2} e n = runs_ran r2 (then_on k err (ran_done h e) (ran_runs n))

module _ {key s script : Bytes} {t : Step} {r : Fetched} (k : Option Bytes → Prog Bytes (Unit {0})) (g : good s ≡ true) (h : Fetches key s script t r) where
  pub fetch_seq_failed : {e : Failure} → r ≡ Err e → Ran (fetch flat key ▷ k) s script t s (Err e)
  fetch_seq_failed e = failed_ran (then_failed k (fetch_failed g h e))

  pub fetch_seq_on : {x : Option (Bor Bytes) × Step} {b : Bytes} {r2 : Answered} → r ≡ Ok x → Ran (k (value_of x.0)) s script x.1 b r2 → Ran (fetch flat key ▷ k) s script t b r2
  fetch_seq_on {r2 = r2} e n = runs_ran r2 (then_on k err (fetch_done g h e) (ran_runs n))

-- a fetched value is short
pub fetch_short : {key s script : Bytes} {t : Step} {r : Fetched} {x : Option (Bor Bytes) × Step} {v : Bor Bytes} → Fetches key s script t r → r ≡ Ok x → x.0 ≡ Some v → length v.now ≤ 481
fetch_short h e q = subst (λ o. IfSome o (λ v. length v.now ≤ 481)) q (subst (λ r. IfOk r (λ x. IfSome x.0 (λ v. length v.now ≤ 481))) e h.short)

-- ---- loops: what is left to run of p, begun on the region s from step t, is q on the good image b from step t1

pub record Left {A : Type 0} (p : Prog Bytes A) (s script : Bytes) (t : Step) (q : Prog Bytes A) (b : Bytes) (t1 : Step) : Type 0 where
  pub fine : good b ≡ true
  pub is : exec p (world s script t) ≡ exec q (world b script t1)

module _ {A : Type 0} {p : Prog Bytes A} {s script : Bytes} {t : Step} where
  pub left_start : {q : Prog Bytes A} → p ≡ q → good s ≡ true → Left p s script t q s t
  left_start e g = record { fine = g; is = ap (λ p. exec p (world s script t)) e }

  module _ {q : Prog Bytes A} {b : Bytes} {t1 : Step} (l : Left p s script t q b t1) where
    pub left_as : {q2 : Prog Bytes A} → q ≡ q2 → Left p s script t q2 b t1
    left_as e = record { fine = l.fine; is = l.is ∙ ap (λ p. exec p (world b script t1)) e }

    pub left_end : {b2 : Bytes} {r : Result (World Bytes) A} → Runs q b script t1 b2 r → Runs p s script t b2 r
    left_end h = record { fine = h.fine; is = h.is ∙ sym l.is }

  module _ {B : Type 0} {q : Prog Bytes B} (k : B → Prog Bytes A) (h : Fault → Prog Bytes A) {b b2 : Bytes} {t1 t2 : Step} (l : Left p s script t (on_p q k h) b t1) where
    pub left_turn : {a : B} → Runs q b script t1 b2 (ok a (world b2 script t2)) → Left p s script t (k a) b2 t2
    left_turn x = record { fine = x.fine; is = l.is ∙ exec_ok q (world b script t1) k h x.is }

    pub left_else : {f : Fault} → Runs q b script t1 b2 (bad f (world b2 script t2)) → Left p s script t (h f) b2 t2
    left_else x = record { fine = x.fine; is = l.is ∙ exec_bad q (world b script t1) k h x.is }
