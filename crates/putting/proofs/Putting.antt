-- How a put's proof goes along its calls.
use Rattle.std.proofs.Common.{arith, ◌≡◌, refl, sym, ap, ◌∙◌, Bool, true, false, [], ℕ}
use Rattle.std.specs.Prelude.{Option, Some, None, Ok, Err}
use Rattle.std.specs.Prelude as P
use Rattle.definition.specs.Tools.{Bytes, opt, pick}
use Rattle.definition.specs.Region.{item, good}
use Rattle.definition.specs.Program.{Prog, err, on_p, flat, store}
use Rattle.definition.specs.Calls.{Said, say, put_fault, put_or, put_once, put_again, is_full, is_debris}
use Rattle.definition.specs.Codec.{reserved, long_key, long_value, key_too_long, value_too_long}
use Rattle.definition.specs.Numbers.{number}
use Rattle.definition.proofs.Choices.{pick_yes, pick_no, pick_same, opt_none, opt_some, bool}
use Rattle.definition.specs.Answers.{Answer}
use Rattle.definition.specs.declared.Step.{Step}
use Rattle.definition.specs.declared.State.{State}
use Rattle.definition.specs.declared.Fault.{Fault}
use Rattle.definition.specs.declared.Fault.TheVariants.{ReservedKey}
use Rattle.definition.specs.declared.Health.{Health}
use Rattle.codec.specs.Forms.{Checks}
use Rattle.codec.proofs.Laws.{fine_none, refused_some}
use Rattle.items.specs.declared.Failure.{Failure}
use Rattle.items.specs.Forms.{Answered, failure, Ran}
use Rattle.items.proofs.Along.{ran_as, ran_done, ran_failed, failed_ran, runs_err}
use Rattle.gate.specs.Forms.{Told, Says, Gate, state_of}
use Rattle.gate.proofs.Saying.{says_as, says_ret, says_on, says_else, says_ready, says_unready}
use Rattle.limits.specs.Forms.{retried}
use Rattle.putting.specs.Forms.{tested_store}

-- ---- the tests and the store

module _ {k v : Bytes} {s script : Bytes} {t : Step} {c : P.Result (Unit {0}) Fault} (x : Checks (put_fault k v) k v c) where
  pub tests_refuse : {f : Fault} → c ≡ Err f → good s ≡ true → Ran (tested_store k v) s script t s (Err (failure f t))
  unfolding tested_store
  tests_refuse q g = ran_as (opt_some _ _ (refused_some x q)) (failed_ran (runs_err g))

  pub tests_pass : {u : Unit {0}} {b : Bytes} {r : Answered} → c ≡ Ok u → Ran (store flat (item k v)) s script t b r → Ran (tested_store k v) s script t b r
  unfolding tested_store
  tests_pass q y = ran_as (opt_none _ _ (fine_none x q)) y

-- ---- what follows them

module _ {A : Type 0} (p : Prog Bytes (Unit {0})) (k : Unit {0} → Prog Bytes (Said A)) (h : Fault → Prog Bytes (Said A)) where
  along : (o : Option Fault) → on_p (opt o p err) k h ≡ opt o (on_p p k h) h
  unfolding on_p opt
  along None = refl
  along (Some e) = refl

-- what the tests refuse is no full region
so_full : (f : Fault) {e : Fault} → is_full f ≡ false → Some f ≡ Some e → is_full e ≡ false
so_full f {e} n q = let z : f ≡ e = cc in ap is_full (sym z) ∙ n

unfull : (k v : Bytes) {e : Fault} → put_fault k v ≡ Some e → is_full e ≡ false
unfolding put_fault pick is_full number
unfull k v {e} p =
    bool (long_value v)
    (λ y. so_full (value_too_long v) refl (rw y at p))
    (λ y. bool (reserved k)
    (λ z. so_full ReservedKey refl (rw (y, z) at p))
    (λ z. bool (long_key k)
    (λ w. so_full (key_too_long k) refl (rw (y, z, w) at p))
    (λ w. let q : None ≡ Some e = rw (y, z, w) at p in let n : ◌≡◌ {A = ℕ} 0 1 = cc in absurd (omega arith))))

module _ (k v : Bytes) (h : Health) where
  again_refuses : {e : Fault} → is_full e ≡ false → put_again flat k v h e ≡ say (Err e) h
  unfolding put_again
  again_refuses {e} f = pick_no _ _ (ap (λ x. pick (is_debris h) x false) f ∙ pick_same (is_debris h) false)

  once_is : put_once flat k v h ≡ on_p (tested_store k v) (λ x. say (Ok tt) h) (λ e. say (Err e) h)
  unfolding put_once put_or tested_store
  once_is = sym (along (store flat (item k v)) (λ x. say (Ok tt) h) (λ e. say (Err e) h) (put_fault k v))

  ready_is : put_or flat k v h (put_again flat k v h) ≡ on_p (tested_store k v) (λ x. say (Ok tt) h) (put_again flat k v h)
  unfolding put_or tested_store opt
  ready_is = go (put_fault k v) refl ∙ sym (along (store flat (item k v)) (λ x. say (Ok tt) h) (put_again flat k v h) (put_fault k v))
    where
      go : (o : Option Fault) → put_fault k v ≡ o
          → opt (put_fault k v) (on_p (store flat (item k v)) (λ x. say (Ok tt) h) (put_again flat k v h)) (λ e. say (Err e) h)
          ≡ opt (put_fault k v) (on_p (store flat (item k v)) (λ x. say (Ok tt) h) (put_again flat k v h)) (put_again flat k v h)
      go None q = rw q refl
      go (Some e) q = rw q (sym (again_refuses (unfull k v q)))

  module _ {s script b : Bytes} {t : Step} {r : Answered} (x : Ran (tested_store k v) s script t b r) where
    pub once_done : {u : Step} → r ≡ Ok u → Says (put_once flat k v h) s script t b (Ok tt) (state_of h u) u.calls []
    once_done q = says_as once_is (says_on (λ x. say (Ok tt) h) (λ e. say (Err e) h) (ran_done x q) (says_ret x.fine))

    pub once_failed : {e : Failure} → r ≡ Err e → Says (put_once flat k v h) s script t b (Err e.fault) (state_of h e.step) e.step.calls []
    once_failed q = says_as once_is (says_else (λ x. say (Ok tt) h) (λ e. say (Err e) h) (ran_failed x q) (says_ret x.fine))

    pub ready_done : {u : Step} → r ≡ Ok u → Says (put_or flat k v h (put_again flat k v h)) s script t b (Ok tt) (state_of h u) u.calls []
    ready_done q = says_as ready_is (says_on (λ x. say (Ok tt) h) (put_again flat k v h) (ran_done x q) (says_ret x.fine))

    pub ready_again : {e : Failure} {b2 : Bytes} {a : Answer} {st : State} {n : ℕ} {out : Bytes} → r ≡ Err e
        → Says (put_again flat k v h e.fault) b script e.step b2 a st n out → Says (put_or flat k v h (put_again flat k v h)) s script t b2 a st n out
    ready_again q z = says_as ready_is (says_else (λ x. say (Ok tt) h) (put_again flat k v h) (ran_failed x q) z)

-- ---- the second try

module _ (k v : Bytes) (h : Health) {s script : Bytes} {t : Step} (e : Fault) {r : Bool} (er : r ≡ retried h e) where
  pub again_not : r ≡ false → good s ≡ true → Says (put_again flat k v h e) s script t s (Err e) (state_of h t) t.calls []
  unfolding put_again retried
  again_not q g = says_as (pick_no _ _ (sym er ∙ q)) (says_ret g)

  module _ (q : r ≡ true) {b : Bytes} {c : Told Health} (x : Gate true h s script t b c) where
    pub again_unready : {w : Failure} → c ≡ Err w → Says (put_again flat k v h e) s script t b (Err w.fault) (state_of h w.step) w.step.calls []
    unfolding put_again retried
    again_unready p = says_as (pick_yes _ _ (sym er ∙ q)) (says_unready Err (put_once flat k v) x p)

    pub again_on : {h1 : Health} {t1 : Step} {b2 : Bytes} {a : Answer} {st : State} {n : ℕ} {out : Bytes} → c ≡ Ok (h1, t1)
        → Says (put_once flat k v h1) b script t1 b2 a st n out → Says (put_again flat k v h e) s script t b2 a st n out
    unfolding put_again retried
    again_on p y = says_as (pick_yes _ _ (sym er ∙ q)) (says_ready Err (put_once flat k v) x p y)
