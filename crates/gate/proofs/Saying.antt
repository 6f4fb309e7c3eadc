-- How a call's proof goes from its image test through its recovery and its item calls to what it says.
use mathlib.Core.Path.{◌≡◌, refl, sym, ap, ◌∙◌, subst}
use mathlib.Core.Bool.{Bool, true, false}
use Rattle.std.specs.Prelude.{Option, Ok, Err}
use mathlib.Core.List.{[]}
use Prim.Native.Nat.{ℕ}
use Rattle.definition.specs.Tools.{Bytes}
use Rattle.definition.specs.Codec.{laid}
use Rattle.definition.specs.Region.{good}
use Rattle.definition.specs.Program.{Prog, ret, on_p, world, ok, bad, exec, flat, fetch}
use Rattle.definition.specs.Recovery.{recover}
use Rattle.definition.specs.Calls.{Said, said, say, gate, is_pending}
use Rattle.definition.specs.Public.{outcome, begin, outcome_of, public}
use Rattle.definition.proofs.Choices.{pick_yes, pick_no}
use Rattle.definition.proofs.Running.{exec_ok, exec_bad}
use Rattle.definition.specs.declared.Step.{Step}
use Rattle.definition.specs.declared.State.{State}
use Rattle.definition.specs.declared.Fault.{Fault}
use Rattle.definition.specs.declared.Fault.TheVariants.{Corrupted}
use Rattle.definition.specs.declared.Health.{Health}
use Rattle.definition.specs.declared.Health.TheVariants.{Clean}
use Rattle.std.specs.Prelude as P
use Rattle.definition.specs.declared.Reply.{Reply}
use Rattle.items.specs.declared.Failure.{Failure}
use Rattle.items.specs.Forms.{Answered, Fetched, Runs, Ran, Fetches}
use Rattle.items.proofs.Along.{ran_done, ran_failed, fetch_failed}
use Rattle.gate.specs.Forms.{Told, ConvergedBy, Gate, state_of, unchanged_of, reply_of, answer_in, step_in, Says, Tells}

-- ---- the recovery

module _ {h : Health} {s script : Bytes} {t : Step} {needed : Bool} where
  pub gate_idle : needed ≡ false → good s ≡ true → Gate needed h s script t s (Ok (h, t))
  gate_idle e g = subst (λ n. Gate n h s script t s (Ok (h, t))) (sym e) (record { fine = g; is = (refl, refl, refl) })

  module _ (e : needed ≡ true) {b : Bytes} {r : Answered} (x : Ran (recover flat) s script t b r) where
    pub gate_done : {u : Step} → r ≡ Ok u → Gate needed h s script t b (Ok (Clean, u))
    gate_done {u} q = subst (λ n. Gate n h s script t b (Ok (Clean, u))) (sym e) (record { fine = x.fine; is = (refl, ran_done x q) })

    pub gate_failed : {f : Failure} → r ≡ Err f → Gate needed h s script t b (Err f)
    gate_failed {f} q = subst (λ n. Gate n h s script t b (Err f)) (sym e) (record { fine = x.fine; is = ran_failed x q })

-- ---- what a program says

module _ {A : Type 0} {s script : Bytes} {t : Step} where
  pub says_ret : {a : A} {h : Health} {out : Bytes} → good s ≡ true → Says (ret (said a h out)) s script t s a (state_of h t) t.calls out
  unfolding exec
  says_ret g = record { fine = g; is = refl }

  pub says_as : {p q : Prog Bytes (Said A)} {b : Bytes} {a : A} {st : State} {n : ℕ} {out : Bytes} → q ≡ p → Says p s script t b a st n out → Says q s script t b a st n out
  says_as e x = record { fine = x.fine; is = x.is ∙ ap (λ p. exec p (world s script t)) (sym e) }

  module _ {B : Type 0} {p : Prog Bytes B} {b : Bytes} {t1 : Step} (k : B → Prog Bytes (Said A)) (h : Fault → Prog Bytes (Said A))
      {b2 : Bytes} {a : A} {st : State} {n : ℕ} {out : Bytes} where
    pub says_on : {x : B} → Runs p s script t b (ok x (world b script t1)) → Says (k x) b script t1 b2 a st n out → Says (on_p p k h) s script t b2 a st n out
    says_on x y = record { fine = y.fine; is = y.is ∙ sym (exec_ok p (world s script t) k h x.is) }

    pub says_else : {f : Fault} → Runs p s script t b (bad f (world b script t1)) → Says (h f) b script t1 b2 a st n out → Says (on_p p k h) s script t b2 a st n out
    says_else x y = record { fine = y.fine; is = y.is ∙ sym (exec_bad p (world s script t) k h x.is) }

-- ---- through the recovery

module _ {A : Type 0} (refuse : Fault → A) (k : Health → Prog Bytes (Said A)) (h : Health) (s script : Bytes) (t : Step) (b : Bytes) where
  ready : (needed : Bool) {h1 : Health} {t1 : Step} {b2 : Bytes} {a : A} {st : State} {n : ℕ} {out : Bytes} → ConvergedBy needed h s script t b (Ok (h1, t1))
      → Says (k h1) b script t1 b2 a st n out → Says (gate flat refuse needed h k) s script t b2 a st n out
  unfolding gate
  ready false {t1 = t1} z y =
      record {
        fine = y.fine;
        is = y.is ∙ ap (λ x. exec (k x) (world b script t1)) z.1 ∙ ap (λ x. exec (k h) (world x script t1)) z.0 ∙ ap (λ x. exec (k h) (world s script x)) z.2;
      }
  ready true {t1 = t1} {b2 = b2} {a = a} {st = st} {n = n} {out = out} z y =
      says_on (λ x. k Clean) (λ e. say (refuse e) h) z.1 (subst (λ x. Says (k x) b script t1 b2 a st n out) z.0 y)

  unready : (needed : Bool) {f : Failure} → good b ≡ true → ConvergedBy needed h s script t b (Err f)
      → Says (gate flat refuse needed h k) s script t b (refuse f.fault) (state_of h f.step) f.step.calls []
  unfolding gate
  unready false g z = absurd z
  unready true g z = says_else (λ x. k Clean) (λ e. say (refuse e) h) z (says_ret g)

module _ {A : Type 0} (refuse : Fault → A) (k : Health → Prog Bytes (Said A)) {h : Health} {s script : Bytes} {t : Step} {b : Bytes} {needed : Bool} {r : Told Health}
    (x : Gate needed h s script t b r) where
  pub says_ready : {h1 : Health} {t1 : Step} {b2 : Bytes} {a : A} {st : State} {n : ℕ} {out : Bytes} → r ≡ Ok (h1, t1)
      → Says (k h1) b script t1 b2 a st n out → Says (gate flat refuse needed h k) s script t b2 a st n out
  says_ready e y = ready refuse k h s script t b needed (subst (ConvergedBy needed h s script t b) e x.is) y

  pub says_unready : {f : Failure} → r ≡ Err f → Says (gate flat refuse needed h k) s script t b (refuse f.fault) (state_of h f.step) f.step.calls []
  says_unready e = unready refuse k h s script t b needed x.fine (subst (ConvergedBy needed h s script t b) e x.is)

-- ---- failures, as a refusal

module _ {A : Type 0} (refuse : Fault → A) {s script : Bytes} {t : Step} {hl : Health} {f : Failure} where
  -- an item program failed, and its fault is the call's
  pub says_failed : {p : Prog Bytes (Unit {0})} {b : Bytes} {r : Answered} (k : Unit {0} → Prog Bytes (Said A))
      → Ran p s script t b r → r ≡ Err f
      → Says (on_p p k (λ e. say (refuse e) hl)) s script t b (refuse f.fault) (state_of hl f.step) f.step.calls []
  says_failed k x e = says_else k (λ e. say (refuse e) hl) (ran_failed x e) (says_ret x.fine)

  -- the same of a fetch
  pub says_missed : {key : Bytes} {r : Fetched} (k : Option Bytes → Prog Bytes (Said A))
      → good s ≡ true → Fetches key s script t r → r ≡ Err f
      → Says (on_p (fetch flat key) k (λ e. say (refuse e) hl)) s script t s (refuse f.fault) (state_of hl f.step) f.step.calls []
  says_missed k g x e = says_else k (λ e. say (refuse e) hl) (fetch_failed g x e) (says_ret g)

-- ---- the struct that carries an answer

module _ {s script b out : Bytes} {t t1 : Step} {h : Health} {A : Type 0} {p : Prog Bytes (Said A)} where
  pub as_reply : {a : A} {u : Reply A} → u ≡ reply_of a h t1 → Says p s script t b a (state_of h t1) t1.calls out
      → Says p s script t b u.answer u.state u.calls out
  as_reply e x = subst (λ (u : Reply A). Says p s script t b u.answer u.state u.calls out) (sym e) x

-- a call that keeps the health, as the one that was there
pub as_told : {A : Type 0} {p : Health → Prog Bytes (Said (P.Result A Fault))} {s script b out : Bytes} {t : Step} (h : Health) {r : Told A} {u : Reply (P.Result A Fault)}
    → u ≡ reply_of (answer_in r) h (step_in r) → Tells p s script t b r out → Says (p h) s script t b u.answer u.state u.calls out
as_told h e x = as_reply e (x.says h)

-- ---- the public call

module _ {A : Type 0} (refuse : Fault → A) (p : Prog Bytes (Said A)) (region script : Bytes) (st : State) (out : Bytes) where
  pub public_good : {g : Bool} {b : Bytes} {a : A} {st1 : State} {n : ℕ} {made : Bytes} → g ≡ good region → g ≡ true → Says p region script (begin st) b a st1 n made
      → outcome a st1 n b (laid made out) ≡ public refuse p region script st out
  unfolding public outcome_of
  public_good {g} {b} {a} {st1} {n} {made} eg e x =
      ap (outcome_of refuse st.health out) x.is ∙ sym (pick_yes _ _ (sym eg ∙ e))

  pub public_bad : {g : Bool} → g ≡ good region → g ≡ false → outcome (refuse Corrupted) st 0 region out ≡ public refuse p region script st out
  unfolding public
  public_bad eg e = sym (pick_no _ _ (sym eg ∙ e))

-- ---- a public call that recovers first only if Pending

module _ {A : Type 0} (refuse : Fault → A) (k : Health → Prog Bytes (Said A)) {region script : Bytes} (st : State) (out : Bytes)
    {g : Bool} (eg : g ≡ good region) (e : g ≡ true)
    {b : Bytes} {c : Told Health} (x : Gate (is_pending st.health) st.health region script (begin st) b c) where
  pub public_ready : {h1 : Health} {t1 : Step} {b2 : Bytes} {a : A} {st1 : State} {m : ℕ} {made : Bytes} → c ≡ Ok (h1, t1) → Says (k h1) b script t1 b2 a st1 m made
      → outcome a st1 m b2 (laid made out) ≡ public refuse (gate flat refuse (is_pending st.health) st.health k) region script st out
  public_ready q y = public_good refuse _ region script st out eg e (says_ready refuse k x q y)

  pub public_unready : {w : Failure} → c ≡ Err w
      → outcome (refuse w.fault) (state_of st.health w.step) w.step.calls b (laid [] out) ≡ public refuse (gate flat refuse (is_pending st.health) st.health k) region script st out
  public_unready q = public_good refuse _ region script st out eg e (says_unready refuse k x q)

-- ---- what a reply makes of an outcome

pub unchanged_outcome : {A : Type 0} {st : State} {b out : Bytes} {a : A} {u : Reply A} → u ≡ unchanged_of a st
    → outcome u.answer u.state u.calls b out ≡ outcome a st 0 b out
unchanged_outcome {A} {b = b} {out = out} e = ap (λ (u : Reply A). outcome u.answer u.state u.calls b out) e

pub reply_outcome : {A : Type 0} {h : Health} {t : Step} {b out : Bytes} {a : A} {u : Reply A} → u ≡ reply_of a h t
    → outcome u.answer u.state u.calls b out ≡ outcome a (state_of h t) t.calls b out
reply_outcome {A} {b = b} {out = out} e = ap (λ (u : Reply A). outcome u.answer u.state u.calls b out) e
