-- From the journal to the reply: what each way out of the batch's functions says.
use mathlib.Core.Path.{◌≡◌, refl, sym, ap, ◌∙◌, subst}
use mathlib.Core.Bool.{Bool, true, false, not}
use mathlib.Core.List.{List, [], ◌∷◌}
use Rattle.std.specs.Prelude.{Option, None, Some, Ok, Err}
use Rattle.std.specs.Prelude as P
use Prim.Native.Nat.{ℕ}
use native.Mathlib.Omega.{arith}
use lib.ListN.{length}
use Rattle.definition.specs.Tools.{Bytes, pick, opt}
use Rattle.definition.specs.Codec.{Op, marker_key, marker, laid}
use Rattle.definition.specs.Region.{item, good}
use Rattle.definition.specs.Program.{Prog, flat, store}
use Rattle.definition.specs.Calls.{Said, say, is_clean, gate, ops_fault, batch_fault, journal, apply, finish, read_back, apply_all, commit, journal_all, batch, batch_of}
use Rattle.definition.specs.Public.{Outcome, outcome, public, begin}
use Rattle.definition.proofs.Choices.{opt_none, opt_some}
use Rattle.definition.specs.Answers.{Answer}
use Rattle.definition.specs.declared.Step.{Step}
use Rattle.definition.specs.declared.State.{State}
use Rattle.definition.specs.declared.Fault.{Fault}
use Rattle.definition.specs.declared.Fault.TheVariants.{BadList, Corrupted}
use Rattle.definition.specs.declared.Health.{Health}
use Rattle.definition.specs.declared.Health.TheVariants.{Clean, Debris}
use Rattle.definition.specs.declared.Reply.{Reply}
use Rattle.codec.proofs.Laws.{fault_none, fault_some}
use Rattle.codec.specs.Forms.{checked_of}
use Rattle.items.specs.declared.Failure.{Failure}
use Rattle.items.specs.Forms.{Answered, Ran}
use Rattle.items.proofs.Along.{ran_done, ran_failed}
use Rattle.gate.specs.Forms.{Told, Gate, reply_of, Says}
use Rattle.gate.proofs.Saying.{says_ret, says_as, says_on, says_else, says_failed, says_ready, says_unready, as_reply, public_good, public_bad}
use Rattle.oplist.specs.Places.{those, Listed}
use Rattle.batch.specs.Forms.{list_fault, Passes, Tested}
use Rattle.batch.proofs.Walking.{tested}

module _ (ops : List Op) {s script b : Bytes} {t : Step} {r : Answered} where
  -- ---- application

  module _ (h : Ran (apply flat 0 ops) s script t b r) where
    pub applied_done : {t1 : Step} {u : Reply Answer} → r ≡ Ok t1 → u ≡ reply_of (Ok tt) Clean t1 → Says (apply_all flat ops) s script t b u.answer u.state u.calls []
    unfolding apply_all
    applied_done e eu = as_reply eu (says_on (λ x. say (Ok tt) Clean) (λ e. finish flat) (ran_done h e) (says_ret h.fine))

    pub applied_failed : {w : Failure} {b2 : Bytes} {a : Answer} {st : State} {n : ℕ} → r ≡ Err w
        → Says (finish flat) b script w.step b2 a st n [] → Says (apply_all flat ops) s script t b2 a st n []
    unfolding apply_all
    applied_failed e y = says_else (λ x. say (Ok tt) Clean) (λ e. finish flat) (ran_failed h e) y

  -- ---- the marker

  module _ {n : ℕ} (en : n ≡ length ops) (h : Ran (store flat (item marker_key (marker n))) s script t b r) where
    marked : Ran (store flat (item marker_key (marker (length ops)))) s script t b r
    marked = subst (λ (n : ℕ). Ran (store flat (item marker_key (marker n))) s script t b r) en h

    pub commit_done : {t1 : Step} {b2 : Bytes} {a : Answer} {st : State} {c : ℕ} → r ≡ Ok t1 → Says (apply_all flat ops) b script t1 b2 a st c [] → Says (commit flat ops) s script t b2 a st c []
    unfolding commit
    commit_done e y = says_on (λ x. apply_all flat ops) (read_back flat (length ops)) (ran_done marked e) y

    pub commit_failed : {w : Failure} {b2 : Bytes} {a : Answer} {st : State} {c : ℕ} → r ≡ Err w
        → Says (read_back flat n w.fault) b script w.step b2 a st c [] → Says (commit flat ops) s script t b2 a st c []
    unfolding commit
    commit_failed {w = w} {b2 = b2} {a = a} {st = st} {c = c} e y =
        says_else (λ x. apply_all flat ops) (read_back flat (length ops)) (ran_failed marked e)
        (subst (λ (n : ℕ). Says (read_back flat n w.fault) b script w.step b2 a st c []) en y)

  -- ---- the journal

  module _ (h : Ran (journal flat 0 ops) s script t b r) where
    pub journalled_done : {t1 : Step} {b2 : Bytes} {a : Answer} {st : State} {c : ℕ} → r ≡ Ok t1 → Says (commit flat ops) b script t1 b2 a st c [] → Says (journal_all flat ops) s script t b2 a st c []
    unfolding journal_all
    journalled_done e y = says_on (λ x. commit flat ops) (λ e. say (Err e) Debris) (ran_done h e) y

    pub journalled_failed : {w : Failure} {u : Reply Answer} → r ≡ Err w → u ≡ reply_of (Err w.fault) Debris w.step
        → Says (journal_all flat ops) s script t b u.answer u.state u.calls []
    unfolding journal_all
    journalled_failed e eu = as_reply eu (says_failed Err (λ x. commit flat ops) h e)

-- ---- the batch

abbrev guarded : List Op → Health → Prog Bytes (Said Answer)
guarded ops h = gate flat Err (not (is_clean h)) h (λ h1. journal_all flat ops)

pub some_ops : (ops : List Op) (h : Health) → (length ops ≡ 0 → ⊥) → batch flat ops h ≡ opt (batch_fault ops) (guarded ops h) (λ e. say (Err e) h)
unfolding batch
some_ops [] h z = absurd (z refl)
some_ops (op ∷ ops) h z = refl

pub no_ops : (ops : List Op) (h : Health) → length ops ≡ 0 → batch flat ops h ≡ say (Ok tt) h
unfolding batch
no_ops [] h z = refl
no_ops (op ∷ ops) h z = absurd (omega arith)

-- ---- the tests

listed_fault : (o : Option (List Op)) → Listed o → list_fault o ≡ batch_fault (those o)
listed_fault None e = let z : ◌≡◌ {A = ℕ} 0 1 = cc in absurd (omega arith)
listed_fault (Some ops) e = refl

module _ (o : Option (List Op)) {n : ℕ} (w : (Listed o) × (n ≡ length (those o))) {c : P.Result (Unit {0}) Fault} (ec : c ≡ checked_of (batch_fault (those o))) where
  pub passes_not : {f : Fault} → c ≡ Err f → Passes o (Err f)
  passes_not e = listed_fault o w.0 ∙ fault_some (batch_fault (those o)) (sym e ∙ ec)

  pub passes_all : {x : Unit {0}} → c ≡ Ok x → Passes o (Ok n)
  passes_all e = (listed_fault o w.0 ∙ fault_none (batch_fault (those o)) (sym e ∙ ec), w.1)

-- what its tests leave of what passed them
module _ (o : Option (List Op)) {n : ℕ} (p : Passes o (Ok n)) where
  passed_is : (Listed o) × (batch_fault (those o) ≡ None)
  passed_is = go o p.0
    where
      go : (o : Option (List Op)) → list_fault o ≡ None → (Listed o) × (batch_fault (those o) ≡ None)
      go None e = let z : ◌≡◌ {A = ℕ} 0 1 = cc in absurd (omega arith)
      go (Some ops) e = (refl, e)

  pub passed_tested : Tested o 0
  passed_tested = tested passed_is.0 passed_is.1

  pub batch_empty : (h : Health) {s script : Bytes} {t : Step} {u : Reply Answer} → good s ≡ true → n ≡ 0 → u ≡ reply_of (Ok tt) h t
      → Says (batch flat (those o) h) s script t s u.answer u.state u.calls []
  batch_empty h g z eu = as_reply eu (says_as (no_ops (those o) h (sym p.1 ∙ z)) (says_ret g))

  module _ (z : n ≡ 0 → ⊥) (h : Health) where
    passed : batch flat (those o) h ≡ guarded (those o) h
    passed = some_ops (those o) h (λ l. z (p.1 ∙ l)) ∙ opt_none _ _ passed_is.1

    module _ {needed : Bool} (ed : needed ≡ not (is_clean h)) {s script : Bytes} {t : Step} {b : Bytes} {v : Told Health} (y : Gate needed h s script t b v) where
      reached : Gate (not (is_clean h)) h s script t b v
      reached = subst (λ (c : Bool). Gate c h s script t b v) ed y

      pub batch_unready : {w : Failure} {u : Reply Answer} → v ≡ Err w → u ≡ reply_of (Err w.fault) h w.step
          → Says (batch flat (those o) h) s script t b u.answer u.state u.calls []
      batch_unready e eu = as_reply eu (says_as passed (says_unready Err (λ h1. journal_all flat (those o)) reached e))

      pub batch_ready : {h1 : Health} {t1 : Step} {b2 : Bytes} {a : Answer} {st : State} {k : ℕ} → v ≡ Ok (h1, t1)
          → Says (journal_all flat (those o)) b script t1 b2 a st k [] → Says (batch flat (those o) h) s script t b2 a st k []
      batch_ready e x = says_as passed (says_ready Err (λ h1. journal_all flat (those o)) reached e x)

-- ---- by what the tests said

refused_is : (o : Option (List Op)) (h : Health) {f : Fault} → list_fault o ≡ Some f → batch_of flat o h ≡ say (Err f) h
unfolding batch_of batch batch_fault ops_fault pick opt
refused_is None h {f} e = let q : BadList ≡ f = cc in ap (λ (f : Fault). say (Err f) h) q
refused_is (Some []) h {f} e = let q : None ≡ Some f = e in let z : ◌≡◌ {A = ℕ} 0 1 = cc in absurd (omega arith)
refused_is (Some (op ∷ ops)) h e = opt_some _ _ e

module _ (o : Option (List Op)) (h : Health) {s script : Bytes} {t : Step} {r : P.Result ℕ Fault} (p : Passes o r) where
  pub batch_refused : {f : Fault} {u : Reply Answer} → r ≡ Err f → good s ≡ true → u ≡ reply_of (Err f) h t
      → Says (batch_of flat o h) s script t s u.answer u.state u.calls []
  batch_refused e g eu = as_reply eu (says_as (refused_is o h (subst (Passes o) e p)) (says_ret g))

  pub batch_passed : {n : ℕ} {b : Bytes} {a : Answer} {st : State} {k : ℕ} → r ≡ Ok n → Says (batch flat (those o) h) s script t b a st k [] → Says (batch_of flat o h) s script t b a st k []
  unfolding batch_of
  batch_passed {n} e y = let q : Passes o (Ok n) = subst (Passes o) e p in says_as (opt_some _ _ (passed_is o q).0) y

-- ---- the call

module _ (region script : Bytes) (st : State) (o : Option (List Op)) where
  abbrev called : Outcome Answer
  called = public Err (batch_of flat o st.health) region script st []

  pub call_bad : {g : Bool} → g ≡ good region → g ≡ false → outcome (Err Corrupted) st 0 region [] ≡ called
  call_bad eg e = public_bad Err _ region script st [] eg e

  pub call_good : {g : Bool} {t : Step} {b : Bytes} {a : Answer} {st1 : State} {n : ℕ} → g ≡ good region → g ≡ true → t ≡ begin st
      → Says (batch_of flat o st.health) region script t b a st1 n [] → outcome a st1 n b [] ≡ called
  unfolding laid
  call_good {b = b} {a = a} {st1 = st1} {n = n} eg e et y =
      public_good Err (batch_of flat o st.health) region script st [] eg e
      (subst (λ (t : Step). Says (batch_of flat o st.health) region script t b a st1 n []) et y)
