-- The three walks over a list: the tests of its operations, and what is done with each in turn.
use mathlib.Core.Path.{◌≡◌, refl, sym, ap, ◌∙◌}
use mathlib.Core.Bool.{true}
use mathlib.Core.List.{List, [], ◌∷◌}
use Rattle.std.specs.Prelude.{Option, None, Some, Ok, Err}
use Rattle.std.specs.Prelude as P
use Prim.Native.Nat.{ℕ, suc, ◌+◌, ◌≤◌, ◌<◌}
use native.Mathlib.Omega.{arith}
use native.Mathlib.Numerals.{add-one}
use lib.ListN.{length}
use lib.Dec.{ltb}
use borrow.Author.Tests.{lt-ltb, le-ltb, ltb-false}
use Rattle.definition.specs.Tools.{Bytes, opt}
use Rattle.definition.specs.Codec.{Op, Put, op_fault, marker_key, batch_limit}
use Rattle.definition.specs.Region.{good}
use Rattle.definition.specs.Program.{Prog, err, ◌▷◌, flat, remove}
use Rattle.definition.specs.Calls.{ops_fault, batch_fault, journal, apply}
use Rattle.definition.proofs.Choices.{pick_yes, pick_no, opt_none, opt_some, bool}
use Rattle.definition.specs.declared.Step.{Step}
use Rattle.definition.specs.declared.Fault.{Fault}
use Rattle.definition.specs.declared.Fault.TheVariants as F
use Rattle.definition.specs.declared.CapacityKind.TheVariants.{BatchOperations}
use Rattle.codec.specs.Forms.{op_as, checked_of, Checks}
use Rattle.codec.proofs.Laws.{fine_none, refused_some}
use Rattle.items.specs.declared.Failure.{Failure}
use Rattle.items.specs.Forms.{Answered, Ran}
use Rattle.items.proofs.Along.{Left, left_start, left_as, left_end, left_turn, ran_done, ran_runs, runs_ran, runs_ret, done_ran, seq_failed}
use Rattle.oplist.specs.declared.ListOp.{ListOp}
use Rattle.oplist.specs.Places.{those, Listed, Given}
use Rattle.oplist.proofs.Walks.{walk_on, walk_op, given_fault}
use Rattle.batch.specs.Forms.{Tested}

-- ---- the tests

pub check_over : {ops : List Op} → ops ≡ [] → Ok tt ≡ checked_of (ops_fault ops)
unfolding ops_fault checked_of
check_over z = sym (ap (λ (ops : List Op). checked_of (ops_fault ops)) z)

module _ {a b : Option (List Op)} (w : Listed a) {o : ListOp} (m : Given a b o)
    {r : P.Result (Unit {0}) Fault} (c : Checks (op_fault (Put o.key.now o.value.now)) o.key.now o.value.now r) where
  pub check_refused : {f : Fault} → r ≡ Err f → Err f ≡ checked_of (ops_fault (those a))
  unfolding ops_fault checked_of
  check_refused q = sym (ap (λ (ops : List Op). checked_of (ops_fault ops)) (walk_op w m) ∙ ap checked_of (opt_some _ _ (given_fault m ∙ refused_some c q)))

  pub check_on : {x : Unit {0}} → r ≡ Ok x → ops_fault (those a) ≡ ops_fault (those b)
  unfolding ops_fault
  check_on q = ap ops_fault (walk_op w m) ∙ opt_none _ _ (given_fault m ∙ fine_none c q)

module _ (ops : List Op) {n : ℕ} (en : n ≡ length ops) where
  pub check_many : batch_limit < n → Err (F.CapacityExceeded BatchOperations n batch_limit) ≡ checked_of (batch_fault ops)
  unfolding batch_fault checked_of
  check_many h =
      let l : batch_limit < length ops = omega arith in
      sym (ap checked_of (pick_yes _ _ (lt-ltb _ _ l)) ∙ ap (λ (m : ℕ). Err (F.CapacityExceeded BatchOperations m batch_limit)) (sym en))

  pub check_few : n ≤ batch_limit → {r : P.Result (Unit {0}) Fault} → r ≡ checked_of (ops_fault ops) → r ≡ checked_of (batch_fault ops)
  unfolding batch_fault
  check_few h e = let l : length ops ≤ batch_limit = omega arith in e ∙ sym (ap checked_of (pick_no _ _ (le-ltb _ _ l)))

-- what the tests leave
few_of : (ops : List Op) → batch_fault ops ≡ None → (length ops ≤ batch_limit) × (ops_fault ops ≡ None)
unfolding batch_fault
few_of ops e =
    bool (ltb batch_limit (length ops))
    (λ t. let q : Some (F.CapacityExceeded BatchOperations (length ops) batch_limit) ≡ None = sym (pick_yes _ _ t) ∙ e in
    let z : ◌≡◌ {A = ℕ} 0 1 = cc in absurd (omega arith))
    (λ f. (ltb-false _ _ f, sym (pick_no _ _ f) ∙ e))

pub tested : {o : Option (List Op)} → Listed o → batch_fault (those o) ≡ None → Tested o 0
tested {o} w e =
    let h = few_of (those o) e in
    record { walk = w; fine = h.1; few = omega (arith, h.0) }

ops_fine : (op : Op) (ops : List Op) → ops_fault (op ∷ ops) ≡ None → (op_fault op ≡ None) × (ops_fault ops ≡ None)
unfolding ops_fault opt
ops_fine op ops e = go (op_fault op) refl e
  where
    go : (o : Option Fault) → op_fault op ≡ o → opt o (ops_fault ops) Some ≡ None → (op_fault op ≡ None) × (ops_fault ops ≡ None)
    go None q e = (q, e)
    go (Some f) q e = let z : ◌≡◌ {A = ℕ} 0 1 = cc in absurd (omega arith)

module _ {a : Option (List Op)} {i : ℕ} (h : Tested a i) {b : Option (List Op)} {o : ListOp} (m : Given a b o) where
  pub tested_op : op_fault (op_as o.kind o.key.now o.value.now) ≡ None
  tested_op = (ops_fine _ (those b) (ap ops_fault (sym (walk_op h.walk m)) ∙ h.fine)).0

  pub tested_on : Tested b (i + 1)
  tested_on =
      let e = walk_op h.walk m in
      let f = h.few in
      record {
        walk = walk_on h.walk m;
        fine = (ops_fine _ (those b) (ap ops_fault (sym e) ∙ h.fine)).1;
        few = omega (arith, ap length e);
      }

-- ---- what is done with each operation: p does q with the first, then the rest at the next index

module _ (p : ℕ → List Op → Prog Bytes (Unit {0})) where
  -- of a whole run over all operations, these are left
  abbrev pub Each : List Op → Bytes → Bytes → Step → List Op → ℕ → Bytes → Step → Type 0
  Each all s script t ops i b t1 = Left (p 0 all) s script t (p i ops) b t1

  pub each_start : {all : List Op} {s script : Bytes} {t : Step} → good s ≡ true → Each all s script t all 0 s t
  each_start g = left_start refl g

  module _ (q : ℕ → Op → Prog Bytes (Unit {0})) (turn : (i : ℕ) (op : Op) (ops : List Op) → p i (op ∷ ops) ≡ (q i op ▷ λ x. p (suc i) ops))
      {all : List Op} {s script : Bytes} {t : Step} {ops : List Op} (i : ℕ) {b : Bytes} {t1 : Step} (e : Each all s script t ops i b t1) where
    pub each_over : ops ≡ [] → {b2 : Bytes} {r : Answered} → Ran (p i []) b script t1 b2 r → Ran (p 0 all) s script t b2 r
    each_over z {r = r} h = runs_ran r (left_end (left_as e (ap (p i) z)) (ran_runs h))

    module _ {op : Op} {more : List Op} (w : ops ≡ op ∷ more) {b2 : Bytes} {r : Answered} (h : Ran (q i op) b script t1 b2 r) where
      rest : Left (p 0 all) s script t (q i op ▷ λ x. p (i + 1) more) b t1
      rest = left_as e (ap (p i) w ∙ turn i op more ∙ ap (λ (j : ℕ). q i op ▷ λ x. p j more) (sym (add-one i)))

      pub each_failed : {f : Failure} → r ≡ Err f → Ran (p 0 all) s script t b2 (Err f)
      each_failed {f} z = runs_ran (Err f) (left_end rest (ran_runs (seq_failed (λ x. p (i + 1) more) h z)))

      pub each_on : {t2 : Step} → r ≡ Ok t2 → Each all s script t more (i + 1) b2 t2
      each_on z = left_turn (λ x. p (i + 1) more) err rest (ran_done h z)

-- behind the last

pub journal_over : (i : ℕ) {s script : Bytes} {t : Step} → good s ≡ true → Ran (journal flat i []) s script t s (Ok t)
unfolding journal
journal_over i g = done_ran (runs_ret g)

pub apply_over : (i : ℕ) {s script b : Bytes} {t : Step} {r : Answered} → Ran (remove flat marker_key) s script t b r → Ran (apply flat i []) s script t b r
unfolding apply
apply_over i h = h
