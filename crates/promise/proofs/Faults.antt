-- Which faults a call can be refused with: a script brings item faults only, and every refusal but 15 and 16 means no
-- change.
use mathlib.Core.Path.{◌≡◌, refl, ap, ◌∙◌, subst}
use mathlib.Core.Logic.{◌≢◌}
use mathlib.Core.Bool.{Bool, true, false, not}
use mathlib.Core.List.{List, [], ◌∷◌}
use Rattle.std.specs.Prelude.{Option, None, Some}
use Prim.Native.Nat.{ℕ, ◌+◌, ◌%◌, ◌≤◌}
use native.Mathlib.Omega.{arith}
use lib.ListN.{length, get_or}
use lib.Dec.{eqb, leb, ltb}
use borrow.Author.Tests.{leb-true, eq-eqb, ne_eqb}
use Rattle.definition.specs.Tools.{Bytes, pick}
use Rattle.definition.specs.Codec.{Op, op_key, op_value, batch_limit, long_key, long_value, reserved, op_fault}
use Rattle.definition.specs.Script.{fault_of, byte_fate, fate, cut_code}
use Rattle.definition.specs.Numbers.{number}
use Rattle.definition.specs.Calls.{put_fault, ops_fault, batch_fault, region_fault}
use Rattle.definition.specs.declared.Step.{Step}
use Rattle.definition.specs.declared.Fault.{Fault}
use Rattle.definition.proofs.Choices.{pick_yes, pick_to, both, opt_to, true≢false}
use Rattle.reasons.proofs.StandsFor.{none≢some}
use Rattle.reasons.proofs.Ensures.{Obeys}
use Rattle.reasons.proofs.Recovers.{Cause, by_fate, no_room}

-- "an item fault (4 to 12, from an item call)", and what means no change whatever the call, as tests
unfoldable pub item_fault : Fault → Bool
item_fault f = pick (leb 4 (number f)) (leb (number f) 12) false

unfoldable pub outright : Fault → Bool
outright f = pick (not (eqb (number f) 13)) (pick (not (eqb (number f) 15)) (not (eqb (number f) 16)) false) false

abbrev pub ItemFault : Fault → Type 0
ItemFault f = item_fault f ≡ true

abbrev pub Outright : Fault → Type 0
Outright f = outright f ≡ true

pub item_range : (f : Fault) → ItemFault f → (4 ≤ number f) × (number f ≤ 12)
unfolding item_fault
item_range f e = let h = both (leb 4 (number f)) (leb (number f) 12) e in (leb-true _ _ h.0, leb-true _ _ h.1)

apart : {a b : ℕ} → not (eqb a b) ≡ true → a ≢ b
apart e q = true≢false e (ap not (eq-eqb _ _ q))

pub outright_range : (f : Fault) → Outright f → (number f ≢ 13) × (number f ≢ 15) × (number f ≢ 16)
unfolding outright
outright_range f e =
    let h = both (not (eqb (number f) 13)) _ e in
    let k = both (not (eqb (number f) 15)) (not (eqb (number f) 16)) h.1 in
    (apart h.0, apart k.0, apart k.1)

pub item_outright : (f : Fault) → ItemFault f → Outright f
unfolding outright
item_outright f e =
    let n : number f ≤ 12 = (item_range f e).1 in
    let a : number f ≡ 13 → ⊥ = λ q. absurd (omega arith) in
    let b : number f ≡ 15 → ⊥ = λ q. absurd (omega arith) in
    let c : number f ≡ 16 → ⊥ = λ q. absurd (omega arith) in
    pick_yes _ _ (ap not (ne_eqb _ _ a)) ∙ pick_yes _ _ (ap not (ne_eqb _ _ b)) ∙ ap not (ne_eqb _ _ c)

pub item_not_13 : (f : Fault) → ItemFault f → eqb (number f) 13 ≡ false
item_not_13 f e =
    let n : number f ≤ 12 = (item_range f e).1 in
    let a : number f ≡ 13 → ⊥ = λ q. absurd (omega arith) in
    ne_eqb _ _ a

pub caused_item : {X : Type 0} (f : Fault) → Cause ItemFault X f → ItemFault f
unfolding item_fault number pick
caused_item f (by_fate m) = m
caused_item f (no_room x) = refl

-- ---- a script

code_item : (c : ℕ) → ItemFault (fault_of c)
unfolding fault_of item_fault number pick
code_item c =
    pick_to ItemFault (eqb c 1) (λ t. refl) (λ t. pick_to ItemFault (eqb c 2) (λ t. refl) (λ t. pick_to ItemFault (eqb c 3) (λ t. refl)
    (λ t. pick_to ItemFault (eqb c 4) (λ t. refl) (λ t. pick_to ItemFault (eqb c 5) (λ t. refl) (λ t. pick_to ItemFault (eqb c 6) (λ t. refl)
    (λ t. pick_to ItemFault (eqb c 7) (λ t. refl) (λ t. pick_to ItemFault (eqb c 8) (λ t. refl) (λ t. pick_to ItemFault (eqb c 9) (λ t. refl)
    (λ t. pick_to ItemFault (eqb c 10) (λ t. refl) (λ t. pick_to ItemFault (eqb c 11) (λ t. refl) (λ t. pick_to ItemFault (eqb c 12) (λ t. refl)
    (λ t. pick_to ItemFault (eqb c 13) (λ t. refl) (λ t. pick_to ItemFault (eqb c 14) (λ t. refl)
    (λ t. pick_to ItemFault (eqb c cut_code) (λ t. refl) (λ t. refl)))))))))))))))

pub script_obeys : (script : Bytes) (t : Step) → Obeys ItemFault (fate script t)
unfolding fate byte_fate item_fault number pick
script_obeys script t =
    pick_to (Obeys ItemFault) t.cut (λ c. refl)
    (λ c. pick_to (Obeys ItemFault) (ltb t.at (length script))
    (λ l. pick_to (Obeys ItemFault) (eqb (get_or script t.at 0 % 128) 0) (λ e. tt) (λ e. code_item (get_or script t.at 0 % 128))) (λ l. tt))

-- ---- the tests of the calls

-- a test's fault, if there is one
abbrev Says : Option Fault → Type 0
Says o = (f : Fault) → o ≡ Some f → Outright f

one : (f : Fault) → Outright f → Says (Some f)
one f x g e = subst Outright (some_some e) x
  where
    some_some : Some f ≡ Some g → f ≡ g
    some_some p = cc

never : Says None
never f e = absurd (none≢some e)

pub put_outright : (k v : Bytes) (f : Fault) → put_fault k v ≡ Some f → Outright f
unfolding put_fault outright number pick
put_outright k v =
    pick_to Says (long_value v) (λ t. one _ refl) (λ t. pick_to Says (reserved k) (λ t. one _ refl) (λ t. pick_to Says (long_key k) (λ t. one _ refl) (λ t. never)))

op_outright : (op : Op) → Says (op_fault op)
unfolding op_fault outright number pick
op_outright op =
    pick_to Says (long_key (op_key op)) (λ t. one _ refl)
    (λ t. pick_to Says (reserved (op_key op)) (λ t. one _ refl) (λ t. pick_to Says (long_value (op_value op)) (λ t. one _ refl) (λ t. never)))

ops_outright : (ops : List Op) → Says (ops_fault ops)
unfolding ops_fault
ops_outright [] = never
ops_outright (op ∷ ops) = opt_to Says (op_fault op) (λ e. ops_outright ops) (λ f e. one f (op_outright op f e))

pub batch_outright : (ops : List Op) (f : Fault) → batch_fault ops ≡ Some f → Outright f
unfolding batch_fault outright number pick
batch_outright ops = pick_to Says (ltb batch_limit (length ops)) (λ t. one _ refl) (λ t. ops_outright ops)

pub region_outright : (start len : ℕ) (f : Fault) → region_fault start len ≡ Some f → Outright f
unfolding region_fault outright number pick
region_outright start len =
    pick_to Says (leb 4294967296 (start + len)) (λ t. one _ refl)
    (λ t. pick_to Says (not (eqb (start % 4096) 0)) (λ t. one _ refl)
    (λ t. pick_to Says (not (eqb ((start + len) % 4096) 0)) (λ t. one _ refl) (λ t. pick_to Says (ltb len 8192) (λ t. one _ refl) (λ t. never))))
