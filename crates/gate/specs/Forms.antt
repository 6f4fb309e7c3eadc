-- The forms of contracts of the calls: what a recovery left, and what a call's program says.
use Rattle.std.specs.Prelude.{◌≡◌, Bool, true, false, ℕ, Ok, Err}
use Rattle.std.specs.Prelude as P
use Rattle.definition.specs.Tools.{Bytes}
use Rattle.definition.specs.Region.{good}
use Rattle.definition.specs.Program.{Prog, world, ok, bad, exec, flat}
use Rattle.definition.specs.Recovery.{recover}
use Rattle.definition.specs.Calls.{Said, said}
use Rattle.definition.specs.declared.Step.{Step}
use Rattle.definition.specs.declared.State.{State}
use Rattle.definition.specs.declared.Fault.{Fault}
use Rattle.definition.specs.declared.Health.{Health}
use Rattle.definition.specs.declared.Health.TheVariants.{Clean}
use Rattle.definition.specs.declared.Reply.{Reply}
use Rattle.items.specs.declared.Failure.{Failure}
use Rattle.items.specs.Forms.{Runs}

-- what a call comes to that may be refused: its answer and where it then stands, or why it failed
abbrev pub Told : Type 0 → Type 0
Told A = P.Result (A × Step) Failure

-- what a store is after the recovery that it needs: ready, or not
abbrev pub ConvergedBy : Bool → Health → Bytes → Bytes → Step → Bytes → Told Health → Type 0
ConvergedBy false h s script t b (Ok r) = (b ≡ s) × (r.0 ≡ h) × (r.1 ≡ t)
ConvergedBy false h s script t b (Err e) = ⊥
ConvergedBy true h s script t b (Ok r) =
    (r.0 ≡ Clean) × Runs (recover flat) s script t b (ok tt (world b script r.1))
ConvergedBy true h s script t b (Err e) = Runs (recover flat) s script t b (bad e.fault (world b script e.step))

pub record Gate (needed : Bool) (h : Health) (s script : Bytes) (t : Step) (b : Bytes) (r : Told Health) : Type 0 where
  pub fine : good b ≡ true
  pub is : ConvergedBy needed h s script t b r

-- ---- replies

abbrev pub state_of : Health → Step → State
state_of h t = record { health = h; at = t.at; cut = t.cut; space = t.space }

abbrev pub reply_of : {A : Type 0} → A → Health → Step → Reply A
reply_of a h t = record { answer = a; state = state_of h t; calls = t.calls }

abbrev pub unchanged_of : {A : Type 0} → A → State → Reply A
unchanged_of a st = record { answer = a; state = st; calls = 0 }

abbrev pub answer_in : {A : Type 0} → Told A → P.Result A Fault
answer_in (Ok r) = Ok r.0
answer_in (Err e) = Err e.fault

abbrev pub step_in : {A : Type 0} → Told A → Step
step_in (Ok r) = r.1
step_in (Err e) = e.step

-- p, run on the region s and the script from step t, leaves the good image b and says: the answer, the state to keep,
-- the item calls made, and the bytes for the output
abbrev pub stands : State → ℕ → Step
stands st n = record { at = st.at; cut = st.cut; calls = n; space = st.space }

pub record Says {A : Type 0} (p : Prog Bytes (Said A)) (s script : Bytes) (t : Step) (b : Bytes) (a : A) (st : State)
    (n : ℕ) (out : Bytes) : Type 0 where
  pub fine : good b ≡ true
  pub is : ok (said a st.health out) (world b script (stands st n)) ≡ exec p (world s script t)

-- the same of a call that keeps the health, which its program is given
pub record Tells {A : Type 0} (p : Health → Prog Bytes (Said (P.Result A Fault))) (s script : Bytes) (t : Step) (b : Bytes)
    (r : Told A) (out : Bytes) : Type 0 where
  pub says : (h : Health) → Says (p h) s script t b (answer_in r) (state_of h (step_in r)) (step_in r).calls out
