-- The marker, and what is said from the commit point on.
use mathlib.Core.Path.{◌≡◌, refl, sym, ap, ap₂, ◌∙◌, subst}
use mathlib.Core.Bool.{Bool, true, false}
use mathlib.Core.List.{[]}
use Rattle.std.specs.Prelude.{Option, Some, None, Ok, Err}
use Prim.Native.Nat.{ℕ}
use lib.ListN.{length}
use Rattle.definition.specs.Tools.{Bytes, pick, eqs}
use Rattle.definition.specs.Codec.{be16, marker, marker_key}
use Rattle.definition.specs.Region.{item, good, allowed}
use Rattle.definition.specs.Numbers.{number}
use Rattle.definition.specs.Program.{Prog, flat, store, remove}
use Rattle.definition.specs.Recovery.{recover}
use Rattle.definition.specs.Calls.{Said, say, settled, is_marker, finish, read_back}
use Rattle.definition.proofs.Choices.{pick_yes, pick_no}
use Rattle.definition.specs.declared.Step.{Step}
use Rattle.definition.specs.declared.State.{State}
use Rattle.definition.specs.declared.Fault.{Fault}
use Rattle.definition.specs.declared.Fault.TheVariants as F
use Rattle.definition.specs.declared.Fault.TheVariants.{BatchCommitted, CommitUncertain}
use Rattle.definition.specs.declared.JournalPart.{JournalPart}
use Rattle.definition.specs.declared.Health.TheVariants.{Clean, Debris, Pending}
use Rattle.definition.specs.declared.Reply.{Reply}
use Rattle.std.specs.Borrow.{Bor}
use Rattle.definition.specs.Answers.{Answer}
use Rattle.items.specs.declared.Failure.{Failure}
use Rattle.items.specs.Forms.{Answered, Fetched, value_of, Ran, Fetches}
use Rattle.items.proofs.Along.{ran_as, ran_done, ran_failed, fetch_done, fetch_failed}
use Rattle.gate.specs.Forms.{reply_of, Says}
use Rattle.gate.proofs.Saying.{says_ret, says_as, says_on, says_else, as_reply}

-- ---- the marker

pub marker_allowed : (n : ℕ) {k m : Bytes} → k ≡ marker_key → m ≡ marker n → allowed (length k) (length m) ≡ true
unfolding marker be16 marker_key allowed pick
marker_allowed n ek em = ap₂ allowed (ap length ek) (ap length em)

pub marker_stored : (n : ℕ) {k m s script b : Bytes} {t : Step} {r : Answered} → k ≡ marker_key → m ≡ marker n → Ran (store flat (item k m)) s script t b r
    → Ran (store flat (item marker_key (marker n))) s script t b r
marker_stored n ek em x = ran_as (ap₂ (λ (k v : Bytes). store flat (item k v)) (sym ek) (sym em)) x

pub marker_removed : {k s script b : Bytes} {t : Step} {r : Answered} → k ≡ marker_key → Ran (remove flat k) s script t b r → Ran (remove flat marker_key) s script t b r
marker_removed ek x = ran_as (ap (remove flat) (sym ek)) x

module _ (n : ℕ) {x : Option (Bor Bytes)} where
  pub no_marker : x ≡ None → false ≡ is_marker n (value_of x)
  unfolding is_marker
  no_marker e = sym (ap (λ (x : Option (Bor Bytes)). is_marker n (value_of x)) e)

  pub some_marker : {v : Bor Bytes} {m : Bytes} {b : Bool} → x ≡ Some v → m ≡ marker n → b ≡ eqs v.now m → b ≡ is_marker n (value_of x)
  unfolding is_marker
  some_marker {v} e em eb = eb ∙ ap (eqs v.now) em ∙ sym (ap (λ (x : Option (Bor Bytes)). is_marker n (value_of x)) e)

-- ---- the fault that a caller hears

pub settled_stays : {e : Fault} {p : JournalPart} → e ≡ F.JournalCorrupted p → e ≡ settled e
unfolding settled number pick
settled_stays {e} q = q ∙ sym (ap settled q)

pub settled_else : (e : Fault) → ((p : JournalPart) → e ≡ F.JournalCorrupted p → ⊥) → BatchCommitted ≡ settled e
unfolding settled number pick
settled_else (F.JournalCorrupted x) h = absurd (h x refl)
settled_else e h = refl

-- ---- by recovery

module _ {s script b : Bytes} {t : Step} {r : Answered} (h : Ran (recover flat) s script t b r) where
  pub finish_done : {t1 : Step} {u : Reply Answer} → r ≡ Ok t1 → u ≡ reply_of (Ok tt) Clean t1 → Says (finish flat) s script t b u.answer u.state u.calls []
  unfolding finish
  finish_done e eu = as_reply eu (says_on (λ x. say (Ok tt) Clean) (λ e. say (Err (settled e)) Pending) (ran_done h e) (says_ret h.fine))

  pub finish_failed : {w : Failure} {e : Fault} {u : Reply Answer} → r ≡ Err w → e ≡ settled w.fault
      → u ≡ reply_of (Err e) Pending w.step → Says (finish flat) s script t b u.answer u.state u.calls []
  unfolding finish
  finish_failed {w = w} q ee eu =
      as_reply (eu ∙ ap (λ (e : Fault). reply_of {A = Answer} (Err e) Pending w.step) ee)
      (says_else (λ x. say (Ok tt) Clean) (λ e. say (Err (settled e)) Pending) (ran_failed h q) (says_ret h.fine))

-- ---- the marker, read back

abbrev found : ℕ → Fault → Option Bytes → Prog Bytes (Said Answer)
found n e o = pick (is_marker n o) (finish flat) (say (Err e) Debris)

abbrev missed : Fault → Prog Bytes (Said Answer)
missed e = say (Err CommitUncertain) Pending

module _ (n : ℕ) (e : Fault) {k s script : Bytes} {t : Step} {r : Fetched} (ek : k ≡ marker_key) (g : good s ≡ true) (h : Fetches k s script t r) where
  fetched : Fetches marker_key s script t r
  fetched = subst (λ j. Fetches j s script t r) ek h

  pub back_uncertain : {w : Failure} {u : Reply Answer} → r ≡ Err w
      → u ≡ reply_of (Err CommitUncertain) Pending w.step → Says (read_back flat n e) s script t s u.answer u.state u.calls []
  unfolding read_back
  back_uncertain q eu = as_reply eu (says_else (found n e) missed (fetch_failed g fetched q) (says_ret g))

  module _ {x : Option (Bor Bytes) × Step} (q : r ≡ Ok x) {m : Bool} (em : m ≡ is_marker n (value_of x.0)) where
    pub back_committed : {b : Bytes} {a : Answer} {st : State} {c : ℕ} → m ≡ true → Says (finish flat) s script x.1 b a st c [] → Says (read_back flat n e) s script t b a st c []
    unfolding read_back
    back_committed y z = says_on (found n e) missed (fetch_done g fetched q) (says_as (pick_yes _ _ (sym em ∙ y)) z)

    pub back_other : {u : Reply Answer} → m ≡ false → u ≡ reply_of (Err e) Debris x.1 → Says (read_back flat n e) s script t s u.answer u.state u.calls []
    unfolding read_back
    back_other y eu = as_reply eu (says_on (found n e) missed (fetch_done g fetched q) (says_as (pick_no _ _ (sym em ∙ y)) (says_ret g)))
