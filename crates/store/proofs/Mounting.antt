-- The outcomes of the public calls, return by return.
use mathlib.Core.Path.{◌≡◌, sym, ap, ◌∙◌, subst}
use mathlib.Core.Bool.{Bool, true, false}
use mathlib.Core.List.{[]}
use Rattle.std.specs.Prelude as E
use Rattle.std.specs.Prelude.{Ok, Err}
use Prim.Native.Nat.{ℕ}
use lib.ListN.{length}
use Rattle.definition.specs.Tools.{Bytes, pick}
use Rattle.definition.specs.Codec.{laid, reserved, long_key}
use Rattle.definition.specs.Region.{good}
use Rattle.definition.specs.Program.{Prog, flat}
use Rattle.definition.specs.Recovery.{recover}
use Rattle.definition.specs.Calls.{Said, say, region_fault}
use Rattle.definition.specs.Calls as C
use Rattle.definition.specs.Space.{space_of}
use Rattle.definition.specs.Public.{outcome, state, begin, public, unmounted}
use Rattle.definition.specs.Public as P
use Rattle.definition.proofs.Choices.{opt_none, opt_some, pick_yes, pick_no}
use Rattle.definition.specs.declared.Step.{Step}
use Rattle.definition.specs.declared.Fault.{Fault}
use Rattle.definition.specs.declared.Fault.TheVariants.{Corrupted, ReservedKey}
use Rattle.definition.specs.Answers.{TruthAnswer}
use Rattle.definition.specs.declared.Health.{Health}
use Rattle.definition.specs.declared.Health.TheVariants.{Clean, Pending}
use Rattle.definition.specs.declared.Space.{Space}
use Rattle.definition.specs.declared.State.{State}
use Rattle.codec.specs.Forms.{checked_of}
use Rattle.codec.proofs.Laws.{fault_none, fault_some}
use Rattle.items.specs.declared.Failure.{Failure}
use Rattle.items.specs.Forms.{Answered, Ran}
use Rattle.items.proofs.Along.{ran_done}
use Rattle.gate.specs.Forms.{state_of}
use Rattle.gate.proofs.Saying.{says_as, says_on, says_ret, says_failed, public_good, public_bad}

module _ (region script : Bytes) (start at : ℕ) {n : Space} (en : n ≡ space_of region) {c : E.Result (Unit {0}) Fault} (ec : c ≡ checked_of (region_fault start (length region))) where
  pub mount_refused : {f : Fault} → c ≡ Err f → outcome (Err f) (state Pending at false n) 0 region [] ≡ P.mount region script start at
  unfolding P.mount
  mount_refused {f} q = ap (λ n. outcome (Err f) (state Pending at false n) 0 region []) en ∙ sym (opt_some _ _ (fault_some _ (sym q ∙ ec)))

  module _ (q : c ≡ Ok tt) {g : Bool} (eg : g ≡ good region) where
    pub mount_bad : g ≡ false → outcome (Err Corrupted) (state Pending at false n) 0 region [] ≡ P.mount region script start at
    unfolding P.mount
    mount_bad e =
        ap (λ n. outcome (Err Corrupted) (state Pending at false n) 0 region []) en
        ∙ public_bad Err (C.mount flat) region script (unmounted region at) [] eg e ∙ sym (opt_none _ _ (fault_none _ (sym q ∙ ec)))

    module _ (e : g ≡ true) {t : Step} (et : t ≡ begin (state Pending at false n)) {b : Bytes} {r : Answered} (x : Ran (recover flat) region script t b r) where
      begun : Ran (recover flat) region script (begin (unmounted region at)) b r
      begun = subst (λ t. Ran (recover flat) region script t b r) (et ∙ ap (λ n. begin (state Pending at false n)) en) x

      pub mount_failed : {w : Failure} → r ≡ Err w
          → outcome (Err w.fault) (state_of Pending w.step) w.step.calls b [] ≡ P.mount region script start at
      unfolding P.mount C.mount laid
      mount_failed p =
          public_good Err (C.mount flat) region script (unmounted region at) [] eg e (says_failed Err (λ x. say (Ok tt) Clean) begun p)
          ∙ sym (opt_none _ _ (fault_none _ (sym q ∙ ec)))

      pub mount_done : {t1 : Step} → r ≡ Ok t1 → outcome (Ok tt) (state_of Clean t1) t1.calls b [] ≡ P.mount region script start at
      unfolding P.mount C.mount laid
      mount_done p =
          public_good Err (C.mount flat) region script (unmounted region at) [] eg e (says_on (λ x. say (Ok tt) Clean) (λ e. say (Err e) Pending) (ran_done begun p) (says_ret x.fine))
          ∙ sym (opt_none _ _ (fault_none _ (sym q ∙ ec)))

-- ---- a delete's test of its key comes before its recovery

module _ (region script key : Bytes) (st : State) {r : Bool} (er : r ≡ reserved key) where
  abbrev unreserved : Health → Prog Bytes (Said TruthAnswer)
  unreserved h1 = pick (long_key key) (say (Ok false) h1) (C.delete_key flat key h1)

  pub delete_past : r ≡ false
      → public Err (C.gate flat Err (C.is_pending st.health) st.health unreserved) region script st [] ≡ P.delete region script st key
  unfolding P.delete C.delete
  delete_past q = ap (λ p. public Err p region script st []) (sym (pick_no _ _ (sym er ∙ q)))

  pub delete_reserved : r ≡ true → {g : Bool} → g ≡ good region → g ≡ true
      → outcome (Err ReservedKey) st 0 region [] ≡ P.delete region script st key
  unfolding P.delete C.delete laid
  delete_reserved q eg e =
      public_good Err (C.delete flat key st.health) region script st [] eg e (says_as (pick_yes _ _ (sym er ∙ q)) (says_ret (sym eg ∙ e)))
