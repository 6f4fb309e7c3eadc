-- "an invented item-call number (demand 2, tied to script steps)": every program, and so every public call, stands at
-- its end where so many single steps of the script lead, and says that number. While no cut stands, the place in the
-- script moves by it.
use mathlib.Core.Path.{◌≡◌, refl, sym, ap, ◌∙◌, subst}
use mathlib.Core.Bool.{Bool, true, false}
use Prim.Native.Nat.{ℕ, zero, suc, ◌+◌, ◌-◌, ◌%◌, ◌≤◌, ◌<◌}
use native.Mathlib.Omega.{arith}
use lib.ListN.{length}
use lib.Dec.{ltb}
use Rattle.std.specs.Prelude.{Err}
use borrow.Author.Tests.{ltb-true, ltb-false, lt-ltb, le-ltb}
use Rattle.definition.specs.Tools.{Bytes, pick}
use Rattle.definition.specs.Region.{good}
use Rattle.definition.specs.Script.{word, stepped}
use Rattle.definition.specs.Program.{Prog, ret, err, see, call, World, world, Result, ok, bad, on, done, ran, exec}
use Rattle.definition.specs.Calls.{Said, region_fault}
use Rattle.definition.specs.Public.{Outcome, begin, outcome_of, public, unmounted}
use Rattle.definition.specs.Public as Public
use Rattle.definition.specs.declared.Space.{Space}
use Rattle.definition.specs.declared.State.{State}
use Rattle.definition.specs.declared.Step.{Step}
use Rattle.definition.specs.declared.Fault.{Fault}
use Rattle.definition.specs.declared.Verdict.{Verdict}
use Rattle.definition.specs.declared.Verdict.TheVariants.{Pass, Fail}
use Rattle.definition.proofs.Choices.{bool, true≢false, opt_to}
use Rattle.definition.proofs.ScanRuns.{ticks, ticks_word, stepped_calls}
use Rattle.reasons.proofs.EveryCall.{Called}
use Rattle.reasons.proofs.EveryCall as Every

-- ---- so many steps of the script, one behind the other

unfoldable pub steps : ℕ → Bytes → Step → Step
steps zero script t = t
steps (suc n) script t = steps n script (stepped script t)

steps_calls : (n : ℕ) (script : Bytes) (t : Step) → (steps n script t).calls ≡ ticks n t.calls
unfolding steps ticks
steps_calls zero script t = refl
steps_calls (suc n) script t = steps_calls n script (stepped script t) ∙ ap (ticks n) (stepped_calls script t)

-- the same place, cut and count; what the region holds is no matter of the script
pub record Alike (t u : Step) : Type 0 where
  pub at : t.at ≡ u.at
  pub cut : t.cut ≡ u.cut
  pub calls : t.calls ≡ u.calls

alike : {t : Step} → Alike t t
alike = record { at = refl; cut = refl; calls = refl }

alike_on : {t u v : Step} → Alike t u → Alike u v → Alike t v
alike_on a b = record { at = a.at ∙ b.at; cut = a.cut ∙ b.cut; calls = a.calls ∙ b.calls }

-- a step looks at the place, the cut and the count alone
stepped_alike : (script : Bytes) {t u : Step} → Alike t u → Alike (stepped script t) (stepped script u)
stepped_alike script {t} {u} a =
    subst (λ (x : ℕ). Alike (stepped script t) (stepped script (from x u.cut u.calls))) a.at
    (subst (λ (x : Bool). Alike (stepped script t) (stepped script (from t.at x u.calls))) a.cut
    (subst (λ (x : ℕ). Alike (stepped script t) (stepped script (from t.at t.cut x))) a.calls other_space))
  where
    from : ℕ → Bool → ℕ → Step
    from at cut calls = record { at = at; cut = cut; calls = calls; space = u.space }

    other_space : Alike (stepped script t) (stepped script (from t.at t.cut t.calls))
    other_space =
        unfold stepped pick in
        bool t.cut (λ c. rw c (record { at = refl; cut = refl; calls = refl }))
        (λ c. rw c (bool (ltb t.at (length script))
        (λ l. rw l (record { at = refl; cut = refl; calls = refl }))
        (λ l. rw l (record { at = refl; cut = refl; calls = refl }))))

steps_alike : (n : ℕ) (script : Bytes) {t u : Step} → Alike t u → Alike (steps n script t) (steps n script u)
unfolding steps
steps_alike zero script a = a
steps_alike (suc n) script a = steps_alike n script (stepped_alike script a)

-- ---- a run makes one step for each item call, and none besides

pub data Stepped {S A : Type 0} (script : Bytes) (t : Step) : Result (World S) A → Type 0 where
  well : {a : A} {w : World S} (n : ℕ) → w.script ≡ script → Alike w.step (steps n script t)
      → Stepped script t (ok a w)
  ill : {e : Fault} {w : World S} (n : ℕ) → w.script ≡ script → Alike w.step (steps n script t)
      → Stepped script t (bad e w)

module _ {S A : Type 0} where
  one_more : (script : Bytes) (t : Step) {t1 : Step} {r : Result (World S) A} → Alike t1 (stepped script t)
      → Stepped script t1 r → Stepped script t r
  unfolding steps
  one_more script t a (well n e b) = well (suc n) e (alike_on b (steps_alike n script a))
  one_more script t a (ill n e b) = ill (suc n) e (alike_on b (steps_alike n script a))

  one_call : (v : Verdict) (room : Bool) (s' : S) (k : Space → Space) (s : S) (script : Bytes) (t : Step)
      (c : S → Prog S A) (d : Fault → Prog S A)
      → ((x : S) (w : World S) → Stepped w.script w.step (exec (c x) w))
      → ((e : Fault) (w : World S) → Stepped w.script w.step (exec (d e) w))
      → Stepped script t
      (on (done v room s' k s script (stepped script t)) (λ x w. exec (c w.region) w) (λ e w. exec (d e) w))
  unfolding on done
  one_call Pass true s' k s script t c d p q =
      one_more script t (record { at = refl; cut = refl; calls = refl }) (p _ _)
  one_call Pass false s' k s script t c d p q = one_more script t alike (q _ _)
  one_call (Fail f true) true s' k s script t c d p q =
      one_more script t (record { at = refl; cut = refl; calls = refl }) (q _ _)
  one_call (Fail f true) false s' k s script t c d p q = one_more script t alike (q _ _)
  one_call (Fail f false) room s' k s script t c d p q = one_more script t alike (q _ _)

  pub exec_steps : (p : Prog S A) (w : World S) → Stepped w.script w.step (exec p w)
  unfolding exec ran steps
  exec_steps (ret a) w = well zero refl alike
  exec_steps (err e) w = ill zero refl alike
  exec_steps (see c) w = exec_steps (c w.region) w
  exec_steps (call f g n c d) w =
      one_call _ _ _ _ _ w.script w.step c d (λ x. exec_steps (c x)) (λ e. exec_steps (d e))

-- ---- a public call

-- where it stands after so many steps from its state, and the number that it says
pub record Tied {A : Type 0} (script : Bytes) (st : State) (r : Outcome A) : Type 0 where
  pub made : ℕ
  pub calls : r.calls ≡ made % word
  pub at : r.state.at ≡ (steps made script (begin st)).at
  pub cut : r.state.cut ≡ (steps made script (begin st)).cut

public_tied : {A : Type 0} (refuse : Fault → A) (p : Prog Bytes (Said A)) (region script : Bytes) (st : State)
    (out : Bytes)
    → Tied script st (public refuse p region script st out)
unfolding public outcome_of pick steps
public_tied {A} refuse p region script st out =
    bool (good region)
    (λ g. rw g (go _ (exec_steps p (world region script (begin st)))))
    (λ g. rw g (record { made = 0; calls = omega arith; at = refl; cut = refl }))
  where
    said : (n : ℕ) {t : Step} → Alike t (steps n script (begin st)) → t.calls ≡ n % word
    said n a = a.calls ∙ steps_calls n script (begin st) ∙ ticks_word n 0 (omega arith) ∙ omega arith

    go : (r : Result (World Bytes) (Said A)) → Stepped script (begin st) r
        → Tied script st (outcome_of refuse st.health out r)
    go r (well n e a) = record { made = n; calls = said n a; at = a.at; cut = a.cut }
    go r (ill n e a) = record { made = n; calls = said n a; at = a.at; cut = a.cut }

-- EVERY PUBLIC CALL stands where so many steps lead, and says that number.
pub tied : {A : Type 0} (region script : Bytes) {st : State} {r : Outcome A} → Called region script A st r
    → Tied script st r
unfolding Public.get Public.contains Public.put Public.delete Public.apply_batch Public.apply_ops Public.scan_prefix Public.mount
tied region script (Every.get st key out) = public_tied _ _ region script st out
tied region script (Every.contains st key) = public_tied _ _ region script st _
tied region script (Every.put st key value) = public_tied _ _ region script st _
tied region script (Every.delete st key) = public_tied _ _ region script st _
tied region script (Every.apply_batch st list) = public_tied _ _ region script st _
tied region script (Every.apply_ops st ops pool) = public_tied _ _ region script st _
tied region script (Every.scan_prefix st prefix most out) = public_tied _ _ region script st out
tied region script (Every.mount start at) =
    opt_to (Tied script (unmounted region at)) (region_fault start (length region))
    (λ e. public_tied Err _ region script (unmounted region at) _)
    (λ f e. unfold steps in record { made = 0; calls = omega arith; at = refl; cut = refl })

-- ---- where so many steps lead while no cut stands

-- a cut is never lifted by a step
cut_stays : (n : ℕ) (script : Bytes) (t : Step) → t.cut ≡ true → (steps n script t).cut ≡ true
unfolding steps
cut_stays zero script t c = c
cut_stays (suc n) script t c = cut_stays n script (stepped script t) (unfold stepped pick in rw c refl)

-- so many bytes on inside the script, to its end at most; a place at its end or past it stays
pub record Moves (script : Bytes) (n from to : ℕ) : Type 0 where
  pub inside : from + n ≤ length script → to ≡ from + n
  pub to_the_end : from ≤ length script → length script ≤ from + n → to ≡ length script
  pub past_it : length script ≤ from → to ≡ from

module _ (script : Bytes) (t : Step) (c : t.cut ≡ false) where
  spent : t.at < length script → (stepped script t).at ≡ t.at + 1
  unfolding stepped pick
  spent l = rw (c, lt-ltb t.at (length script) l) refl

  kept : length script ≤ t.at → (stepped script t).at ≡ t.at
  unfolding stepped pick
  kept l = rw (c, le-ltb t.at (length script) l) refl

  one_further : {n to : ℕ} → Moves script n (stepped script t).at to → Moves script (suc n) t.at to
  one_further {n} {to} m = record {
    inside = λ h. let s = spent (omega arith) in m.inside (omega arith) ∙ omega arith;
    to_the_end = λ h l. bool (ltb t.at (length script))
        (λ y. let i : t.at < length script = ltb-true _ _ y in let s = spent i in m.to_the_end (omega arith)
        (omega arith))
        (λ y. let i : length script ≤ t.at = ltb-false _ _ y in let s = kept i in m.past_it
        (omega arith) ∙ omega arith);
    past_it = λ h. let s = kept h in m.past_it (omega arith) ∙ s;
  }

pub uncut_moves : (n : ℕ) (script : Bytes) (t : Step) → (steps n script t).cut ≡ false
    → Moves script n t.at (steps n script t).at
unfolding steps
uncut_moves zero script t u =
    record { inside = λ h. omega arith; to_the_end = λ h l. omega arith; past_it = λ h. refl }
uncut_moves (suc n) script t u =
    bool t.cut
    (λ c. absurd (true≢false (cut_stays (suc n) script t c) (unfold steps in u)))
    (λ c. one_further script t c (uncut_moves n script (stepped script t) u))

-- so a public call that ends inside its script, with no cut, said how many bytes it spent
pub calls_not_invented : {A : Type 0} (region script : Bytes) {st : State} {r : Outcome A}
    → Called region script A st r
    → r.state.cut ≡ false → r.state.at < length script → r.calls ≡ (r.state.at - st.at) % word
calls_not_invented region script {st} {r} called u l =
    let t = tied region script called in
    let m = uncut_moves t.made script (begin st) (sym t.cut ∙ u) in
    t.calls ∙ ap (λ (n : ℕ). n % word) (number t.made st.at m t.at)
  where
    number : (n from : ℕ) {end : ℕ} → Moves script n from end → r.state.at ≡ end → n ≡ r.state.at - from
    number n from m e =
        bool (ltb (length script) (from + n))
        (λ y. let i : length script < from + n = ltb-true _ _ y in bool (ltb (length script) from)
        (λ z. let b : length script < from = ltb-true _ _ z in let p = m.past_it (omega arith) in absurd
        (omega arith))
        (λ z. let p = m.to_the_end (ltb-false _ _ z) (omega arith) in absurd (omega arith)))
        (λ y. let p = m.inside (ltb-false _ _ y) in omega arith)
