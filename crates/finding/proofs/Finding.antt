-- How the proofs of get, contains and delete go along their calls.
use Rattle.std.proofs.Common.{Bool, arith, ◌+◌, ◌++◌, drop, ◌≡◌, refl, sym, ap, ◌∙◌, true, [], ℕ, ◌<◌, ◌≤◌, length, not, false}
use Rattle.std.specs.Prelude.{Option, None, Some, Ok, Err, is_some}
use Rattle.std.specs.Borrow.{Bor}
use borrow.Author.Tests.{lt-ltb, le-ltb}
use Rattle.definition.specs.Tools.{Bytes, opt}
use Rattle.definition.specs.Codec.{laid}
use Rattle.definition.specs.Region.{good}
use Rattle.definition.specs.Program.{Prog, on_p, flat, fetch, remove}
use Rattle.definition.specs.Calls.{Said, say, hand, get_key, contains_key, delete_key, delete_found}
use Rattle.definition.proofs.Choices.{pick_yes, pick_no, true≢false}
use Rattle.definition.specs.Answers.{GetAnswer, TruthAnswer}
use Rattle.definition.specs.declared.Step.{Step}
use Rattle.definition.specs.declared.State.{State}
use Rattle.definition.specs.declared.Fault.{Fault}
use Rattle.definition.specs.declared.Fault.TheVariants.{OutputTooSmall}
use Rattle.definition.specs.declared.Health.{Health}
use Rattle.slices.specs.Written.{written}
use Rattle.items.specs.declared.Failure.{Failure}
use Rattle.items.specs.Forms.{Answered, Fetched, failure, value_of, Ran, Fetches}
use Rattle.items.proofs.Along.{ran_done, fetch_done}
use Rattle.gate.specs.Forms.{Says, Tells}
use Rattle.gate.proofs.Saying.{says_as, says_ret, says_on, says_failed, says_missed}
use Rattle.finding.specs.Forms.{Gets}

-- a value laid at the front
pub laid_front : (v out : Bytes) → written out 0 v ≡ laid v out
unfolding written laid
laid_front v out = let e : 0 + length v ≡ length v = omega arith in ap (λ (n : ℕ). v ++ drop n out) e

-- a fetch, then what follows the value that was found, or that there is none
module _ {A : Type 0} (k : Option Bytes → Prog Bytes (Said A)) (h : Fault → Prog Bytes (Said A)) {key s script : Bytes} {t : Step} {r : Fetched} (g : good s ≡ true) (x : Fetches key s script t r)
    {p : Option (Bor Bytes) × Step} (e : r ≡ Ok p) {b : Bytes} {a : A} {st : State} {n : ℕ} {out : Bytes} where
  found_none : p.0 ≡ None → Says (k None) s script p.1 b a st n out → Says (on_p (fetch flat key) k h) s script t b a st n out
  found_none q y = says_on k h (fetch_done g x e) (says_as (ap (λ o. k (value_of o)) q) y)

  found_some : {v : Bor Bytes} → p.0 ≡ Some v → Says (k (Some v.now)) s script p.1 b a st n out → Says (on_p (fetch flat key) k h) s script t b a st n out
  found_some q y = says_on k h (fetch_done g x e) (says_as (ap (λ o. k (value_of o)) q) y)

-- ---- get

module _ (key out : Bytes) {s script : Bytes} {t : Step} {r : Fetched} (g : good s ≡ true) (x : Fetches key s script t r) where
  abbrev then_hand : Health → Option Bytes → Prog Bytes (Said GetAnswer)
  then_hand h o = opt o (say (Ok None) h) (hand flat (length out) h)

  pub get_missed : {e : Failure} → r ≡ Err e → Gets (get_key flat key (length out)) s script t s (Err e) out out
  unfolding get_key laid
  get_missed e = record { handed = []; tells = record { says = λ h. says_missed Err (then_hand h) g x e }; output = refl }

  module _ {p : Option (Bor Bytes) × Step} (e : r ≡ Ok p) where
    pub get_absent : p.0 ≡ None → Gets (get_key flat key (length out)) s script t s (Ok (None, p.1)) out out
    unfolding get_key laid opt
    get_absent q = record { handed = []; tells = record { says = λ h. found_none (then_hand h) (λ e. say (Err e) h) g x e q (says_ret g) }; output = refl }

    module _ {v : Bor Bytes} (q : p.0 ≡ Some v) where
      pub get_small : length out < length v.now → Gets (get_key flat key (length out)) s script t s (Err (failure (OutputTooSmall (length v.now)) p.1)) out out
      unfolding get_key hand laid opt
      get_small l =
          record {
            handed = [];
            tells = record { says = λ h. found_some (then_hand h) (λ e. say (Err e) h) g x e q (says_as (pick_yes _ _ (lt-ltb _ _ l)) (says_ret g)) };
            output = refl;
          }

      pub get_found : {after : Bytes} → length v.now ≤ length out → after ≡ written out 0 v.now
          → Gets (get_key flat key (length out)) s script t s (Ok (Some (length v.now), p.1)) out after
      unfolding get_key hand opt
      get_found l ea =
          record {
            handed = v.now;
            tells = record { says = λ h. found_some (then_hand h) (λ e. say (Err e) h) g x e q (says_as (pick_no _ _ (le-ltb _ _ l)) (says_ret g)) };
            output = ea ∙ laid_front v.now out;
          }

-- ---- contains

module _ (key : Bytes) {s script : Bytes} {t : Step} {r : Fetched} (g : good s ≡ true) (x : Fetches key s script t r) where
  abbrev then_yes : Health → Option Bytes → Prog Bytes (Said TruthAnswer)
  then_yes h o = opt o (say (Ok false) h) (λ v. say (Ok true) h)

  pub contains_missed : {e : Failure} → r ≡ Err e → Tells (contains_key flat key) s script t s (Err e) []
  unfolding contains_key
  contains_missed e = record { says = λ h. says_missed Err (then_yes h) g x e }

  pub contains_told : {p : Option (Bor Bytes) × Step} → r ≡ Ok p → Tells (contains_key flat key) s script t s (Ok (is_some p.0, p.1)) []
  unfolding contains_key opt
  contains_told {p} e = go p.0 refl
    where
      go : (o : Option (Bor Bytes)) → p.0 ≡ o → Tells (contains_key flat key) s script t s (Ok (is_some p.0, p.1)) []
      go None q = rw q (record { says = λ h. found_none (then_yes h) (λ e. say (Err e) h) g x e q (says_ret g) })
      go (Some v) q = rw q (record { says = λ h. found_some (then_yes h) (λ e. say (Err e) h) g x e q (says_ret g) })

-- ---- delete

module _ (key : Bytes) {s script : Bytes} {t : Step} {r : Fetched} (g : good s ≡ true) (x : Fetches key s script t r) where
  abbrev then_drop : Health → Option Bytes → Prog Bytes (Said TruthAnswer)
  then_drop h o = opt o (say (Ok false) h) (λ v. delete_found flat key h)

  pub delete_missed : {e : Failure} → r ≡ Err e → Tells (delete_key flat key) s script t s (Err e) []
  unfolding delete_key
  delete_missed e = record { says = λ h. says_missed Err (then_drop h) g x e }

  module _ {p : Option (Bor Bytes) × Step} (e : r ≡ Ok p) {y : Bool} (ey : is_some p.0 ≡ not y) where
    there : y ≡ false → (v : Bor Bytes) × (p.0 ≡ Some v)
    there f = go p.0 refl
      where
        go : (o : Option (Bor Bytes)) → p.0 ≡ o → (v : Bor Bytes) × (p.0 ≡ Some v)
        go None q = absurd (true≢false (sym (ap is_some q) ∙ ey ∙ ap not f) refl)
        go (Some v) q = (v, q)

    absent : y ≡ true → p.0 ≡ None
    absent f = go p.0 refl
      where
        go : (o : Option (Bor Bytes)) → p.0 ≡ o → p.0 ≡ None
        go None q = q
        go (Some v) q = absurd (true≢false refl (sym (ap is_some q) ∙ ey ∙ ap not f))

    pub delete_no : y ≡ true → Tells (delete_key flat key) s script t s (Ok (false, p.1)) []
    unfolding delete_key opt
    delete_no f = record { says = λ h. found_none (then_drop h) (λ e. say (Err e) h) g x e (absent f) (says_ret g) }

    module _ (f : y ≡ false) {b : Bytes} {a : Answered} (w : Ran (remove flat key) s script p.1 b a) where
      pub delete_failed : {w2 : Failure} → a ≡ Err w2 → Tells (delete_key flat key) s script t b (Err w2) []
      unfolding delete_key delete_found opt
      delete_failed q =
          record {
            says = λ h. found_some (then_drop h) (λ e. say (Err e) h) g x e (there f).1 (says_failed Err (λ x. say (Ok true) h) w q);
          }

      pub delete_done : {u : Step} → a ≡ Ok u → Tells (delete_key flat key) s script t b (Ok (true, u)) []
      unfolding delete_key delete_found opt
      delete_done q =
          record {
            says = λ h. found_some (then_drop h) (λ e. say (Err e) h) g x e (there f).1
                (says_on (λ x. say (Ok true) h) (λ e. say (Err e) h) (ran_done w q) (says_ret w.fine));
          }
