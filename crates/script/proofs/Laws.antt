-- What each return of the script's functions says, over plain variables.
use Rattle.std.proofs.Common.{◌≡◌, ℕ, ◌+◌, ◌%◌, Bool, true, false, eqb, leb, ltb, length, get_or, sym, ap, ◌∙◌, ne_eqb, eq-eqb, ltb-true}
use Rattle.std.proofs.lemmas.List.{get_or_default}
use Rattle.definition.specs.Tools.{Bytes}
use Rattle.definition.specs.Script.{fate, stepped, counted, byte_fate, fault_of, cut_code}
use Rattle.definition.proofs.Choices.{pick_yes, pick_no}
use Rattle.definition.specs.declared.Space.{Space}
use Rattle.definition.specs.declared.Step.{Step}
use Rattle.definition.specs.declared.Fault.{Fault}
use Rattle.definition.specs.declared.Fault.TheVariants.{Driver}
use Rattle.definition.specs.declared.DriverKind.TheVariants.{Other}
use Rattle.definition.specs.declared.Verdict.{Verdict}
use Rattle.definition.specs.declared.Verdict.TheVariants.{Pass, Fail}

pub byte_passes : (b : ℕ) → b % 128 ≡ 0 → Pass ≡ byte_fate b
unfolding byte_fate
byte_passes b h = sym (pick_yes _ _ (eq-eqb _ _ h))

pub byte_fails : (b : ℕ) {f : Fault} → f ≡ fault_of (b % 128) → (b % 128 ≡ 0 → ⊥) → Fail f (leb 128 b) ≡ byte_fate b
unfolding byte_fate
byte_fails b e h = ap (λ f. Fail f (leb 128 b)) e ∙ sym (pick_no _ _ (ne_eqb _ 0 h))

abbrev at_step : Space → ℕ → Bool → ℕ → Step
at_step space at cut calls = record { at = at; cut = cut; calls = (calls + 1) % 18446744073709551616; space = space }

-- the byte that a look at the script found
met : (script : Bytes) (at : ℕ) {b : ℕ} → true ≡ ltb at (length script) → b ≡ get_or script at b → b ≡ get_or script at 0
met script at {b} l e = e ∙ get_or_default script at b 0 (ltb-true _ _ (sym l))

-- the fate of a call: in a cut, at a byte of the script, and at its end
module _ (script : Bytes) (t : Step) where
  pub fate_cut : t.cut ≡ true → Fail (Driver Other) false ≡ fate script t
  unfolding fate
  fate_cut c = sym (pick_yes _ _ c)

  pub fate_in : {b : ℕ} {r : Verdict} → r ≡ byte_fate b → t.cut ≡ false → true ≡ ltb t.at (length script) → b ≡ get_or script t.at b
      → r ≡ fate script t
  unfolding fate
  fate_in e c l m = e ∙ ap byte_fate (met script t.at l m) ∙ sym (pick_no _ _ c ∙ pick_yes _ _ (sym l))

  pub fate_end : t.cut ≡ false → false ≡ ltb t.at (length script) → Pass ≡ fate script t
  unfolding fate
  fate_end c l = sym (pick_no _ _ c ∙ pick_no _ _ (sym l))

-- what the code makes of a step: one field or three changed, the others as they were
module _ (script : Bytes) (t : Step) where
  pub step_cut : t.cut ≡ true → at_step t.space t.at t.cut t.calls ≡ stepped script t
  unfolding stepped counted
  step_cut c = ap (λ b. at_step t.space t.at b t.calls) c ∙ sym (pick_yes _ _ c)

  pub step_in : {b : ℕ} → t.cut ≡ false → true ≡ ltb t.at (length script) → b ≡ get_or script t.at b
      → at_step t.space (t.at + 1) (eqb (b % 128) cut_code) t.calls ≡ stepped script t
  unfolding stepped counted
  step_in c l e =
      ap (λ b. at_step t.space (t.at + 1) (eqb (b % 128) cut_code) t.calls) (met script t.at l e) ∙ sym (pick_no _ _ c ∙ pick_yes _ _ (sym l))

  pub step_end : t.cut ≡ false → false ≡ ltb t.at (length script) → at_step t.space t.at t.cut t.calls ≡ stepped script t
  unfolding stepped counted
  step_end c l = ap (λ b. at_step t.space t.at b t.calls) c ∙ sym (pick_no _ _ c ∙ pick_no _ _ (sym l))

pub ruleset byte_tests = (byte_passes, byte_fails)

pub ruleset fates = (fate_cut, fate_end)

pub ruleset steps = (step_cut, step_in, step_end)
