-- A table of prints: a look along the places of a hash, and what a print that is written leaves of the others.
use mathlib.Core.Path.{◌≡◌, refl, sym, ap, ◌∙◌}
use mathlib.Core.Bool.{true, false}
use Prim.Native.Nat.{ℕ, zero, suc, ◌+◌, ◌-◌, ◌≤◌, ◌<◌}
use native.Mathlib.Omega.{arith}
use borrow.Author.Tests.{eq-eqb, ne_eqb, eqb-true, eqb-false}
use lib.Dec.{eqb}
use lib.ListN.{length, get_or, set, length-set}
use lib.Seq.{get_or-set_same, get_or-set_other}
use Rattle.definition.specs.Tools.{Bytes, pick}
use Rattle.definition.proofs.Choices.{pick_yes, pick_no, bool, true≢false}
use Rattle.prints.specs.Prints.{holds, look_length, print_of, first_place, noted, Notes}

-- ---- one place

module _ (n : ℕ) (t : Bytes) (i f : ℕ) where
  holds_gap : get_or t i 0 ≡ 0 → holds (suc n) t i f ≡ false
  unfolding holds
  holds_gap e = pick_yes _ _ (eq-eqb _ _ e)

  holds_past : (get_or t i 0 ≡ 0 → ⊥) → holds (suc n) t i f ≡ pick (eqb (get_or t i 0) f) true (holds n t (i + 1) f)
  unfolding holds
  holds_past z = pick_no _ _ (ne_eqb _ _ z)

  holds_hit : (get_or t i 0 ≡ 0 → ⊥) → get_or t i 0 ≡ f → holds (suc n) t i f ≡ true
  holds_hit z e = holds_past z ∙ pick_yes _ _ (eq-eqb _ _ e)

  holds_on : (get_or t i 0 ≡ 0 → ⊥) → (get_or t i 0 ≡ f → ⊥) → holds (suc n) t i f ≡ holds n t (i + 1) f
  holds_on z e = holds_past z ∙ pick_no _ _ (ne_eqb _ _ e)

-- ---- a print is written into a gap

module _ (t : Bytes) (i f : ℕ) (gap : get_or t i 0 ≡ 0) where
  same_there : (a : ℕ) → (get_or t a 0 ≡ 0 → ⊥) → get_or (set t i f) a 0 ≡ get_or t a 0
  same_there a z = get_or-set_other t i a f 0 (λ e. z (ap (λ (x : ℕ). get_or t x 0) e ∙ gap))

  holds_kept : (n a p : ℕ) → holds n t a p ≡ true → holds n (set t i f) a p ≡ true
  unfolding holds
  holds_kept zero a p h = h
  holds_kept (suc n) a p h =
      bool (eqb (get_or t a 0) 0)
      (λ y. absurd (true≢false h (holds_gap n t a p (eqb-true _ _ y))))
      (λ y.
      let z = eqb-false _ _ y in
      let e = same_there a z in
      let z2 : get_or (set t i f) a 0 ≡ 0 → ⊥ = λ q. z (sym e ∙ q) in
      bool (eqb (get_or t a 0) p)
      (λ w. holds_hit n (set t i f) a p z2 (e ∙ eqb-true _ _ w))
      (λ w.
      let o = eqb-false _ _ w in
      holds_on n (set t i f) a p z2 (λ q. o (sym e ∙ q)) ∙ holds_kept n (a + 1) p (sym (holds_on n t a p z o) ∙ h)))

  pub noted_kept : (g : ℕ) → noted t g ≡ true → noted (set t i f) g ≡ true
  unfolding noted
  noted_kept g h = holds_kept look_length (first_place g) (print_of g) h

-- ---- a look along the places: what it has passed says nothing of the print, in any table that agrees so far

pub record Along (t : Bytes) (first end f i : ℕ) : Type 0 where
  pub from : first ≤ i
  pub to : i ≤ end
  pub so : (u : Bytes) → ((j : ℕ) → j < i → get_or u j 0 ≡ get_or t j 0) → holds look_length u first f ≡ holds (end - i) u i f

pub along_first : (t : Bytes) (first end f : ℕ) → end ≡ first + look_length → Along t first end f first
along_first t first end f e =
    let n : look_length ≡ end - first = omega arith in
    record { from = omega arith; to = omega arith; so = λ u h. ap (λ (m : ℕ). holds m u first f) n }

module _ {t : Bytes} {first end f i : ℕ} (a : Along t first end f i) where
  module _ (l : i < end) where
    here : (u : Bytes) → ((j : ℕ) → j < i → get_or u j 0 ≡ get_or t j 0) → holds look_length u first f ≡ holds (suc (end - (i + 1))) u i f
    here u h = let n : end - i ≡ suc (end - (i + 1)) = omega arith in a.so u h ∙ ap (λ (m : ℕ). holds m u i f) n

    pub along_next : (get_or t i 0 ≡ 0 → ⊥) → (get_or t i 0 ≡ f → ⊥) → Along t first end f (i + 1)
    along_next z o =
        let x = a.from in
        record {
          from = omega arith;
          to = omega arith;
          so =
              λ u h.
              let e : get_or u i 0 ≡ get_or t i 0 = h i (omega arith) in
              here u (λ j q. h j (omega arith)) ∙ holds_on (end - (i + 1)) u i f (λ q. z (sym e ∙ q)) (λ q. o (sym e ∙ q));
        }

    pub along_hit : (get_or t i 0 ≡ 0 → ⊥) → get_or t i 0 ≡ f → holds look_length t first f ≡ true
    along_hit z e = here t (λ j q. refl) ∙ holds_hit (end - (i + 1)) t i f z e

    pub along_gap : get_or t i 0 ≡ 0 → holds look_length t first f ≡ false
    along_gap e = here t (λ j q. refl) ∙ holds_gap (end - (i + 1)) t i f e

    pub along_set : i < length t → 0 < f → holds look_length (set t i f) first f ≡ true
    along_set w p =
        let e : get_or (set t i f) i 0 ≡ f = get_or-set_same t i f 0 w in
        here (set t i f) (λ j q. get_or-set_other t i j f 0 (λ r. absurd (omega arith)))
        ∙ holds_hit (end - (i + 1)) (set t i f) i f (λ q. absurd (omega arith)) e

  pub along_over : end ≤ i → holds look_length t first f ≡ true
  unfolding holds
  along_over l = let n : end - i ≡ 0 = omega arith in a.so t (λ j q. refl) ∙ ap (λ (m : ℕ). holds m t i f) n

-- ---- the answers

module _ {t t₀ : Bytes} {h end i f : ℕ} (et : t ≡ t₀) (ef : f ≡ print_of h) (a : Along t (first_place h) end f i) where
  pub noted_new : i < end → get_or t i 0 ≡ 0 → i < length t → Notes t₀ h (set t i f) false
  unfolding noted
  noted_new l z w =
      rw (← et)
      (record {
        answer = sym (ap (holds look_length t (first_place h)) (sym ef) ∙ along_gap a l z);
        now_noted = ap (holds look_length (set t i f) (first_place h)) (sym ef) ∙ along_set a l w (omega arith);
        long = length-set t i f;
        kept = noted_kept t i f z;
      })

  pub noted_old : holds look_length t (first_place h) f ≡ true → Notes t₀ h t true
  unfolding noted
  noted_old y =
      let e : holds look_length t (first_place h) (print_of h) ≡ true = ap (holds look_length t (first_place h)) (sym ef) ∙ y in
      rw (← et) (record { answer = sym e; now_noted = e; long = refl; kept = λ g q. q })
