-- The promise's words on scans say what they should: a map has one list under a prefix, and what `FirstOf` allows are
-- the first records of it.
use mathlib.Core.Path.{◌≡◌, refl, sym, ap, ◌∙◌, subst}
use mathlib.Core.Logic.{◌≢◌}
use mathlib.Core.Bool.{true, false}
use mathlib.Core.List.{List, [], ◌∷◌}
use Rattle.std.specs.Prelude.{None, Some}
use native.Mathlib.Omega.{arith}
use lib.ListN.{length, take, length-take}
use lib.Seq.{take_all}
use Rattle.definition.specs.Tools.{Bytes, eqs}
use Rattle.definition.specs.Region.{Item, item, has_key, fetched}
use Rattle.definition.specs.Scan.{rising, last_of, beyond}
use Rattle.definition.proofs.Choices.{pick_yes, pick_no, both, bool, cases, true≢false, eqs_refl, eqs_true}
use Rattle.definition.proofs.Codecs.{rising_irreflexive, rising_transitive}
use Rattle.definition.proofs.Items.{key_of, has_its_key}
use Rattle.reasons.proofs.StandsFor.{none≢some}
use Rattle.reasons.proofs.Listings.{Rising, found_after, not_beyond}
use Rattle.promise.specs.Promise.{Plain, rises, AllOf}
use Rattle.promise.specs.Beside.{FirstOf}
use Rattle.promise.proofs.AtBytes.{rising_order}

abbrev Rises : List Item → Type 0
Rises = Rising rising rising_order

to_rises : (is : List Item) → rises is ≡ true → Rises is
unfolding rises beyond
to_rises [] e = tt
to_rises (i ∷ []) e = (tt, tt)
to_rises (i ∷ (j ∷ is)) e = let h = both (rising i.key j.key) (rises (j ∷ is)) e in (h.0, to_rises (j ∷ is) h.1)

asymmetric : (a b : Bytes) → rising a b ≡ true → rising b a ≡ true → ⊥
asymmetric a b p q = true≢false (rising_transitive a b a p q) (rising_irreflexive a)

-- what stands behind an item is not its key again
not_behind : (i : Item) (is : List Item) → Rises (i ∷ is) → fetched i.key is ≡ None
unfolding beyond
not_behind i is r =
    cases (fetched i.key is) (λ e. e)
    (λ v e. absurd (true≢false (found_after rising rising_order (Some i.key) i.key is r.0 r.1 e) (rising_irreflexive i.key)))

first_of_two : (i : Item) (k : Bytes) (is : List Item) {v : Bytes} → fetched k (i ∷ is) ≡ Some v → i.key ≢ k → fetched k is ≡ Some v
unfolding fetched
first_of_two i k is e n = bool (has_key k i) (λ t. absurd (n (key_of k i t))) (λ f. sym (pick_no _ _ f) ∙ e)

-- all that is not beyond the last of `is` is the same in both
abbrev Same : List Item → List Item → Type 0
Same is all = (k : Bytes) → beyond rising (last_of None is) k ≡ false → fetched k is ≡ fetched k all

module _ (i : Item) (is : List Item) (j : Item) (all : List Item) (r : Rises (i ∷ is)) (q : Rises (j ∷ all)) (h : Same (i ∷ is) (j ∷ all)) where
  here : fetched i.key (j ∷ all) ≡ Some i.value
  unfolding last_of fetched
  here = sym (h i.key (not_beyond rising rising_order i.key i.key is r.0 r.1 (rising_irreflexive i.key)))
      ∙ pick_yes _ _ (has_its_key i.key i refl)

  same_key : j.key ≡ i.key
  unfolding last_of fetched beyond
  same_key =
      bool (eqs j.key i.key) (eqs_true j.key i.key)
      (λ f.
      let below : rising j.key i.key ≡ true = found_after rising rising_order (Some j.key) i.key all q.0 q.1
      (sym (pick_no _ _ (other f)) ∙ here) in
      let not_above : rising i.key j.key ≡ false = bool (rising i.key j.key) (λ t. absurd (asymmetric j.key i.key below t)) (λ n. n) in
      let there : fetched j.key (i ∷ is) ≡ Some j.value =
      h j.key (not_beyond rising rising_order i.key j.key is r.0 r.1 not_above) ∙ pick_yes _ _ (has_its_key j.key j refl) in
      absurd (true≢false (found_after rising rising_order (Some i.key) j.key is r.0 r.1
      (first_of_two i j.key is there (λ p. true≢false (eqs_refl i.key) (ap (λ x. eqs x i.key) p ∙ f)))) not_above))
    where
      other : eqs j.key i.key ≡ false → has_key i.key j ≡ false
      other f = unfold has_key in f

  same_value : j.value ≡ i.value
  unfolding fetched
  same_value = some_is (sym (pick_yes _ _ (has_its_key i.key j same_key)) ∙ here)
    where
      some_is : {a b : Bytes} → Some a ≡ Some b → a ≡ b
      some_is p = cc

  same_item : i ≡ j
  same_item = ap (λ (k : Bytes). item k i.value) (sym same_key) ∙ ap (λ (v : Bytes). item j.key v) (sym same_value)

  behind : (k : Bytes) → beyond rising (last_of None (i ∷ is)) k ≡ false → fetched k is ≡ fetched k all
  unfolding fetched
  behind k e =
      bool (has_key k i)
      (λ t.
      let p : i.key ≡ k = key_of k i t in
      subst (λ x. fetched x is ≡ None) p (not_behind i is r) ∙ sym (subst (λ x. fetched x all ≡ None) (same_key ∙ p) (not_behind j all q)))
      (λ f. sym (pick_no _ _ f) ∙ h k e ∙ pick_no _ _ (ap (has_key k) (sym same_item) ∙ f))

first : (is all : List Item) → Rises is → Rises all → Same is all → is ≡ take (length is) all
unfolding last_of fetched
first [] all r q h = refl
first (i ∷ is) [] r q h =
    absurd (none≢some (sym (h i.key (not_beyond rising rising_order i.key i.key is r.0 r.1 (rising_irreflexive i.key)))
    ∙ pick_yes (Some i.value) (fetched i.key is) (has_its_key i.key i refl)))
first (i ∷ []) (j ∷ all) r q h = ap (λ (x : Item). x ∷ []) (same_item i [] j all r q h)
first (i ∷ (x ∷ is)) (j ∷ all) r q h =
    ap (λ (y : Item). y ∷ x ∷ is) (same_item i (x ∷ is) j all r q h)
    ∙ ap (λ (l : List Item). j ∷ l) (first (x ∷ is) all r.1 q.1 (λ k e. behind i (x ∷ is) j all r q h k e))

-- the records that a scan wrote are the first of the map's list
pub first_records : {prefix : Bytes} {A : Plain} {is all : List Item} → FirstOf prefix A is → AllOf prefix A all → is ≡ take (length is) all
first_records {is = is} {all = all} x y = first is all (to_rises is x.in_order) (to_rises all y.in_order) (λ k e. x.complete k e ∙ sym (y.complete k))

-- and that list is one
pub one_list : {prefix : Bytes} {A : Plain} {is js : List Item} → AllOf prefix A is → AllOf prefix A js → is ≡ js
one_list {is = is} {js = js} x y =
    let p : is ≡ take (length is) js = first is js (to_rises is x.in_order) (to_rises js y.in_order) (λ k e. x.complete k ∙ sym (y.complete k)) in
    let q : js ≡ take (length js) is = first js is (to_rises js y.in_order) (to_rises is x.in_order) (λ k e. y.complete k ∙ sym (x.complete k)) in
    let m : length js ≡ length (take (length js) is) = ap (λ (l : List Item). length l) q in
    p ∙ take_all (length is) js (omega (arith, length-take (length js) is))
