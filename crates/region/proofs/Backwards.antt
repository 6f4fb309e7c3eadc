-- The items that a walk has passed are kept the last one first, so that one more stands in front of them: the list
-- backwards, and what holds of it if it holds of the list.
use mathlib.Core.Path.{◌≡◌, refl, sym, ap, ◌∙◌}
use mathlib.Core.Bool.{true, false}
use mathlib.Core.List.{List, [], ◌∷◌, ◌++◌, append_assoc, append-nil}
use Rattle.definition.specs.Tools.{Bytes, pick}
use Rattle.definition.specs.Region.{Item, has_key, has, distinct}
use Rattle.definition.proofs.Choices.{pick_yes, pick_no, pick_same, bool, true≢false}
use Rattle.definition.proofs.Items.{neither, unless, key_of, has_its_key, distinct_snoc}
use Rattle.region.specs.Classes.{onto, back}

pub onto_append : (d is : List Item) → onto d is ≡ onto d [] ++ is
unfolding onto
onto_append [] is = refl
onto_append (i ∷ d) is =
    onto_append d (i ∷ is)
    ∙ sym (ap (λ (l : List Item). l ++ is) (onto_append d (i ∷ [])) ∙ append_assoc (onto d []) (i ∷ []) is)

onto_onto : (d is z : List Item) → onto (onto d is) z ≡ onto is (d ++ z)
unfolding onto
onto_onto [] is z = refl
onto_onto (i ∷ d) is z = onto_onto d (i ∷ is) z

pub back_back : (d : List Item) → back (back d) ≡ d
unfolding onto
back_back d = onto_onto d [] [] ∙ append-nil d

module _ (k : Bytes) where
  -- a key that is none of all is none of either part, and back
  pub none_of : (d is : List Item) → has k (onto d is) ≡ false → (has k d ≡ false) × (has k is ≡ false)
  unfolding onto has pick
  none_of [] is e = (refl, e)
  none_of (i ∷ d) is e =
      let r = none_of d (i ∷ is) e in
      let m = neither (has_key k i) (has k is) r.1 in
      (rw m.0 r.0, m.1)

  of_none : (d is : List Item) → has k d ≡ false → has k is ≡ false → has k (onto d is) ≡ false
  unfolding onto has pick
  of_none [] is e f = f
  of_none (i ∷ d) is e f = let m = neither (has_key k i) (has k d) e in of_none d (i ∷ is) m.1 (rw m.0 f)

  there : (a b : List Item) (i : Item) → i.key ≡ k → has k (a ++ i ∷ b) ≡ true
  unfolding has pick
  there [] b i e = rw (has_its_key k i e)
  there (x ∷ a) b i e = bool (has_key k x) (λ y. rw y) (λ f. rw f (there a b i e))

pub twice : (a b : List Item) (i : Item) → has i.key a ≡ true → distinct (a ++ i ∷ b) ≡ false
unfolding has distinct
twice [] b i e = absurd (true≢false e refl)
twice (x ∷ a) b i e =
    bool (has_key i.key x)
    (λ y. pick_yes _ _ (there x.key a b i (sym (key_of i.key x y))))
    (λ f. ap (pick _ false) (twice a b i (sym (pick_no _ _ f) ∙ e)) ∙ pick_same _ false)

pub distinct_back : (d : List Item) → distinct d ≡ true → distinct (back d) ≡ true
unfolding distinct onto has
distinct_back [] e = refl
distinct_back (i ∷ d) e =
    let h = unless (has i.key d) (distinct d) e in
    ap distinct (onto_append d (i ∷ [])) ∙ distinct_snoc (back d) i (distinct_back d h.1) (of_none i.key d [] h.0 refl)
