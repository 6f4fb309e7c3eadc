-- The laws that the functions' proofs cite, over plain variables: places, digits and numbers.
use Rattle.std.proofs.Common.{◌≡◌, refl, sym, ap, ◌∙◌, Bool, true, false, [], ◌∷◌, ℕ, suc, ◌+◌, ◌-◌, ◌*◌, ◌^◌, ◌≤◌, ◌<◌, ltb, length, get_or, take, drop, arith, add-one, Option, Some, None, cond, ⊎_elim}
use Rattle.std.specs.Option.{unwrap_or}
use Rattle.std.specs.List.{position, position_or_len}
use Rattle.std.proofs.lemmas.Bool.{ltb-false}
use Rattle.std.proofs.lemmas.List.Sums.{prefix_len-le-length}
use Rattle.std.proofs.lemmas.List.{length-take, length-drop}
use Rattle.std.proofs.Math.ListN.{drop_of_length-le}
use Rattle.std.proofs.Math.Seq.{drop-cons}
use Rattle.std.specs.Char.{IsAsciiDigit, IsNotAsciiDigit}
use borrow.Author.Tests.{le-leb, lt-leb, lt-ltb, le-ltb}
use Rattle.definition.specs.Tools.{Bytes, pick}
use Rattle.definition.proofs.Choices.{pick_yes, pick_no}
use Rattle.text.specs.Words.{up_to, spaces, IsNextWord}
use Rattle.text.specs.Numerals.{among, numeral_from, numeral_of, digit_of, joined, pair_of}

-- ---- places

-- a place, or the length where there is none
or_length : (n m : ℕ) (b : Bool) → ltb n m ≡ b → n ≤ m → unwrap_or (cond b (Some n) None) m ≡ n
or_length n m true e h = refl
or_length n m false e h = let k = ltb-false n m e in omega arith

pub place : (p : ℕ → Bool) (s : Bytes) {o : Option ℕ} {r : ℕ} → o ≡ position p s → r ≡ unwrap_or o (length s) → r ≡ position_or_len p s
place p s e f =
    f ∙ ap (λ (x : Option ℕ). unwrap_or x (length s)) e ∙ or_length (position_or_len p s) (length s) _ refl (prefix_len-le-length _ s)

-- the next word, where r spaces stand in front of t, and n bytes of that are the word
pub next_is : {s t word rest : Bytes} {r n : ℕ} → r ≡ spaces s → t ≡ drop r s → n ≡ up_to 32 t → word ≡ take n t → rest ≡ drop n t → IsNextWord s word rest
next_is {s} {t} {word} {rest} {r} {n} a b c d e =
    record {
      is = rw (sym a, sym b, sym c) d;
      behind = rw (sym a, sym b, sym c) e;
      shorter = rw (d, e, b) (omega (arith, length-take n (drop r s), length-drop n (drop r s), length-drop r s));
    }

-- ---- a byte among others

module _ (low high : ℕ) {x : ℕ} where
  among_yes : low ≤ x → x ≤ high → among low high x ≡ true
  unfolding among
  among_yes h k = pick_yes _ _ (le-leb _ _ h) ∙ le-leb _ _ k

  among_below : x < low → among low high x ≡ false
  unfolding among
  among_below h = pick_no _ _ (lt-leb _ _ h)

  among_above : low ≤ x → high < x → among low high x ≡ false
  unfolding among
  among_above h k = pick_yes _ _ (le-leb _ _ h) ∙ lt-leb _ _ k

among_not : {x : ℕ} → IsNotAsciiDigit x → among 48 57 x ≡ false
among_not k = ⊎_elim (among_below 48 57) (λ h. among_above 48 57 (omega arith) h) k

-- ---- decimal numbers

-- the digits before i are read, and say n
pub record Reading (s : Bytes) (n i : ℕ) : Type 0 where
  pub fits : n < 2 ^ 64
  pub is : numeral_of s ≡ numeral_from n (drop i s)

pub no_digits : (s : Bytes) → length s ≡ 0 → None ≡ numeral_of s
unfolding numeral_of
no_digits [] e = refl
no_digits (x ∷ xs) e = absurd (omega arith)

pub reading_none : (s : Bytes) → (length s ≡ 0 → ⊥) → Reading s 0 0
unfolding numeral_of
reading_none [] f = absurd (f refl)
reading_none (x ∷ xs) f = record { fits = omega arith; is = refl }

module _ {s : Bytes} {n i : ℕ} (r : Reading s n i) where
  pub reading_over : length s ≤ i → Some n ≡ numeral_of s
  unfolding numeral_from
  reading_over h = sym (r.is ∙ ap (numeral_from n) (drop_of_length-le s h))

  module _ (h : i < length s) where
    abbrev pub x : ℕ
    x = get_or s i 0

    reading_at : numeral_of s
        ≡ pick (among 48 57 x) (pick (ltb (n * 10 + (x - 48)) (2 ^ 64)) (numeral_from (n * 10 + (x - 48)) (drop (suc i) s)) None) None
    unfolding numeral_from
    reading_at = r.is ∙ ap (numeral_from n) (drop-cons s i 0 h)

    pub reading_other : IsNotAsciiDigit x → None ≡ numeral_of s
    reading_other k = sym (reading_at ∙ pick_no _ _ (among_not k))

    module _ (d : IsAsciiDigit x) where
      pub reading_large : 2 ^ 64 ≤ n * 10 + (x - 48) → None ≡ numeral_of s
      reading_large l =
          sym (reading_at ∙ pick_yes _ _ (among_yes 48 57 d.0 d.1) ∙ pick_no _ _ (le-ltb _ _ l))

      pub reading_more : {m : ℕ} → m ≡ n * 10 + (x - 48) → m < 2 ^ 64 → Reading s m (i + 1)
      reading_more e f =
          let q : drop (i + 1) s ≡ drop (suc i) s = simp add-one in
          record {
            fits = f;
            is = rw (e, q) (reading_at ∙ pick_yes _ _ (among_yes 48 57 d.0 d.1) ∙ pick_yes _ _ (lt-ltb _ _ (omega (arith, e, f))));
          }

-- ---- hex

module _ (x : ℕ) where
  pub digit_decimal : 48 ≤ x → x < 58 → Some (x - 48) ≡ digit_of x
  unfolding digit_of
  digit_decimal h k = sym (pick_yes _ _ (among_yes 48 57 h (omega arith)))

  pub digit_capital : {v : ℕ} → 65 ≤ x → x < 71 → v ≡ x - 55 → Some v ≡ digit_of x
  unfolding digit_of
  digit_capital h k e =
      ap Some e
      ∙ sym (pick_no _ _ (among_above 48 57 (omega arith) (omega arith)) ∙ pick_yes _ _ (among_yes 65 70 h (omega arith)))

  pub digit_letter : {v : ℕ} → 97 ≤ x → x < 103 → v ≡ x - 87 → Some v ≡ digit_of x
  unfolding digit_of
  digit_letter h k e =
      ap Some e
      ∙ sym
      (pick_no _ _ (among_above 48 57 (omega arith) (omega arith)) ∙ pick_no _ _ (among_above 65 70 (omega arith) (omega arith))
      ∙ pick_yes _ _ (among_yes 97 102 h (omega arith)))

  digit_none : among 48 57 x ≡ false → among 65 70 x ≡ false → among 97 102 x ≡ false → None ≡ digit_of x
  unfolding digit_of
  digit_none a b c = sym (pick_no _ _ a ∙ pick_no _ _ b ∙ pick_no _ _ c)

  pub digit_low : x < 48 → None ≡ digit_of x
  digit_low h = digit_none (among_below 48 57 h) (among_below 65 70 (omega arith)) (among_below 97 102 (omega arith))

  pub digit_colon : 57 < x → x < 65 → None ≡ digit_of x
  digit_colon h k = digit_none (among_above 48 57 (omega arith) h) (among_below 65 70 k) (among_below 97 102 (omega arith))

  pub digit_bracket : 70 < x → x < 97 → None ≡ digit_of x
  digit_bracket h k = digit_none (among_above 48 57 (omega arith) (omega arith)) (among_above 65 70 (omega arith) h) (among_below 97 102 k)

  pub digit_high : 102 < x → None ≡ digit_of x
  digit_high h =
      digit_none (among_above 48 57 (omega arith) (omega arith)) (among_above 65 70 (omega arith) (omega arith)) (among_above 97 102 (omega arith) h)

-- a word of two bytes is its digits joined; any other is none
pub pair_other : (s : Bytes) → (length s ≡ 2 → ⊥) → None ≡ pair_of s
unfolding pair_of
pair_other [] f = refl
pair_other (x ∷ []) f = refl
pair_other (x ∷ y ∷ []) f = absurd (f refl)
pair_other (x ∷ y ∷ z ∷ xs) f = refl

pair_is : (s : Bytes) {h l : Option ℕ} → length s ≡ 2 → h ≡ digit_of (get_or s 0 0) → l ≡ digit_of (get_or s 1 0) → joined h l ≡ pair_of s
unfolding pair_of
pair_is [] e f g = absurd (omega arith)
pair_is (x ∷ []) e f g = absurd (omega arith)
pair_is (x ∷ y ∷ []) e f g = rw (f, g) refl
pair_is (x ∷ y ∷ z ∷ xs) e f g = absurd (omega arith)

module _ (s : Bytes) (two : length s ≡ 2) where
  pub pair_no_high : None ≡ digit_of (get_or s 0 0) → None ≡ pair_of s
  unfolding joined
  pair_no_high e = pair_is s two e refl

  module _ {h : ℕ} (e : Some h ≡ digit_of (get_or s 0 0)) where
    pub pair_no_low : None ≡ digit_of (get_or s 1 0) → None ≡ pair_of s
    unfolding joined
    pair_no_low f = pair_is s two e f

    pub pair_both : {l : ℕ} → Some l ≡ digit_of (get_or s 1 0) → Some (h * 16 + l) ≡ pair_of s
    unfolding joined
    pair_both f = pair_is s two e f
