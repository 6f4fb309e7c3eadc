-- The laws of the bytes that wait: one byte more, the loops over bytes, and a number's digits.
use Rattle.std.proofs.Common.{◌≡◌, refl, sym, ap, ◌∙◌, [], ◌∷◌, ◌++◌, ℕ, zero, suc, ◌+◌, ◌-◌, ◌/◌, ◌%◌, ◌^◌, ◌≤◌, ◌<◌, ltb, length, get_or, drop, arith, add-one, sub-one}
use Rattle.std.proofs.Math.Nat.{pow-suc}
use Rattle.std.proofs.Math.ListN.{set, drop_of_length-le}
use Rattle.std.proofs.Math.Seq.{drop-cons, append_snoc}
use Rattle.std.proofs.lemmas.List.{drop-set}
use borrow.Author.Tests.{lt-ltb, le-ltb}
use Rattle.output.specs.Digits.{hex_digit_ascii, last_digits}
use Rattle.definition.specs.Tools.{Bytes, pick}
use Rattle.definition.proofs.Choices.{pick_yes, pick_no}
use Rattle.output.specs.Waiting.{Waiting, waits, add_byte, add_bytes, decimal_in, decimal_of, hex_of}

-- ---- one byte

module _ (out : Bytes) (used b : ℕ) where
  pub added : used < length out → waits (set out used b) (used + 1) ≡ add_byte (waits out used) b
  unfolding add_byte
  added h = sym (pick_yes _ _ (lt-ltb _ _ h))

  pub flushed : {r : ℕ} → length out ≤ used → r ≡ 0 → waits out r ≡ add_byte (waits out used) b
  unfolding add_byte
  flushed h e = ap (waits out) e ∙ sym (pick_no _ _ (le-ltb _ _ h))

-- ---- bytes in turn

add_append : (w : Waiting) (s t : Bytes) → add_bytes w (s ++ t) ≡ add_bytes (add_bytes w s) t
unfolding add_bytes
add_append w [] t = refl
add_append w (b ∷ s) t = add_append (add_byte w b) s t

at_place : (s : Bytes) (i : ℕ) → i < length s → drop i s ≡ get_or s i 0 ∷ drop (i + 1) s
at_place s i h = rw (add-one, drop-cons s i 0)

-- the loops stand at i: what is left of s, put behind what waits, makes what all of it was to make
module _ {made : Waiting} (w : Waiting) (s : Bytes) {i : ℕ} where
  pub put_more : {w' : Waiting} → made ≡ add_bytes w (drop i s) → i < length s → w' ≡ add_byte w (get_or s i 0) → made ≡ add_bytes w' (drop (i + 1) s)
  unfolding add_bytes
  put_more e h f = e ∙ ap (add_bytes w) (at_place s i h) ∙ rw f

  pub put_all : made ≡ add_bytes w (drop i s) → length s ≤ i → w ≡ made
  unfolding add_bytes
  put_all e h = sym (e ∙ ap (add_bytes w) (drop_of_length-le s h))

  pub hex_more : {w' : Waiting} → made ≡ add_bytes w (hex_of (drop i s)) → i < length s → w' ≡ add_bytes w (last_digits 16 2 (get_or s i 0))
      → made ≡ add_bytes w' (hex_of (drop (i + 1) s))
  unfolding hex_of
  hex_more e h f =
      e ∙ ap (λ (x : Bytes). add_bytes w (hex_of x)) (at_place s i h) ∙ add_append w (last_digits 16 2 (get_or s i 0)) (hex_of (drop (i + 1) s)) ∙ rw f

  pub hex_all : made ≡ add_bytes w (hex_of (drop i s)) → length s ≤ i → w ≡ made
  unfolding hex_of add_bytes
  hex_all e h = sym (e ∙ ap (λ (x : Bytes). add_bytes w (hex_of x)) (drop_of_length-le s h))

-- ---- a number's digits

-- any bound will do on how many stand before the last
bounded : (a b n : ℕ) → n ≤ a → n ≤ b → decimal_in a n ≡ decimal_in b n
unfolding decimal_in pick
bounded zero zero n p q = refl
bounded zero (suc b) zero p q = refl
bounded zero (suc b) (suc n) p q = absurd (omega arith)
bounded (suc a) zero zero p q = refl
bounded (suc a) zero (suc n) p q = absurd (omega arith)
bounded (suc a) (suc b) zero p q = refl
bounded (suc a) (suc b) (suc n) p q =
    ap (λ (x : Bytes). pick (ltb (suc n) 10) [] x ++ (hex_digit_ascii (suc n % 10) ∷ []))
    (bounded a b (suc n / 10) (omega arith) (omega arith))

-- a number below ten is its one digit; another's last stands behind those of its tenth
one_digit : (n : ℕ) → n < 10 → decimal_of n ≡ hex_digit_ascii (n % 10) ∷ []
unfolding decimal_of decimal_in
one_digit zero h = refl
one_digit (suc n) h =
    ap (λ (x : Bytes). x ++ (hex_digit_ascii (suc n % 10) ∷ [])) (pick_yes _ _ (lt-ltb _ _ h))

more_digits : (n : ℕ) → 10 ≤ n → decimal_of n ≡ decimal_of (n / 10) ++ (hex_digit_ascii (n % 10) ∷ [])
unfolding decimal_of decimal_in
more_digits zero h = absurd (omega arith)
more_digits (suc n) h =
    ap (λ (x : Bytes). x ++ (hex_digit_ascii (suc n % 10) ∷ []))
    (pick_no _ _ (le-ltb _ _ h) ∙ bounded n (suc n / 10) (suc n / 10) (omega arith) (omega arith))

-- the loop over digits: those of the rest stand before those at the end of the text, from `at` on
module _ (text : Bytes) (at g : ℕ) where
  in_front : 0 < at → at ≤ length text → drop (at - 1) (set text (at - 1) g) ≡ g ∷ drop at text
  in_front p q =
      let e : at - 1 + 1 ≡ at = omega arith in
      drop-set text (at - 1) g (omega arith) ∙ ap (λ (x : ℕ). g ∷ drop x text) e

  -- where the tenth is 0 it was the last digit; else the tenth's are left
  module _ (n rest : ℕ) (e : decimal_of n ≡ decimal_of rest ++ drop at text) (p : 0 < at) (q : at ≤ length text) (f : g ≡ hex_digit_ascii (rest % 10)) where
    pub digits_last : rest / 10 ≡ 0 → drop (at - 1) (set text (at - 1) g) ≡ decimal_of n
    digits_last z =
        in_front p q ∙ ap (λ (x : ℕ). x ∷ drop at text) f
        ∙ sym (e ∙ ap (λ (x : Bytes). x ++ drop at text) (one_digit rest (omega arith)))

    pub digits_more : 0 < rest / 10 → decimal_of n ≡ decimal_of (rest / 10) ++ drop (at - 1) (set text (at - 1) g)
    digits_more z =
        e ∙ ap (λ (x : Bytes). x ++ drop at text) (more_digits rest (omega arith))
        ∙ append_snoc (decimal_of (rest / 10)) (hex_digit_ascii (rest % 10)) (drop at text)
        ∙ ap (λ (x : Bytes). decimal_of (rest / 10) ++ x) (ap (λ (x : ℕ). x ∷ drop at text) (sym f) ∙ sym (in_front p q))

-- a tenth has room in one digit less
pub room : (rest at : ℕ) → 0 < at → rest < 10 ^ at → rest / 10 < 10 ^ (at - 1)
room rest zero p h = absurd (omega arith)
room rest (suc at) p h = let e = pow-suc 10 at in rw sub-one (omega arith)

-- who has two digits or more has room for two
pub another : (rest at : ℕ) → rest < 10 ^ at → 0 < rest / 10 → 0 < at - 1
another rest zero h z = absurd (omega arith)
another rest (suc zero) h z = absurd (omega arith)
another rest (suc (suc at)) h z = omega arith
