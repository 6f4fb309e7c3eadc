-- What each return of the functions says, over plain variables.
use mathlib.Core.Path.{◌≡◌, refl, sym, ap, ap₂, ◌∙◌}
use mathlib.Core.Bool.{Bool, true, false}
use mathlib.Core.List.{[], ◌∷◌}
use Prim.Native.Nat.{ℕ, ◌+◌, ◌/◌, ◌%◌, ◌-◌, ◌<◌}
use native.Mathlib.Omega.{arith}
use lib.ListN.{length, get_or}
use lib.Dec.{eqb, ltb}
use borrow.Author.Tests.{ne_eqb, eq-eqb}
use Rattle.definition.specs.Tools.{Bytes}
use Rattle.definition.specs.Codec.{reserved, journal_key, marker, be16, be16_at, marker_sum, marker_of}
use Rattle.definition.specs.Recovery.{too_many}
use Rattle.definition.specs.Space.{user_count}
use Rattle.definition.proofs.Choices.{picked, passed, pick_yes, pick_no}
use Rattle.std.specs.Prelude.{Option, Some, None, option_copied, slice_get}
use Rattle.std.specs.Option.{option_eq}
use Rattle.std.specs.Int.{to_be_bytes}
use Rattle.std.proofs.Common.{Bor, w16}
use Rattle.marks.specs.Forms.{MarkerReads}

-- a look at the first byte, by reference as the code has it
pub reserved_first : (k : Bytes) (first : Option (Bor ℕ)) (zero : Bor ℕ) → option_copied first ≡ slice_get k 0 → zero.now ≡ 0
    → option_eq (λ x y. eqb x.now y.now) first (Some zero) ≡ reserved k
unfolding reserved
reserved_first [] None zero e z = refl
reserved_first [] (Some x) zero e z = let w : ◌≡◌ {A = ℕ} 0 1 = cc in absurd (omega arith)
reserved_first (b ∷ k) None zero e z = let w : ◌≡◌ {A = ℕ} 0 1 = cc in absurd (omega arith)
reserved_first (b ∷ k) (Some x) zero e z = let w : x.now ≡ b = cc in ap₂ eqb w z

-- a number's two bytes, as the library has them
two_bytes : (n : ℕ) → n < 65536 → to_be_bytes w16 n ≡ be16 n
unfolding be16
two_bytes n h = let high : n / 256 % 256 ≡ n / 256 = omega (arith, h) in ap (λ (m : ℕ). m ∷ n % 256 ∷ []) high

pub journal_bytes : (i : ℕ) (s : Bytes) → i < 65536 → s ≡ to_be_bytes w16 i → 0 ∷ 106 ∷ get_or s 0 0 ∷ get_or s 1 0 ∷ [] ≡ journal_key i
unfolding journal_key be16
journal_bytes i s h e = ap (λ (x : Bytes). 0 ∷ 106 ∷ get_or x 0 0 ∷ get_or x 1 0 ∷ []) (e ∙ two_bytes i h)

pub marker_bytes : (n : ℕ) (s t : Bytes) → n < 65536 → s ≡ to_be_bytes w16 n → t ≡ to_be_bytes w16 (65535 - n)
    → get_or s 0 0 ∷ get_or s 1 0 ∷ get_or t 0 0 ∷ get_or t 1 0 ∷ [] ≡ marker n
unfolding marker be16
marker_bytes n s t h e f =
    ap₂ (λ (x y : Bytes). get_or x 0 0 ∷ get_or x 1 0 ∷ get_or y 0 0 ∷ get_or y 1 0 ∷ [])
    (e ∙ two_bytes n h) (f ∙ two_bytes (65535 - n) (omega arith))

pub count_none : (k : Bytes) {r : Bool} → r ≡ reserved k → r ≡ true → 0 ≡ user_count k
unfolding user_count
count_none k e h = sym (pick_yes _ _ (sym e ∙ h))

pub count_one : (k : Bytes) {r : Bool} → r ≡ reserved k → r ≡ false → 1 ≡ user_count k
unfolding user_count
count_one k e h = sym (pick_no _ _ (sym e ∙ h))

module _ (v : Bytes) where
  pub marker_long : (length v ≡ 4 → ⊥) → MarkerReads v None
  unfolding marker_of
  marker_long h = record { is = passed _ _ _ (ne_eqb _ _ h) refl; short = tt }

  module _ (h : length v ≡ 4) {a b : ℕ} (ea : a ≡ be16_at v 0) (eb : b ≡ be16_at v 2) where
    both : be16_at v 0 + be16_at v 2 ≡ a + b
    both = ap₂ (λ (x y : ℕ). x + y) (sym ea) (sym eb)

    pub marker_torn : (a + b ≡ marker_sum → ⊥) → MarkerReads v None
    unfolding marker_of
    marker_torn n =
        let z : be16_at v 0 + be16_at v 2 ≡ marker_sum → ⊥ = λ e. n (sym both ∙ e) in
        record { is = picked _ _ _ (eq-eqb _ _ h) (passed _ _ _ (ne_eqb _ _ z) refl); short = tt }

    pub marker_counts : a < 65536 → a + b ≡ marker_sum → MarkerReads v (Some a)
    unfolding marker_of
    marker_counts l e =
        record { is = picked _ _ _ (eq-eqb _ _ h) (picked _ _ _ (eq-eqb _ _ (both ∙ e)) (ap Some ea)); short = l }

-- ---- a marker's count

pub many_erased : (len count : ℕ) → count ≡ 65535 → true ≡ too_many len count
unfolding too_many
many_erased len count e = sym (pick_yes _ _ (eq-eqb _ _ e))

pub many_else : (len count : ℕ) → (count ≡ 65535 → ⊥) → ltb (len / 15) count ≡ too_many len count
unfolding too_many
many_else len count e = sym (pick_no _ _ (ne_eqb _ _ e))

-- ---- what each return says

pub ruleset counts = (count_none, count_one)

pub ruleset marker_reads = (marker_long, marker_torn, marker_counts)

pub ruleset many_tests = (many_erased, many_else)
