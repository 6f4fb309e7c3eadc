-- Numbers in text: decimal numbers of at most 64 bits, and bytes in two hex digits.
use Rattle.std.specs.Prelude.{◌≡◌, Bool, false, [], ◌∷◌, ℕ, ◌+◌, ◌-◌, ◌*◌, ◌^◌, ◌<◌, leb, ltb, Option, Some, None, IfSome}
use Rattle.definition.specs.Tools.{Bytes, pick}

-- a byte between two others
unfoldable pub among : ℕ → ℕ → ℕ → Bool
among low high x = pick (leb low x) (leb x high) false

-- the digits that are left, behind those that say n
unfoldable pub numeral_from : ℕ → Bytes → Option ℕ
numeral_from n [] = Some n
numeral_from n (x ∷ xs) =
    pick (among 48 57 x)
    (pick (ltb (n * 10 + (x - 48)) (2 ^ 64)) (numeral_from (n * 10 + (x - 48)) xs) None) None

-- one digit or more
unfoldable pub numeral_of : Bytes → Option ℕ
numeral_of [] = None
numeral_of (x ∷ xs) = numeral_from 0 (x ∷ xs)

unfoldable pub digit_of : ℕ → Option ℕ
digit_of x =
    pick (among 48 57 x) (Some (x - 48))
    (pick (among 65 70 x) (Some (x - 55)) (pick (among 97 102 x) (Some (x - 87)) None))

pub record Digit (x : ℕ) (r : Option ℕ) : Type 0 where
  pub is : r ≡ digit_of x
  pub small : IfSome r (λ v. v < 16)

-- two digits, the higher first
unfoldable pub joined : Option ℕ → Option ℕ → Option ℕ
joined None l = None
joined (Some h) None = None
joined (Some h) (Some l) = Some (h * 16 + l)

unfoldable pub pair_of : Bytes → Option ℕ
pair_of [] = None
pair_of (x ∷ []) = None
pair_of (x ∷ y ∷ []) = joined (digit_of x) (digit_of y)
pair_of (x ∷ y ∷ z ∷ xs) = None
