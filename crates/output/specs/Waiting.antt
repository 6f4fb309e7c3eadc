-- Bytes that wait in a buffer to be written. Where one more has no room they are written all, and it with them.
use Rattle.std.specs.Prelude.{[], ◌∷◌, ◌++◌, ℕ, zero, suc, ◌+◌, ◌/◌, ◌%◌, Bool, true, false, ltb, length, set, codes}
use Rattle.output.specs.Digits.{hex_digit_ascii, last_digits}
use Rattle.definition.specs.Tools.{Bytes, pick}

-- a buffer, of which the first `used` bytes wait
pub record Waiting : Type 0 where
  pub buffer : Bytes
  pub used : ℕ

abbrev pub waits : Bytes → ℕ → Waiting
waits buffer used = record { buffer = buffer; used = used }

-- what waits after one byte more: it stands behind the others, or nothing waits
unfoldable pub add_byte : Waiting → ℕ → Waiting
add_byte w b =
    pick (ltb w.used (length w.buffer)) (waits (set w.buffer w.used b) (w.used + 1)) (waits w.buffer 0)

-- the same for each byte in turn
unfoldable pub add_bytes : Waiting → Bytes → Waiting
add_bytes w [] = w
add_bytes w (b ∷ bs) = add_bytes (add_byte w b) bs

-- a number's decimal digits without zeros in front: those of its tenth, where that is not 0, and then the last one.
-- `most` bounds how many stand before the last: a definition has to end
unfoldable pub decimal_in : ℕ → ℕ → Bytes
decimal_in zero n = hex_digit_ascii (n % 10) ∷ []
decimal_in (suc most) n = pick (ltb n 10) [] (decimal_in most (n / 10)) ++ (hex_digit_ascii (n % 10) ∷ [])

-- n bounds it too: a tenth is less than its number
unfoldable pub decimal_of : ℕ → Bytes
decimal_of n = decimal_in n n

-- an answer as a word: `yes` or `no`
abbrev pub truth_of : Bool → Bytes
truth_of true = codes "yes"
truth_of false = codes "no"

-- bytes in hex: two digits for each
unfoldable pub hex_of : Bytes → Bytes
hex_of [] = []
hex_of (b ∷ bs) = last_digits 16 2 b ++ hex_of bs
