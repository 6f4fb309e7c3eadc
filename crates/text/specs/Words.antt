-- The words of a line: runs of bytes that are no space, with spaces between them.
use Rattle.std.specs.Prelude.{◌≡◌, ◌==◌, ◌+◌, ◌≤◌, ℕ, not, length, take, drop}
use Rattle.std.specs.List.{position_or_len}
use Rattle.definition.specs.Tools.{Bytes}

-- how many bytes stand in front of the first b
abbrev pub up_to : ℕ → Bytes → ℕ
up_to b s = position_or_len (λ x. x == b) s

-- how many spaces stand in front
abbrev pub spaces : Bytes → ℕ
spaces s = position_or_len (λ x. not (x == 32)) s

-- the next word, behind the spaces that stand in front of it and up to the next space or the end, and what is left
abbrev pub word_of : Bytes → Bytes
word_of s = take (up_to 32 (drop (spaces s) s)) (drop (spaces s) s)

abbrev pub rest_of : Bytes → Bytes
rest_of s = drop (up_to 32 (drop (spaces s) s)) (drop (spaces s) s)

-- `shorter` follows, and whoever takes word after word finds it here
pub record IsNextWord (s word rest : Bytes) : Type 0 where
  pub is : word ≡ word_of s
  pub behind : rest ≡ rest_of s
  pub shorter : length word + length rest ≤ length s

-- the two words of s, and no third is left
pub record IsTwoWords (s first second : Bytes) : Type 0 where
  pub first_is : first ≡ word_of s
  pub second_is : second ≡ word_of (rest_of s)
  pub last : length (word_of (rest_of (rest_of s))) ≡ 0
