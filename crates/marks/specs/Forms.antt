-- The form of a marker's contract: what an answer says of the definition, and what a caller may know besides.
use Rattle.std.specs.Prelude.{◌≡◌, ℕ, ◌<◌, Option, Some, None}
use Rattle.definition.specs.Tools.{Bytes}
use Rattle.definition.specs.Codec.{marker_of}

-- a marker's count has two bytes
abbrev pub Short : Option ℕ → Type 0
Short (Some n) = n < 65536
Short None = Unit {0}

pub record MarkerReads (v : Bytes) (m : Option ℕ) : Type 0 where
  pub is : m ≡ marker_of v
  pub short : Short m
