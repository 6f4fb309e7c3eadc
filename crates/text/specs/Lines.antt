-- Lines of the input, and what is held of one.
use Rattle.std.specs.Prelude.{◌≡◌, ℕ, zero, suc, ◌++◌, ◌+◌, ◌≤◌, ◌<◌, leb, length, take, drop, [], Bool, false, is_some, Option, Some, None, IfSome, MatchOption}
use Rattle.definition.specs.Tools.{Bytes}
use Rattle.text.specs.declared.Line.{Line}
use Rattle.text.specs.declared.Line.TheVariants.{Whole, TooLong, Over}

-- a whole line's bytes are the first of the line buffer
abbrev pub InLine : Bytes → Line → Type 0
InLine line (Whole len) = len ≤ length line
InLine line TooLong = Unit {0}
InLine line Over = Unit {0}

-- what is in use of a buffer after p came: p behind what was, if there is room; no other byte changes, and none without
pub record Appends (buffer : Bytes) (used : ℕ) (p after : Bytes) (r : Option ℕ) : Type 0 where
  pub long : length after ≡ length buffer
  pub is : MatchOption r ((length buffer < used + length p) × (after ≡ buffer))
      (λ end. (end ≡ used + length p) × (end ≤ length buffer) × (after ≡ take used buffer ++ (p ++ drop end buffer)) × (take end after ≡ take used buffer ++ p))

-- the bytes that are held of a line: none of one that is too long
abbrev pub held_of : Bytes → Option ℕ → Bytes
held_of line None = []
held_of line (Some len) = take len line

-- whether p may be held behind them
abbrev pub holds_all : Bytes → Option ℕ → Bytes → Bool
holds_all line None p = false
holds_all line (Some len) p = leb (len + length p) (length line)

-- what is held after p came: p behind what was held, if there is room; and nothing any more once there was none
pub record Holds (line : Bytes) (h : Option ℕ) (p after : Bytes) (r : Option ℕ) : Type 0 where
  pub long : length after ≡ length line
  pub inside : IfSome r (λ len. len ≤ length line)
  pub fits : is_some r ≡ holds_all line h p
  pub is : IfSome r (λ len. take len after ≡ held_of line h ++ p)

-- the line that ended, of which so much is held, or all was too much
abbrev pub whole : Option ℕ → Line
whole None = TooLong
whole (Some len) = Whole len

-- the same at the end of the input: nothing held is no line
abbrev pub last_of : Option ℕ → Line
last_of None = TooLong
last_of (Some zero) = Over
last_of (Some (suc n)) = Whole (suc n)
