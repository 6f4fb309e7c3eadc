-- A refusal's values in three places, zeros behind them.
use Rattle.std.specs.Prelude.{List, ℕ, get_or}
use Rattle.definition.specs.Numbers.{serialization_values, journal_values, values}
use Rattle.definition.specs.declared.Fault.{Fault}
use Rattle.definition.specs.declared.SerializationKind.{SerializationKind}
use Rattle.definition.specs.declared.JournalPart.{JournalPart}
use Rattle.numbers.specs.declared.Three.{Three}

abbrev pub three_of : ℕ → ℕ → ℕ → Three
three_of a b c = record { 0 = a; 1 = b; 2 = c }

abbrev pub three : List ℕ → Three
three l = three_of (get_or l 0 0) (get_or l 1 0) (get_or l 2 0)

unfoldable pub serialization_three : SerializationKind → Three
serialization_three k = three (serialization_values k)

unfoldable pub journal_three : JournalPart → Three
journal_three p = three (journal_values p)

unfoldable pub values_three : Fault → Three
values_three f = three (values f)
