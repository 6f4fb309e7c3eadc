use mathlib.Core.Path.{sym, ap, ◌∙◌}
use Rattle.numbers.specs.Forms.{serialization_three, journal_three, values_three}
use Rattle.definition.specs.Numbers.{values}
use Rattle.numbers.proofs.values.Goals as goal

pub returns-in-Serialization : goal.returns-in-Serialization
unfolding serialization_three values_three values
returns-in-Serialization c = c.from.ensures ∙ sym (ap values_three c.in-Serialization.is)

pub returns-in-JournalCorrupted : goal.returns-in-JournalCorrupted
unfolding journal_three values_three values
returns-in-JournalCorrupted c = c.from-in-JournalCorrupted.ensures ∙ sym (ap values_three c.in-JournalCorrupted.is)
