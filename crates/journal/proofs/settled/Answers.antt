use Rattle.journal.proofs.Committing.{settled_stays, settled_else}
use Rattle.journal.proofs.settled.Goals as goal

pub returns-in-JournalCorrupted : goal.returns-in-JournalCorrupted
returns-in-JournalCorrupted c = settled_stays c.in-JournalCorrupted.is

pub returns-in_default : goal.returns-in_default
returns-in_default c = settled_else _ c.in_default.not-JournalCorrupted
