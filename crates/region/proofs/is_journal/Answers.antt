use Rattle.region.proofs.Journals.{not_four, not_zero, last_test}
use Rattle.region.proofs.is_journal.Goals as goal

pub returns-then-key-ne-JOURNAL_KEY_LEN : goal.returns-then-key-ne-JOURNAL_KEY_LEN
returns-then-key-ne-JOURNAL_KEY_LEN c = not_four _ c.if-key-ne-JOURNAL_KEY_LEN.true

pub returns-then-key-ne-RESERVED_PREFIX : goal.returns-then-key-ne-RESERVED_PREFIX
returns-then-key-ne-RESERVED_PREFIX c = not_zero _ c.if-key-ne-JOURNAL_KEY_LEN.false c.if-key-ne-RESERVED_PREFIX.true

pub returns : goal.returns
returns c = last_test _ c.if-key-ne-JOURNAL_KEY_LEN.false c.if-key-ne-RESERVED_PREFIX.false
