use Rattle.std.proofs.lemmas.Result.{err_from_is_err_and}
use Rattle.std.proofs.Common.{rules}
use Rattle.recovery.proofs.Entries.{redo_failed, redo_absent, redo_present}
use Rattle.items.proofs.Along.{fetch_short}
use Rattle.recovery.proofs.redo.Goals as goal

pub returns-in_err-fetched : goal.returns-in_err-fetched
returns-in_err-fetched c = let p = err_from_is_err_and c.from_residual.result c.from_residual.ensures.1 in rw (p.1, p.2) (redo_failed _ c.journal_key-journal_key.ensures c.requires c.fetch.ensures c.in_err-fetched.was)

pub returns-in_default : goal.returns-in_default
returns-in_default c = redo_absent _ c.journal_key-journal_key.ensures c.requires c.fetch.ensures c.in_ok-fetched.was c.in_default.is

pub copied-entry-requires : goal.copied-entry-requires
copied-entry-requires c = let s = fetch_short c.fetch.ensures c.in_ok-fetched.was c.in-Some.is in search rules

pub returns : goal.returns
returns c = redo_present _ c.journal_key-journal_key.ensures c.requires c.fetch.ensures c.in_ok-fetched.was c.in-Some.is c.copied-entry.ensures.front c.redo_entry.ensures
