use Rattle.std.proofs.Common.{◌≡◌}
use Rattle.prints.specs.Prints.{first_place}
use Rattle.prints.proofs.Tables.{Along}
use Rattle.prints.proofs.note.Given as goal

abbrev pub invariant-loop-i : goal.invariant-loop-i
invariant-loop-i l = (l.table ≡ l.initial.table) × Along l.table (first_place l.h) l.i-end l.print l.i
