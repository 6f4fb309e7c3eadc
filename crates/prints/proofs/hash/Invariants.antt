use Rattle.std.proofs.Common.{◌≡◌, ◌%◌, ◌<◌, length}
use Rattle.prints.specs.Prints.{word, hash_from}
use Rattle.prints.proofs.hash.Given as goal

abbrev pub invariant-loop-left : goal.invariant-loop-left
invariant-loop-left l = (l.h < word) × (hash_from (length l.key % word) l.key ≡ hash_from l.h l.left)

abbrev pub decreases-loop-left : goal.decreases-loop-left
decreases-loop-left l = length l.left
