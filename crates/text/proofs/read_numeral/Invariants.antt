use Rattle.text.proofs.Laws.{Reading}
use Rattle.text.proofs.read_numeral.Given as goal

abbrev pub invariant-loop-byte : goal.invariant-loop-byte
invariant-loop-byte l = Reading l.word l.value l.byte-index
