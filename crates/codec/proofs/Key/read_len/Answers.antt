use Rattle.codec.proofs.Laws.{read_whole}
use Rattle.codec.proofs.Key.read_len.Goals as goal

pub returns : goal.returns
returns c = read_whole _ c.in_ok-taken.ensures c.if-taken.false c.if-buffer-taken.false
