-- the input keeps its length, what is read and not handed out lies in it, and what is held lies in the line
use Rattle.std.proofs.Common.{◌≡◌, ◌≤◌, length, IfSome}
use Rattle.text.proofs.read_line.Given as goal

abbrev pub invariant-loop : goal.invariant-loop
invariant-loop g l =
    (length l.input ≡ length l.fn.input) × (l.unread.from ≤ l.unread.to) × (l.unread.to ≤ length l.input)
    × IfSome l.held (λ len. len ≤ length l.line)
