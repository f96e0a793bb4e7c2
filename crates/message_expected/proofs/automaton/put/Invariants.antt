use Rattle.std.proofs.Common.{◌≡◌, ◌≤◌, ◌++◌, length, reverse, take}
use Rattle.message_expected.proofs.automaton.put.Given as goal

abbrev pub invariant-loop-left : goal.invariant-loop-left
invariant-loop-left l = (l.left ≤ length l.symbols) × (l.stack.items ++ reverse (take l.left l.symbols) ≡ l.fn.stack.items ++ reverse l.symbols)

abbrev pub decreases-loop-left : goal.decreases-loop-left
decreases-loop-left l = l.left
