use Rattle.std.proofs.Common.{◌≡◌, ◌≤◌, length, reverse, take}
use Rattle.message_expected.specs.Automaton as automaton
use Rattle.message_expected.proofs.automaton.find.Given as goal

abbrev pub invariant-loop-below : goal.invariant-loop-below
invariant-loop-below l =
    (l.below ≤ length l.stack) × (automaton.find l.levels (reverse (take l.below l.stack)) l.kind ≡ automaton.find l.fn.levels (reverse l.fn.stack) l.kind)

abbrev pub decreases-loop-below : goal.decreases-loop-below
decreases-loop-below l = l.below
