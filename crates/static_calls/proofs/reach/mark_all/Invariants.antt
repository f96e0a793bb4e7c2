use Rattle.std.proofs.Common.{take}
use Rattle.static_calls.specs.Marks.{AreMarked}
use Rattle.static_calls.proofs.reach.mark_all.Given as goal

abbrev pub invariant-loop-node : goal.invariant-loop-node
invariant-loop-node l = AreMarked l.initial.marks l.initial.found.items (take l.node-index l.nodes) l.marks l.found.items
