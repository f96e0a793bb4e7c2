use Rattle.std.proofs.Common.{◌≡◌, map, take}
use Rattle.edf_machine.specs.Marks.{first_kept}
use Rattle.edf_machine.proofs.marks.first_marks.Given as goal

abbrev pub invariant-loop-deadline : goal.invariant-loop-deadline
invariant-loop-deadline l = l.marks.items ≡ map first_kept (take l.deadline-index l.deadlines)
