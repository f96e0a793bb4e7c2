use Rattle.image.specs.Raw.{image_of}
use Rattle.valid_image.specs.Times.{ceiling_of}
use Rattle.compile_schedule.specs.Ranking.{AreDue}
use Rattle.compile_schedule.proofs.processes.due_ceilings.Given as goal

abbrev pub invariant-loop-number : goal.invariant-loop-number
invariant-loop-number l = AreDue (ceiling_of (image_of l.image)) l.number l.ceilings.items
