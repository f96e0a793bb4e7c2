use Rattle.std.proofs.Common.{◌≡◌, map, take}
use Rattle.image.specs.Raw.{image_of}
use Rattle.image.specs.declared.raw.RawProcess.{RawProcess}
use Rattle.valid_image.specs.Times.{needed_block}
use Rattle.compile_schedule.proofs.processes.due_blocks.Given as goal

abbrev pub invariant-loop-process : goal.invariant-loop-process
invariant-loop-process l = l.blocks.items ≡ map (λ (p : RawProcess). needed_block (image_of l.image) p.rank) (take l.process-index l.process-items)
