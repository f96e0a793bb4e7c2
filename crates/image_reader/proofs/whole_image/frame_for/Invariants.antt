use Rattle.std.proofs.Common.{◌≡◌, drop, map}
use Rattle.image.specs.Raw.{process_of}
use Rattle.image_reader.specs.File.{frame_for}
use Rattle.image_reader.proofs.whole_image.frame_for.Given as goal

abbrev pub invariant-loop-process : goal.invariant-loop-process
invariant-loop-process l = frame_for l.event (map process_of (drop l.process-index l.processes)) ≡ frame_for l.event (map process_of l.processes)
