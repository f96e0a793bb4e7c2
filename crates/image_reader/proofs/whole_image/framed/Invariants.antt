use Rattle.std.proofs.Common.{◌≡◌, ◌++◌, drop, map}
use Rattle.image.specs.Raw.{process_of}
use Rattle.image_reader.specs.File.{framed}
use Rattle.image_reader.proofs.whole_image.framed.Given as goal

abbrev pub invariant-loop-at : goal.invariant-loop-at
invariant-loop-at l = l.framed ++ framed l.at (drop l.at l.events) (map process_of l.processes) ≡ framed 0 l.events (map process_of l.processes)
