use Rattle.std.proofs.Common.{map, drop, take}
use Rattle.image.specs.Bytes.{Second, processes_bytes}
use Rattle.image.specs.Raw.{process_of}
use Rattle.image_bytes.specs.Fields.{process_fields}
use Rattle.image_bytes.proofs.ImagePlacesPlaced.{Placed}
use Rattle.image_bytes.proofs.lists.processes_from.Given as goal

abbrev pub invariant-loop-number : goal.invariant-loop-number
invariant-loop-number l =
    Placed process_fields l.start (processes_bytes Second l.names (map process_of l.processes)) l.at (processes_bytes Second (drop l.number l.names) (map process_of (drop l.number l.processes)))
    l.places (map process_of (take l.number l.processes))
