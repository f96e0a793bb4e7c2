use Rattle.std.proofs.Common.{map, drop, take}
use Rattle.std.specs.List.{flat_map}
use Rattle.image.specs.Bytes.{routine_bytes}
use Rattle.image.specs.Raw.{routine_of}
use Rattle.image_bytes.specs.Fields.{routine_fields}
use Rattle.image_bytes.proofs.ImagePlacesPlaced.{Placed}
use Rattle.image_bytes.proofs.lists.routines_from.Given as goal

abbrev pub invariant-loop-routine : goal.invariant-loop-routine
invariant-loop-routine l =
    Placed routine_fields l.start (flat_map routine_bytes (map routine_of l.routines)) l.at (flat_map routine_bytes (map routine_of (drop l.routine-index l.routines))) l.places
    (map routine_of (take l.routine-index l.routines))
