use Rattle.std.proofs.Common.{map, drop, take}
use Rattle.image.specs.Bytes.{monitors_bytes}
use Rattle.image.specs.Raw.{monitor_of}
use Rattle.image_reader.specs.Grammar.{monitor_format}
use Rattle.image_bytes.proofs.ImagePlacesPlaced.{Placed}
use Rattle.image_bytes.proofs.lists.monitors_from.Given as goal

abbrev pub invariant-loop-number : goal.invariant-loop-number
invariant-loop-number l =
    Placed monitor_format l.start (monitors_bytes l.names (map monitor_of l.monitors)) l.at (monitors_bytes (drop l.number l.names) (map monitor_of (drop l.number l.monitors))) l.places
    (map monitor_of (take l.number l.monitors))
