use Rattle.std.proofs.Common.{◌≡◌, ◌++◌, map, take}
use Rattle.std.specs.List.{flat_map}
use Rattle.image.specs.Bytes.{routine_bytes}
use Rattle.image.specs.Raw.{routine_of}
use Rattle.image.proofs.image.put_routines.Given as goal

abbrev pub invariant-loop-routine : goal.invariant-loop-routine
invariant-loop-routine l = l.out.items ≡ l.initial.out.items ++ flat_map routine_bytes (map routine_of (take l.routine-index l.routines))
