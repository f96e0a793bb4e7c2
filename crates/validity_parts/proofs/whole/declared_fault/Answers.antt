use Rattle.std.proofs.Common.{arith}
use Rattle.std.proofs.lemmas.List.{length-map}
use Rattle.image.specs.Raw.{process_of}
use Rattle.validity_parts.proofs.whole.declared_fault.Goals as goal

pub size_part_fault-requires-clause-processes : goal.size_part_fault-requires-clause-processes
size_part_fault-requires-clause-processes c = omega (arith, c.requires.ranges.limits.few, length-map c.args.raw.now.processes process_of)
