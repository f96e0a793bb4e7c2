use Rattle.image.specs.Raw.{image_of}
use Rattle.validity_parts.proofs.Needs.{ranks_right}
use Rattle.validity_parts.proofs.whole.times_fault.Goals as goal

pub bounds_fault-requires-clause-ranks : goal.bounds_fault-requires-clause-ranks
bounds_fault-requires-clause-ranks c = ranks_right (image_of c.args.raw.now) c.in-None.ensures
