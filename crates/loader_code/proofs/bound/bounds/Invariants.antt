use Rattle.image.specs.Raw.{image_of}
use Rattle.loader_code.specs.Seen.{AreFirstBounds}
use Rattle.loader_code.proofs.bound.bounds.Given as goal

abbrev pub invariant-loop-number : goal.invariant-loop-number
invariant-loop-number l = AreFirstBounds (image_of l.image) l.number l.all.items
