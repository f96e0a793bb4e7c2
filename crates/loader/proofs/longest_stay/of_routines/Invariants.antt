use Rattle.image.specs.Raw.{image_of}
use Rattle.loader.specs.Stays.{AreFirstStays}
use Rattle.loader.proofs.longest_stay.of_routines.Given as goal

abbrev pub invariant-loop-number : goal.invariant-loop-number
invariant-loop-number l = AreFirstStays (image_of l.image) l.monitor l.number l.all.items
