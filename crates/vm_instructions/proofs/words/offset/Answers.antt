-- The differences are within 64 bits.
use Rattle.std.proofs.Common.{arith}
use Rattle.std.proofs.lemmas.Int.{ints}
use Rattle.vm_instructions.proofs.words.offset.Goals as goal
use Rattle.vm_instructions.proofs.words.offset.Goals.{then-k-lt0-via-then-k-lt0, then-k-lt0-via-else-k-lt0+then-k-from}

pub returns-then-k-lt0 : goal.returns-then-k-lt0
returns-then-k-lt0 c = elim c.then-k-lt0.branch [ then-k-lt0-via-then-k-lt0 w ↦ grind (arith, ints) | then-k-lt0-via-else-k-lt0+then-k-from w ↦ grind (arith, ints) ]

pub returns : goal.returns
returns c = (grind (arith, ints), omega (arith, ints), omega (arith, ints), omega (arith, ints))
