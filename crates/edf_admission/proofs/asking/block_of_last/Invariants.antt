use Rattle.edf_admission.specs.Steps.{IsLastSoFar}
use Rattle.edf_admission.proofs.asking.block_of_last.Given as goal

abbrev pub invariant-loop-other : goal.invariant-loop-other
invariant-loop-other l = IsLastSoFar l.image.image l.own.deadline l.other l.rank l.block
