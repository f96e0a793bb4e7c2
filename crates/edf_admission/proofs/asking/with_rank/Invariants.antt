use Rattle.std.proofs.Common.{ℕ, ◌<◌}
use Rattle.edf_admission.specs.Steps.{HasRank}
use Rattle.edf_admission.proofs.asking.with_rank.Given as goal

abbrev pub invariant-loop-number : goal.invariant-loop-number
invariant-loop-number l = (k : ℕ) → k < l.number → HasRank l.image.image l.rank k → ⊥
