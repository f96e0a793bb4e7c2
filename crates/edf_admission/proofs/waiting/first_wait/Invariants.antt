use Rattle.std.proofs.Common.{ℕ, ◌<◌}
use Rattle.edf_admission.specs.Admitted.{IsWait}
use Rattle.edf_admission.proofs.waiting.first_wait.Given as goal

abbrev pub invariant-loop-at : goal.invariant-loop-at
invariant-loop-at l = (a : ℕ) → a < l.at → IsWait l.shape.image a → ⊥
