use Rattle.std.proofs.Common.{◌<◌, ℕ}
use Rattle.replay_state.specs.View.{config_of}
use Rattle.replay_accept.specs.Running.{program_of}
use Rattle.replay_reason_spec.specs.Reasons.{ActsNext}
use Rattle.replay_reason.proofs.acting.first_ready.Given as goal

abbrev pub invariant-loop-process : goal.invariant-loop-process
invariant-loop-process l = (k : ℕ) → k < l.process → ActsNext (program_of l.rules) (config_of l.config) k → ⊥
