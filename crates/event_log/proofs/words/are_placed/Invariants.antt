use Rattle.std.proofs.Common.{ℕ, ◌<◌, get_or}
use Rattle.image.specs.declared.names.ConditionName.{ConditionName}
use Rattle.event_log.proofs.words.are_placed.Given as goal

abbrev pub invariant-loop-condition : goal.invariant-loop-condition
invariant-loop-condition l = (i : ℕ) (d : ConditionName) → i < l.condition-index → (get_or l.list i d).mon < l.monitors
