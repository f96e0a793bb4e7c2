use Rattle.std.proofs.Common.{◌≡◌, ◌<◌, ℕ, [], length}
use Rattle.std.specs.Prelude.{slice_get, unwrap_or}
use Rattle.event_log.specs.Line.{condition_name}
use Rattle.event_log.proofs.numbers.condition_names.Given as goal

abbrev pub invariant-loop-condition : goal.invariant-loop-condition
invariant-loop-condition l = record {
  len : length l.texts ≡ l.condition-index;
  each : (k : ℕ) → k < l.condition-index → unwrap_or (slice_get l.texts k) [] ≡ condition_name l.names k;
}
