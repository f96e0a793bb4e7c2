use Rattle.std.proofs.Common.{◌≡◌}
use Rattle.std.specs.Prelude.{length, slice_get, Some, slice_index, slice_index_or, ℕ, []}
use Rattle.sched_sensitivity.specs.declared.rows.ProcessFit.{ProcessFit}
use Rattle.sched_sensitivity.specs.Rows.{IsFitOf}
use Rattle.sched_sensitivity.proofs.finding.process_fits.Given as goal

abbrev pub invariant-loop-number : goal.invariant-loop-number
invariant-loop-number l = record {
  kept : l.set ≡ l.fn.set;
  many : length l.fits ≡ l.number;
  each : (k : ℕ) (fit : ProcessFit) → slice_get l.fits k ≡ Some fit → IsFitOf l.fn.set (slice_index l.order k) (slice_index_or l.names k []) fit;
}
