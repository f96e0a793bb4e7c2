use Rattle.std.proofs.Common.{[]}
use Rattle.std.specs.Prelude.{slice_get, unwrap_or}
use Rattle.event_log.specs.Finding.{AreNumbers}
use Rattle.event_log.proofs.numbers.numbers_of.Given as goal

abbrev pub invariant-loop-k : goal.invariant-loop-k
invariant-loop-k l = AreNumbers l.numbers.entries l.k (λ i. unwrap_or (slice_get l.list i) [])
