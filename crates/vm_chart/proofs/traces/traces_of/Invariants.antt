use Rattle.std.proofs.Common.{◌≤◌, ◌-◌, length}
use Rattle.std.specs.Prelude.{All}
use Rattle.vm_chart.specs.Follows.{IsFresh}
use Rattle.vm_chart.proofs.traces.traces_of.Given as goal

abbrev pub invariant-loop-alloc : goal.invariant-loop-alloc
invariant-loop-alloc l = record { fresh : All IsFresh l.traces.items; few : length l.traces.items ≤ l.processes }

abbrev pub decreases-loop-alloc : goal.decreases-loop-alloc
decreases-loop-alloc l = l.processes - length l.traces.items
