use Rattle.std.proofs.Common.{◌≡◌, ◌++◌, take}
use Rattle.run_chart.specs.Traces.{Counts}
use Rattle.vm_chart.proofs.traces.note_of.Given as goal

abbrev pub ghost-note_at : goal.ghost-note_at
ghost-note_at g a = g.before ++ take a.at a.events.now

abbrev pub invariant-loop-at : goal.invariant-loop-at
invariant-loop-at g l = record {
  counts : Counts l.process l.first (g.before ++ take l.at l.events) l.trace;
  row : l.trace.row ≡ l.initial.trace.row;
  letter : l.trace.letter ≡ l.initial.trace.letter;
}
