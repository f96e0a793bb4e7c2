use Rattle.std.proofs.Common.{◌≡◌, length}
use Rattle.vm_chart.specs.Follows.{IsDrawnTo, events_before}
use Rattle.vm_chart.proofs.Tracing.{Split}
use Rattle.vm_chart.proofs.traces.note_all.Given as goal

abbrev pub ghost-note_of : goal.ghost-note_of
ghost-note_of g a = events_before g.passing.drawing.image g.passing.drawing.script g.passing.from

abbrev pub invariant-loop-process : goal.invariant-loop-process
invariant-loop-process g l = record {
  count : length l.traces.items ≡ length l.initial.traces.items;
  split : Split (IsDrawnTo g.passing.drawing l.to l.from) (IsDrawnTo g.passing.drawing l.to l.to) l.process l.traces.items;
}
