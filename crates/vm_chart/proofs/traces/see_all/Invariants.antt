use Rattle.std.proofs.Common.{◌≡◌, ◌+◌, length}
use Rattle.vm_chart.specs.Follows.{IsDrawnTo}
use Rattle.vm_chart.proofs.Tracing.{Split}
use Rattle.vm_chart.proofs.traces.see_all.Given as goal

abbrev pub ghost-letter_on : goal.ghost-letter_on
ghost-letter_on g a = g.drawing.image

abbrev pub invariant-loop-process : goal.invariant-loop-process
invariant-loop-process g l = record {
  count : length l.traces.items ≡ length l.initial.traces.items;
  split : Split (IsDrawnTo g.drawing l.tick l.tick) (IsDrawnTo g.drawing (l.tick + 1) l.tick) l.process l.traces.items;
}
