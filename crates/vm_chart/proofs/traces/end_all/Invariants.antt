use Rattle.std.proofs.Common.{◌≡◌, ◌+◌, length}
use Rattle.run_chart.specs.Columns.{end_of}
use Rattle.vm_chart.specs.Follows.{IsDrawnTo}
use Rattle.vm_chart.proofs.Tracing.{Split}
use Rattle.vm_chart.proofs.traces.end_all.Given as goal

abbrev pub invariant-loop-process : goal.invariant-loop-process
invariant-loop-process g l =
    let t = end_of g.drawing.columns g.drawing.column in
    record {
      count : length l.traces.items ≡ length l.initial.traces.items;
      split : Split (IsDrawnTo g.drawing t t) (IsDrawnTo (record g.drawing { column = g.drawing.column + 1 }) t t) l.process l.traces.items;
    }
