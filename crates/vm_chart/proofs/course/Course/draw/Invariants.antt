use Rattle.std.proofs.Common.{◌≡◌}
use Rattle.std.specs.Prelude.{min}
use Rattle.run_chart.specs.Spans.{first_tick}
use Rattle.vm_releases.specs.Begin.{script_of}
use Rattle.vm_chart.specs.Follows.{Follows}
use Rattle.vm_chart.proofs.course.Course.draw.Given as goal

abbrev pub ghost-draw_column : goal.ghost-draw_column
ghost-draw_column g a = record { image = g.image; script = script_of a.script.now; columns = a.columns.now; column = a.column }

abbrev pub invariant-loop-column : goal.invariant-loop-column
invariant-loop-column g l = record {
  follows : Follows (record { image = g.image; script = script_of l.script; columns = l.columns; column = l.column }) l.self;
  there : l.self.machine.tick ≡ min (first_tick l.columns l.column) l.columns.end;
}
