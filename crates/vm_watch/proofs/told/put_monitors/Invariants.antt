use Rattle.std.proofs.Common.{◌≡◌, ◌++◌}
use Rattle.std.specs.List.{flat_map, range_with_len}
use Rattle.machine_semantics.specs.Run.{state_at}
use Rattle.command_due.specs.Text.{monitor_line}
use Rattle.vm_watch.proofs.told.put_monitors.Given as goal

abbrev pub ghost-put_one_monitor : goal.ghost-put_one_monitor
ghost-put_one_monitor g a = g.run

abbrev pub invariant-loop-monitor : goal.invariant-loop-monitor
invariant-loop-monitor g l = l.text ≡ l.initial.text ++ flat_map (monitor_line l.image.names g.run.image (state_at g.run.image g.run.script l.machine.tick)) (range_with_len 0 l.monitor)
