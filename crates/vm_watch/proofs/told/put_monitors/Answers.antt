use Rattle.machine_semantics.specs.Run.{state_at}
use Rattle.command_due.specs.Text.{monitor_line}
use Rattle.vm_watch.proofs.WatchLines.{line_more}
use Rattle.vm_watch.proofs.told.put_monitors.Goals as goal

pub loop-monitor-preserved : goal.loop-monitor-preserved
loop-monitor-preserved g c =
    line_more (monitor_line c.args.image.now.names g.run.image (state_at g.run.image g.run.script c.args.machine.now.tick)) _ _ _ _ c.loop-monitor.invariant c.in_ok-put_one_monitor.ensures
