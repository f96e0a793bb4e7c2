use Rattle.machine_semantics.specs.Run.{state_at}
use Rattle.command_due.specs.Text.{process_line}
use Rattle.vm_watch.proofs.WatchLines.{line_more}
use Rattle.vm_watch.proofs.told.put_processes.Goals as goal

pub loop-process-preserved : goal.loop-process-preserved
loop-process-preserved g c =
    line_more (process_line c.args.image.now.names g.run.image (state_at g.run.image g.run.script c.args.machine.now.tick)) _ _ _ _ c.loop-process.invariant c.in_ok-put_one_process.ensures
