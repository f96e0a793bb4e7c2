use Rattle.std.proofs.Common.{◌≡◌, ◌++◌}
use Rattle.std.specs.List.{flat_map, range_with_len}
use Rattle.machine_semantics.specs.Run.{state_at}
use Rattle.command_due.specs.Text.{process_line}
use Rattle.vm_watch.proofs.told.put_processes.Given as goal

abbrev pub ghost-put_one_process : goal.ghost-put_one_process
ghost-put_one_process g a = g.run

abbrev pub invariant-loop-process : goal.invariant-loop-process
invariant-loop-process g l = l.text ≡ l.initial.text ++ flat_map (process_line l.image.names g.run.image (state_at g.run.image g.run.script l.machine.tick)) (range_with_len 0 l.process)
