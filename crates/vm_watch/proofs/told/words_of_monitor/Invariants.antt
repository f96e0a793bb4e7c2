use Rattle.std.proofs.Common.{◌≡◌, take}
use Rattle.machine_semantics.specs.Run.{state_at}
use Rattle.vm_stretch.specs.View.{monitor_words}
use Rattle.vm_watch.proofs.told.words_of_monitor.Given as goal

abbrev pub ghost-monitor_word : goal.ghost-monitor_word
ghost-monitor_word g a = g.run

abbrev pub invariant-loop-number : goal.invariant-loop-number
invariant-loop-number g l = l.words.items ≡ take l.number (monitor_words g.run.image (state_at g.run.image g.run.script l.machine.tick) l.monitor)
