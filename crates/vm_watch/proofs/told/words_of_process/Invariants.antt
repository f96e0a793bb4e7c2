use Rattle.std.proofs.Common.{◌≡◌, take}
use Rattle.machine_semantics.specs.Run.{state_at}
use Rattle.vm_stretch.specs.View.{process_words}
use Rattle.vm_watch.proofs.told.words_of_process.Given as goal

abbrev pub ghost-word : goal.ghost-word
ghost-word g a = g.run

abbrev pub invariant-loop-number : goal.invariant-loop-number
invariant-loop-number g l = l.words.items ≡ take l.number (process_words (state_at g.run.image g.run.script l.machine.tick) l.process)
