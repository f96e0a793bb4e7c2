use Rattle.std.proofs.Common.{◌++◌, [], ◌∷◌, ◌∙◌, ℤ, ap, rules, w32}
use Rattle.std.proofs.lemmas.Int.{to_z-of_z}
use Rattle.machine_semantics.specs.Run.{state_at}
use Rattle.vm_stretch.specs.View.{process_words}
use Rattle.vm_watch.proofs.WatchLines.{word_more}
use Rattle.vm_watch.proofs.told.words_of_process.Goals as goal

pub loop-number-preserved : goal.loop-number-preserved
loop-number-preserved g c =
    word_more (process_words (state_at g.run.image g.run.script c.args.machine.now.tick) c.args.process) c.loop-number.words.items c.push.new.self.items c.loop-number.number c.word.result c.loop-number.invariant c.word.ensures
    (c.in_ok-push.ensures.items ∙ ap (λ (z : ℤ). c.loop-number.words.items ++ z ∷ []) (to_z-of_z w32 c.word.result (search rules)))
