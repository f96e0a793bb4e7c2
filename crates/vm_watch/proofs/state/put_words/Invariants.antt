use Rattle.std.proofs.Common.{◌≡◌, ◌++◌, drop}
use Rattle.command_due.specs.Text.{words_text}
use Rattle.vm_watch.proofs.state.put_words.Given as goal

abbrev pub invariant-loop-word : goal.invariant-loop-word
invariant-loop-word l = l.text ++ words_text (drop l.word-index l.words) ≡ l.initial.text ++ words_text l.words
