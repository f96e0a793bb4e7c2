use Rattle.std.proofs.Common.{◌≡◌, ◌+◌, ◌-◌, length}
use Rattle.std.specs.Prelude.{slice_get}
use Rattle.message_text.specs.Lines.{words}
use Rattle.message_script.specs.Words.{words_from}
use Rattle.message_script.proofs.words.word_at.Given as goal

abbrev pub invariant-loop-before : goal.invariant-loop-before
invariant-loop-before l = record {
  same : slice_get (words_from l.column (words l.left)) (l.place - l._before) ≡ slice_get (words_from 1 (words l.line)) l.place;
  size : l.column + length l.left ≡ length l.line + 1;
}
