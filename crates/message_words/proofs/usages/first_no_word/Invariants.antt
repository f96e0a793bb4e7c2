use Rattle.std.proofs.Common.{◌≡◌, drop, map}
use Rattle.std.specs.Prelude.{find, not, string_bytes}
use Rattle.command_words.specs.Words.{is_word}
use Rattle.message_words.proofs.usages.first_no_word.Given as goal

abbrev pub invariant-loop-word : goal.invariant-loop-word
invariant-loop-word l = find (λ word. not (is_word word)) (map string_bytes (drop l.word-index l.words)) ≡ find (λ word. not (is_word word)) (map string_bytes l.words)
