use Rattle.std.proofs.Common.{◌≡◌, ◌++◌, drop}
use Rattle.asm_format.specs.Text.{numbers_text}
use Rattle.asm_format.proofs.numbers.put_numbers.Given as goal

abbrev pub invariant-loop-number : goal.invariant-loop-number
invariant-loop-number l = l.text ++ numbers_text (drop l.number-index l.numbers) ≡ l.initial.text ++ numbers_text l.numbers
