use Rattle.std.proofs.Common.{◌≡◌, ◌++◌, drop}
use Rattle.command_due.specs.Lines.{spaced}
use Rattle.command_programs.proofs.lines.add_spaced.Given as goal

abbrev pub invariant-loop-number : goal.invariant-loop-number
invariant-loop-number l = l.text ++ spaced (drop l.number-index l.numbers) ≡ l.initial.text ++ spaced l.numbers
