use Rattle.std.proofs.Common.{◌≡◌, ◌+◌, drop}
use Rattle.syntax.specs.Tables.{words_of}
use Rattle.asm_lines.specs.Instrs.{place_from}
use Rattle.asm_lines.proofs.instr.number_in.Given as goal

abbrev pub invariant-loop-at : goal.invariant-loop-at
invariant-loop-at l = place_from (l.at + 1) (words_of (drop l.at l.names)) l.word ≡ place_from 1 (words_of l.names) l.word
