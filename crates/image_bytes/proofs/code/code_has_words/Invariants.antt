use Rattle.std.proofs.Common.{All, take}
use Rattle.machine_isa.specs.Bytes.{HasWords}
use Rattle.image_bytes.proofs.code.code_has_words.Given as goal

abbrev pub invariant-loop-instr : goal.invariant-loop-instr
invariant-loop-instr l = All HasWords (take l.instr-index l.code)
