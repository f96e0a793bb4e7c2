use Rattle.std.proofs.Common.{◌≡◌, take}
use Rattle.codegen.proofs.codegen_program.listed.Given as goal

abbrev pub invariant-loop-instr : goal.invariant-loop-instr
invariant-loop-instr l = l.list ≡ take l.instr-index l.code
