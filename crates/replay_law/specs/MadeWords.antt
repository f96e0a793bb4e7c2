-- The operands of the code that is made of a program.
use Rattle.std.specs.Prelude.{All}
use Rattle.syntax_tree.specs.Plain.{Program}
use Rattle.machine_isa.specs.Bytes.{HasWords}
use Rattle.codegen_spec.specs.Parts.{program_made}

-- The law: they are signed numbers of 32 bits.
abbrev pub MadeCodeHasWords : Type 0
MadeCodeHasWords = (g : Program) → All HasWords (program_made g).instrs
