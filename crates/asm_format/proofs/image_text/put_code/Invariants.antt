use Rattle.std.proofs.Common.{◌≡◌, ◌++◌, take}
use Rattle.std.specs.List.{flat_map}
use Rattle.asm_format.specs.Mnemonics.{instr_line}
use Rattle.asm_format.proofs.image_text.put_code.Given as goal

abbrev pub invariant-loop-instr : goal.invariant-loop-instr
invariant-loop-instr l = l.text ≡ l.initial.text ++ flat_map instr_line (take l.instr-index l.code)
