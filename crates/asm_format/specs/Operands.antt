-- The operands of an instruction as a list.
use Rattle.std.specs.Prelude.{ℤ, List, [], ◌∷◌}
use Rattle.asm_format.specs.declared.instr.Operands.{Operands}
use Rattle.asm_format.specs.declared.instr.Operands.TheVariants.{Nothing, One, Two, Three}

abbrev pub listed : Operands → List ℤ
listed Nothing = []
listed (One a) = a ∷ []
listed (Two a b) = a ∷ b ∷ []
listed (Three a b c) = a ∷ b ∷ c ∷ []
