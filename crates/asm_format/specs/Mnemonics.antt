-- The names of the instructions, and the line of each: its name and the operands that it names.
use Rattle.std.specs.Prelude.{◌++◌, ◌-◌, ℕ, ℤ, List, [], ◌∷◌, codes, slice_index_or, take}
use Rattle.std.specs.Fmt.{signed_decimal}
use Rattle.machine_isa.specs.declared.instr.Instr.{Instr}
use Rattle.machine_isa.specs.Bytes.{arity, number, operands}

-- by their numbers from 1
abbrev pub mnemonics : List (List ℕ)
mnemonics =
    codes "PUSH" ∷ codes "LDL" ∷ codes "STL" ∷ codes "LDG" ∷ codes "STG" ∷ codes "LDM" ∷ codes "STM" ∷ codes "LDLX" ∷ codes "STLX" ∷
    codes "LDGX" ∷ codes "STGX" ∷ codes "LDMX" ∷ codes "STMX" ∷ codes "NEG" ∷ codes "NOT" ∷ codes "AND" ∷ codes "OR" ∷ codes "ADD" ∷
    codes "SUB" ∷ codes "EQ" ∷ codes "NE" ∷ codes "LT" ∷ codes "LE" ∷ codes "GT" ∷ codes "GE" ∷ codes "MUL" ∷ codes "DIV" ∷
    codes "MOD" ∷ codes "RNG" ∷ codes "JZ" ∷ codes "JMP" ∷ codes "REPS" ∷ codes "REP" ∷ codes "EXIT" ∷ codes "CALL" ∷ codes "RET" ∷
    codes "RETV" ∷ codes "ENTER" ∷ codes "LEAVE" ∷ codes "WAIT" ∷ codes "REENT" ∷ codes "SIG" ∷ codes "BCAST" ∷ codes "EMPTY" ∷ codes "IN" ∷
    codes "OUT" ∷ codes "RAISE" ∷ codes "END" ∷
    []

-- the name of the instruction of a number
abbrev pub mnemonic : (number : ℕ) → List ℕ
mnemonic number = slice_index_or mnemonics (number - 1) []

-- the operands that an instruction names
abbrev pub named : Instr → List ℤ
named instr = take (arity (number instr)) (operands instr)

-- operands, each after a space, to the end of the line
abbrev pub operands_text : List ℤ → List ℕ
operands_text [] = codes "\n"
operands_text (z ∷ zs) = codes " " ++ (signed_decimal z ++ operands_text zs)

-- the line of an instruction
abbrev pub instr_line : Instr → List ℕ
instr_line instr = mnemonic (number instr) ++ operands_text (named instr)
