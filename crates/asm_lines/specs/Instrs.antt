-- The lines of instructions.
use Rattle.std.specs.Prelude.{◌+◌, ℕ, ℤ, pos, Bool, List, [], ◌∷◌, take, drop, Ok, Err, Result, Option, Some, None, codes, nat_le, nat_eq, if◌then◌else◌}
use Rattle.std.specs.Cmp.Lexicographic.{pointwise}
use Rattle.machine_isa.specs.declared.instr.Instr.{Instr}
use Rattle.machine_isa.specs.Bytes.{arity}
use Rattle.machine_isa.specs.Numbered.{numbered}
use Rattle.image_reader.specs.Grammar.{or_end}
use Rattle.asm_format.specs.Mnemonics.{mnemonics}
use Rattle.text_fields.specs.declared.fault.FieldFault.{FieldFault}
use Rattle.text_fields.specs.Front.{Front, Read, ◌>>=◌, no_form, moved, skip, end_read}
use Rattle.text_fields.specs.LineFields.{signed_read}
use Rattle.asm_lines.specs.Names.{word_len}

-- the place of a word in a list whose first place is this
abbrev pub place_from : (at : ℕ) → List (List ℕ) → List ℕ → Option ℕ
place_from at [] word = None
place_from at (w ∷ ws) word = if pointwise nat_eq word w then Some at else place_from (at + 1) ws word

-- the number of the instruction of this name
abbrev pub number_of : List ℕ → Option ℕ
number_of word = place_from 1 mnemonics word

-- an operand where one is named, else 0
unfoldable pub operand_read : (is_named : Bool) → Front → Read ℤ
operand_read is_named s = if is_named then (skip (codes " ") s >>= signed_read) else Ok (pos 0, s)

-- the operands that the instruction of the number names, to the end of the line
unfoldable pub numbered_read : (number : ℕ) → Front → Read Instr
numbered_read number s =
    operand_read (nat_le 1 (arity number)) s >>= λ a. operand_read (nat_le 2 (arity number)) a.1 >>= λ b. operand_read (nat_le 3 (arity number)) b.1 >>= λ c.
    end_read c.1 >>= λ t. Ok (or_end (numbered number a.0 b.0 c.0), t)

abbrev pub of_number : Option ℕ → Front → Read Instr
of_number None s = Err (no_form s)
of_number (Some number) s = numbered_read number s

unfoldable pub instr_read : Front → Read Instr
instr_read s = of_number (number_of (take (word_len s.rest) s.rest)) (moved s (drop (word_len s.rest) s.rest))
