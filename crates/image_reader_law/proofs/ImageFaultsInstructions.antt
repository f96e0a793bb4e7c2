-- The instructions of an image are put together of fields.
use Rattle.std.proofs.Common.{◌≡◌, ◌<◌, ◌||◌, ◌&&◌, ◌++◌, ℕ, Bool, true, ℤ, List, [], ◌∷◌, arith}
use Rattle.std.specs.Prelude.{nat_lt, nat_le, pos}
use Rattle.std.specs.Ordering.{int_eq}
use Rattle.std.proofs.lemmas.Bool.{ltb-true, and_parts}
use Rattle.machine_isa.specs.Bytes.{arity, word_bytes}
use Rattle.image_format.specs.Format.{u8, unless, is_fine}
use Rattle.image_reader.specs.Grammar as g
use Rattle.image_format.specs.FormatLaw.{AreBytes}
use Rattle.image_reader_law.proofs.ImageSoundInstructions.{instr_sound, number_format, after_second, after_first, after_number, instr_with, fields_in}
use Rattle.image_reader_law.specs.Faults as s
use Rattle.image_reader_law.specs.Faults.{Sort, natural, integer, instruction, pair}
use Rattle.image_reader_law.proofs.Known as k
use Rattle.image_reader_law.proofs.Known.{Known}
use Rattle.image_reader_law.proofs.Sound.{sound}
use Rattle.image_reader_law.proofs.Views.{view_of}

-- ---- number and operands

an_operand : (is_named : Bool) → Known integer (g.operand is_named)
an_operand is_named = k.a_test integer g.word (λ z. is_named || int_eq z (pos 0)) 7 (omega arith) (omega arith) (k.a_field integer g.word 4 s.of_word)

abbrev fields_sort : Sort
fields_sort = pair natural (pair integer (pair integer integer))

some_fields : Known fields_sort g.fields_format
some_fields =
    k.a_pair natural (pair integer (pair integer integer)) number_format after_number (k.a_test natural u8 (λ n. nat_le 1 n && nat_le n 48) 6 (omega arith) (omega arith) k.byte) (λ n.
    k.two integer (pair integer integer) (g.operand (nat_le 1 (arity n))) (after_first n) (an_operand (nat_le 1 (arity n)))
    (k.two integer integer (g.operand (nat_le 2 (arity n))) (after_second n) (an_operand (nat_le 2 (arity n))) (an_operand (nat_le 3 (arity n)))))

-- ---- their bytes

joined : (front rest : List ℕ) → AreBytes front → AreBytes rest → AreBytes (front ++ rest)
joined [] rest are more = more
joined (b ∷ front) rest are more = (are.0, joined front rest are.1 more)

word_is : (z : ℤ) → AreBytes (word_bytes z)
word_is z = (omega arith, (omega arith, (omega arith, (omega arith, tt))))

fields_are : (x : ℕ × (ℤ × (ℤ × ℤ))) → g.fields_format.is x ≡ true → AreBytes (g.fields_format.write x ++ [])
fields_are x h =
    let front = and_parts (number_format.is x.0) ((after_number x.0).is x.1) h in
    let low : x.0 < 256 = ltb-true x.0 256 (and_parts (nat_lt x.0 256) (is_fine (unless (nat_le 1 x.0 && nat_le x.0 48) 6)) front.0).0 in
    joined (g.fields_format.write x) [] (low, joined (word_bytes x.1.0) (word_bytes x.1.1.0 ++ word_bytes x.1.1.1) (word_is x.1.0) (joined (word_bytes x.1.1.0) (word_bytes x.1.1.1) (word_is x.1.1.0) (word_is x.1.1.1))) tt

-- ---- an instruction

pub an_instruction : Known instruction g.instr_format
an_instruction =
    k.a_view fields_sort instruction g.fields_format instr_with fields_in
    (view_of g.fields_format instr_with fields_in (sound fields_sort g.fields_format some_fields.made) instr_sound fields_are) some_fields
