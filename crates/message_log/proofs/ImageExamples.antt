-- Whole messages.
use Rattle.std.proofs.Common.{refl}
use Rattle.std.specs.Prelude.{◌≡◌, ℕ, false, List, [], ◌∷◌, codes}
use Rattle.std.specs.Fmt.{digits}
use Rattle.machine_semantics.specs.Image.{Routine}
use Rattle.machine_semantics.specs.Trees.{Nil}
use Rattle.image.specs.Named.{NamedImage}
use Rattle.faulty_part.specs.declared.part.FaultyPart.{FaultyPart}
use Rattle.faulty_part.specs.declared.part.FaultyPart.TheVariants as part
use Rattle.faulty_part.specs.declared.part.Subject.{Subject}
use Rattle.faulty_part.specs.declared.part.Subject.TheVariants as subject
use Rattle.message_text.specs.Shown.{show}
use Rattle.message_log.specs.Image.{image_message, image_text_message, valid_message}

-- six bytes, the letters of an image and 0 and 2: the last field is cut
pub six_bytes : image_message (codes "I") 2 6 ≡ codes "I: I2: at byte 6: the bytes end inside a field\n"
unfolding image_message digits
six_bytes = refl

-- a process, a monitor with two entries, and a routine of the program before them
abbrev routine : (kind : ℕ) → Routine
routine kind = record { kind = kind; owner = 0; params = 0; locals = 0; gives = false; start = 0; run = 0; susp = 0; waits = 0; stay = 7; tree = Nil }

abbrev some_parts : NamedImage
some_parts = record {
  program = codes "a";
  names = record { processes = codes "p" ∷ []; monitors = codes "m" ∷ []; conditions = []; devices = []; events = [] };
  image = record { over = 0; monitors = []; conditions = []; devices = []; routines = routine 0 ∷ routine 2 ∷ routine 2 ∷ []; processes = []; code = [] };
}

abbrev told : FaultyPart → Subject → (a b : ℕ) → List ℕ
told p s a b = valid_message (codes "I") some_parts (record { part = p; subject = s; a = a; b = b })

-- an operand below 0
pub operand_below_zero : told (part.Process 0) subject.Operand 0 4294967295 ≡ codes "I: V6: process `p`: the instruction at address 0: the operand -1 is not allowed\n"
unfolding valid_message digits
operand_below_zero = refl

-- code of the routine of the program, and code of nobody
pub wrong_code : told (part.Routine 0) subject.Code 3 0 ≡ codes "I: V1: routine 0 of the program: its code, declared to start at address 3, is not that of its tree\n"
unfolding valid_message digits
wrong_code = refl

pub uncovered_code : told part.Whole subject.Code 7 0 ≡ codes "I: V1: the code from address 7 on belongs to no routine and no process\n"
unfolding valid_message digits
uncovered_code = refl

-- the second entry of the monitor
pub short_stay : told (part.Routine 2) subject.Stay 7 9 ≡ codes "I: V2: routine 1 of monitor `m`: stay: declared 7, needed 9\n"
unfolding valid_message digits
short_stay = refl

pub many_words : told part.Whole subject.Words 1048576 1114112 ≡ codes "I: V3: the monitors and processes have 1114112 words; 1048576 are the most\n"
unfolding valid_message digits
many_words = refl

-- a ceiling of a monitor that no process enters
pub no_ceiling : told (part.Monitor 0) subject.Ceiling 1 65535 ≡ codes "I: V4: monitor `m`: ceiling: declared 1, needed none\n"
unfolding valid_message digits
no_ceiling = refl

pub late_bound : told (part.Process 0) subject.Deadline 11 10 ≡ codes "I: V5: process `p`: bound: declared 11, at most 10, its deadline\n"
unfolding valid_message digits
late_bound = refl

-- a text whose last line is missing
pub missing_end : image_text_message (codes "A") (codes "image\n") 1 2
    ≡ codes "A:2:1: A1: this line has no form that may stand here\n      2 | \n        = the text ends here; `end` is missing\n"
unfolding image_text_message show digits
missing_end = refl
