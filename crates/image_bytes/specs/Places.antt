-- Where the parts of an image begin in its bytes.
use Rattle.std.specs.Prelude.{◌≡◌, ◌+◌, ℕ, zero, suc, List, [], ◌∷◌, length, map, take, drop, Ok}
use Rattle.machine_isa.specs.declared.instr.Instr.{Instr}
use Rattle.machine_isa.specs.Bytes.{HasWords, instr_bytes}
use Rattle.machine_isa.specs.Numbered.{named_by}
use Rattle.image_format.specs.Format.{Format}
use Rattle.image.specs.Named.{NamedImage}
use Rattle.image_bytes.specs.Fields.{process_fields, routine_fields}
use Rattle.image_bytes.specs.Standing.{read_or}
use Rattle.image_bytes.specs.declared.places.PartOffsets.{PartOffsets}
use Rattle.image_reader.specs.Grammar.{monitor_format, or_end}

-- each thing is read where it begins
abbrev pub AreAt : {A : Type 0} → Format A → (bytes places : List ℕ) → List A → Type 0
AreAt f bytes [] [] = Unit {0}
AreAt f bytes (at ∷ places) (x ∷ xs) = ((rest : List ℕ) × (f.read (drop at bytes) ≡ Ok (x, rest))) × AreAt f bytes places xs
AreAt f bytes places xs = ⊥

-- instructions stand one after the other, from a place on, each in its 13 bytes
abbrev pub AreInstrs : (bytes : List ℕ) → (at : ℕ) → List Instr → Type 0
AreInstrs bytes at [] = Unit {0}
AreInstrs bytes at (i ∷ is) = (take 13 (drop at bytes) ≡ instr_bytes i) × HasWords i × AreInstrs bytes (at + 13) is

-- the parts of the image begin at these places
pub record AreOf (bytes : List ℕ) (places : PartOffsets) (named : NamedImage) : Type 0 where
  pub monitors : AreAt monitor_format bytes places.monitors named.image.monitors
  pub routines : AreAt routine_fields bytes places.routines named.image.routines
  pub processes : AreAt process_fields bytes places.processes named.image.processes
  pub code : AreInstrs bytes places.code named.image.code
  pub instructions : places.instructions ≡ length named.image.code

-- ---- what stands at places

-- what is read at each place; the given where nothing is
abbrev pub things_at : {A : Type 0} → A → Format A → (bytes places : List ℕ) → List A
things_at none f bytes places = map (λ at. read_or none (f.read (drop at bytes))) places

-- so many instructions, from a place on
abbrev pub instrs_at : (bytes : List ℕ) → (at count : ℕ) → List Instr
instrs_at bytes at zero = []
instrs_at bytes at (suc n) = or_end (named_by (take 13 (drop at bytes))) ∷ instrs_at bytes (at + 13) n
