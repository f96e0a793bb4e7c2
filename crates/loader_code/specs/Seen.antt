-- What the code holds, as the definitions speak of it.
use Rattle.std.specs.Prelude.{◌≡◌, ◌<◌, ℕ, Bool, false, List, [], ◌∷◌, length, slice_get, slice_index_or, ℤ, pos, negsuc, Option, Some, None}
use Rattle.valid_image.specs.Fault.{Fault, or_else, of_some}
use Rattle.machine_semantics.specs.Image.{Image}
use Rattle.valid_image.specs.Tables.{reach, bound_at}
use Rattle.valid_image.specs.Operands as defined
use Rattle.loader_code.specs.declared.words.Area.{Area}
use Rattle.loader_code.specs.declared.words.Whose.{Whose}

abbrev pub whose_of : Whose → defined.Whose
whose_of w = record { number = w.number; kind = w.kind; owner = w.owner; locals = w.locals }

abbrev pub area_of : Area → defined.Area
area_of x = record { base = x.base; words = x.words }

-- an operand that is not negative
abbrev pub natural_of : ℤ → Option ℕ
natural_of (pos n) = Some n
natural_of (negsuc n) = None

-- by routine, whether it reaches a routine of a process or an entry
pub record AreBounds (image : Image) (bounds : List Bool) : Type 0 where
  pub one_each : length bounds ≡ length image.routines
  pub each : (r : ℕ) → r < length bounds → slice_index_or bounds r false ≡ bound_at (reach image) r

-- the same of the first n routines
pub record AreFirstBounds (image : Image) (n : ℕ) (bounds : List Bool) : Type 0 where
  pub one_each : length bounds ≡ n
  pub each : (r : ℕ) → r < n → slice_index_or bounds r false ≡ bound_at (reach image) r

-- the fault of the instruction at the address, whose code it is told
abbrev pub fault_at : Image → defined.Whose → ℕ → Option Fault
fault_at image w a = of_some (λ instr. defined.shown_operand a (defined.bad_operand image w instr)) (slice_get image.code a)

-- the first of these addresses that has one
abbrev pub first_at : (ℕ → Option Fault) → List ℕ → Option Fault
first_at f [] = None
first_at f (a ∷ rest) = or_else (f a) (first_at f rest)
