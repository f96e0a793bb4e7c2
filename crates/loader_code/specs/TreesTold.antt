-- What the code holds, as the definitions speak of it.
use Rattle.std.specs.Prelude.{◌≡◌, ◌≤◌, ℕ, List, length, Option, Some, None}
use Rattle.machine_isa.specs.declared.instr.Instr.{Instr}
use Rattle.loader_code.specs.declared.known.CodeCost.{CodeCost}
use Rattle.loader_code.specs.declared.known.RoutineCost.{RoutineCost}
use Rattle.loader_code.specs.declared.known.PartCost.{PartCost}
use Rattle.valid_image.specs.Found as valid
use Rattle.valid_image.specs.Tables.{count}

-- what is found of a piece of code
abbrev pub found_of : CodeCost → valid.Found
found_of f = record { height = f.height; cost = f.cost; depth = f.depth }

abbrev pub told : Option CodeCost → Option valid.Found
told None = None
told (Some f) = Some (found_of f)

abbrev pub told_part : Option PartCost → Option valid.Found
told_part None = None
told_part (Some f) = Some (found_of f.found)

-- what is known of a routine
abbrev pub known_of : RoutineCost → valid.Known
known_of k = record { params = k.params; results = count k.result; locals = k.locals; depth = k.depth; cost = k.cost }

-- its numbers are held
pub record IsHeld (f : CodeCost) : Type 0 where
  pub run : f.cost.run ≤ 1000000001
  pub susp : f.cost.susp ≤ 1000000001
  pub waits : f.cost.waits ≤ 1000000001
  pub depth : f.depth ≤ 4097

-- it ends at the address and the height
pub record Reaches (address low : ℕ) (f : CodeCost) : Type 0 where
  pub next : f.next ≡ address
  pub height : f.height ≡ low
  pub held : IsHeld f

-- it ends at the address, which is in the code or right behind it, and no height is above the
-- address
pub record EndsAt (code : List Instr) (address : ℕ) (f : CodeCost) : Type 0 where
  pub next : f.next ≡ address
  pub within : f.next ≤ length code
  pub height : f.height ≤ f.next
  pub held : IsHeld f
