-- What is found of two parts of one process.
use Rattle.std.specs.Prelude.{◌≡◌, ℕ, Bool, true, false, List, Option, Some, None, option_map, slice_get}
use Rattle.machine_isa.specs.declared.instr.Instr.{Instr}
use Rattle.machine_semantics.specs.Trees.{Segs}
use Rattle.valid_image.specs.Found.{Known, Found}
use Rattle.valid_image.specs.Tables.{nothing_found, part_found}
use Rattle.valid_image_law.specs.Held.{held_known}
use Rattle.loader_code.specs.TreesTold.{found_of}
use Rattle.loader.specs.declared.parts.ProcessCost.{ProcessCost}

-- rows that are held alike
abbrev pub AreAlike : List Known → List Known → Type 0
AreAlike ks ls = (j : ℕ) → option_map held_known (slice_get ks j) ≡ option_map held_known (slice_get ls j)

-- what a body and a handler come to
pub record Two : Type 0 where
  pub body : Found
  pub handler : Found

abbrev pub two : Option Found → Option Found → Option Two
two None second = None
two (Some f) None = None
two (Some f) (Some g) = Some (record { body = f; handler = g })

abbrev pub guard_two : Bool → Option Two → Option Two
guard_two true x = x
guard_two false x = None

abbrev pub told_process : Option ProcessCost → Option Two
told_process None = None
told_process (Some f) = Some (record { body = found_of f.body; handler = found_of f.handler })

-- a handler, where there is one, at its address
abbrev pub handler_in : List Instr → List Known → Option Segs → (at : ℕ) → Option Found
handler_in code known None at = Some nothing_found
handler_in code known (Some tree) at = part_found code known tree at
