-- The parts of an image, as they are kept while it is tested.
use Rattle.std.specs.Prelude.{◌≡◌, ℕ, length, map, Option, Some, take, slice_get, IfSome}
use Rattle.image.specs.declared.raw.RawImage.{RawImage}
use Rattle.image.specs.declared.raw.RawProcess.{RawProcess}
use Rattle.image.specs.declared.raw.RawRoutine.{RawRoutine}
use Rattle.image.specs.Raw.{image_of, routine_of, process_of}
use Rattle.base.specs.Capped.{cap}
use Rattle.valid_image.specs.Sizes.{needed_stay}
use Rattle.valid_image.specs.Tables.{known, routine_found, body_found, handler_found}
use Rattle.valid_image_law.specs.Held.{hold}
use Rattle.loader_code.specs.TreesTold.{known_of, told_part}
use Rattle.loader_code.specs.declared.known.PartCost.{PartCost}
use Rattle.loader.specs.declared.parts.CodeCosts.{CodeCosts}
use Rattle.loader.specs.Found.{AreAlike, two, told_process}

-- what is kept of routine j
pub record IsKept (raw : RawImage) (j : ℕ) (x : RawRoutine) (kept : Option PartCost) : Type 0 where
  pub found : told_part kept ≡ hold (routine_found raw.code (take j (known (image_of raw))) (routine_of x))
  pub stay : IfSome kept (λ f. f.stay ≡ cap (needed_stay (image_of raw) j (routine_of x)))

-- of each routine what its code comes to, and what those that call it know
pub record AreRoutines (raw : RawImage) (parts : CodeCosts) : Type 0 where
  pub known_rows : AreAlike (map known_of parts.known) (known (image_of raw))
  pub count : length parts.routines ≡ length raw.routines
  pub kept : (j : ℕ) (x : RawRoutine) → slice_get raw.routines j ≡ Some x → IsKept raw j x (slice_get parts.routines j)

-- of each process what the code of its body and of its handler come to
pub record AreProcesses (raw : RawImage) (parts : CodeCosts) : Type 0 where
  pub count : length parts.processes ≡ length raw.processes
  pub kept : (k : ℕ) (p : RawProcess) → slice_get raw.processes k ≡ Some p
      → told_process (slice_get parts.processes k) ≡ two (hold (body_found (image_of raw) (process_of p))) (hold (handler_found (image_of raw) (process_of p) (process_of p).handler_tree))

pub record AreParts (raw : RawImage) (parts : CodeCosts) : Type 0 where
  pub routines : AreRoutines raw parts
  pub processes : AreProcesses raw parts
