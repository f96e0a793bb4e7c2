-- What fits, as it is read from an image.
use Rattle.std.specs.Prelude.{◌≡◌, ◌-◌, ℕ, List, Option, length, map}
use Rattle.image.specs.Raw.{image_of, process_of}
use Rattle.image.specs.declared.raw.RawImage.{RawImage}
use Rattle.valid_image.specs.Tasks.{tasks_of}
use Rattle.valid_image.specs.Valid.{HasLimits}
use Rattle.code_measures.specs.Whole.{HasRanks}
use Rattle.sched_sensitivity.specs.Overhead.{with_overhead, IsOverheadFit}
use Rattle.sched_sensitivity.specs.declared.rows.ProcessFit.{ProcessFit}
use Rattle.sched_sensitivity.specs.Lines.{fits_text}
use Rattle.sched_sensitivity.specs.Rows.{AreFitsOf}

-- the level of each process, in the order of the text
abbrev pub levels_of : RawImage → List ℕ
levels_of raw = map (λ p. (process_of p).rank - 1) raw.processes

-- its ranks are the due ones, and each process has a name
pub record CanFit (raw : RawImage) : Type 0 where
  pub limits : HasLimits (image_of raw)
  pub ranks : HasRanks (image_of raw)
  pub named : length raw.names.processes ≡ length raw.processes

-- the text tells what fits of its tasks, which have no overhead yet, and of each process beside one
pub record IsFitOfImage (raw : RawImage) (over : ℕ) (text : List ℕ) : Type 0 where
  pub greatest : Option ℕ
  pub fit : IsOverheadFit (tasks_of (image_of raw)) greatest
  pub rows : List ProcessFit
  pub are : AreFitsOf (with_overhead (tasks_of (image_of raw)) over) (levels_of raw) raw.names.processes rows
  pub is : text ≡ fits_text greatest rows
