-- Runs of an admitted image under earliest deadline first.
use Rattle.std.specs.Prelude.{◌≡◌, ◌≤◌, ℕ, false, Some, slice_get}
use Rattle.machine_semantics.specs.Image.{Image, Process, Script}
use Rattle.machine_semantics.specs.State.{Thread}
use Rattle.machine_semantics.specs.Whole.{StackFits, WordsFit, Apart, InsideIsReady}
use Rattle.sched_timing.specs.Timed.{RespectsFrames}
use Rattle.image.specs.Named.{NamedImage}
use Rattle.image_loaded.specs.Shape.{IsShape}
use Rattle.edf_semantics.specs.Run.{tick, state_at}
use Rattle.edf_semantics.specs.InTime.{MeetsDeadlines}
use Rattle.edf_admission.specs.Admitted.{IsAdmitted}

-- a run is safe: no tick is stuck, before each tick every process is within its declared stack and
-- has the words that it declares, the processes that are inside monitors are apart, and each of
-- them is ready
pub record IsEdfSafe (image : Image) (script : Script) : Type 0 where
  pub never_stuck : (t : ℕ) → (tick image script t (state_at image script t)).stuck ≡ false
  pub stacks : (t k : ℕ) (p : Process) (thread : Thread) → slice_get image.processes k ≡ Some p → slice_get (state_at image script t).state.threads k ≡ Some thread → StackFits p thread
  pub words : (t : ℕ) → WordsFit image (state_at image script t).state
  pub apart : (t : ℕ) → Apart image (state_at image script t).state.threads
  pub ready : (t : ℕ) → InsideIsReady (state_at image script t).state.threads

-- The law: each admitted shape, whoever made it, is safe over every script, and meets its deadlines
-- over each that respects its frames and ends by tick 1,000,000,000.
abbrev pub EveryAdmittedShapeMeetsDeadlines : Type 0
EveryAdmittedShapeMeetsDeadlines = (shape : NamedImage) → IsShape shape → IsAdmitted shape.image
    → ((script : Script) → IsEdfSafe shape.image script) × ((script : Script) → RespectsFrames shape.image script → script.end_tick ≤ 1000000000 → MeetsDeadlines shape.image script)
