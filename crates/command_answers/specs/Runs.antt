-- What is promised of a run of a program under earliest deadline first.
use Rattle.std.specs.Prelude.{◌≡◌, ℕ, false, Some, slice_get}
use Rattle.syntax_tree.specs.Plain.{Program}
use Rattle.source_semantics.specs.Starts.{Script}
use Rattle.source_semantics.specs.Any.{IsAnySourceRun}
use Rattle.machine_semantics.specs.Image.{Image, Process}
use Rattle.machine_semantics.specs.State.{Thread}
use Rattle.machine_semantics.specs.Whole.{StackFits, WordsFit, Apart, InsideIsReady}
use Rattle.code_lifting.specs.Compiled.{script_of}
use Rattle.edf_semantics.specs.Run.{tick, state_at, events}
use Rattle.edf_semantics.specs.InTime.{MeetsDeadlines}

-- No tick is stuck, each process is within its declared stack and has the words that it declares,
-- and those inside monitors are apart and ready; each activation ends by its deadline, where that
-- is not past the script's end; and what is told is a run of the program in which any ready process
-- may act.
pub record IsEdfRun (g : Program) (image : Image) (script : Script) : Type 0 where
  pub never_stuck : (t : ℕ) → (tick image (script_of script) t (state_at image (script_of script) t)).stuck ≡ false
  pub stacks : (t k : ℕ) (p : Process) (thread : Thread) → slice_get image.processes k ≡ Some p → slice_get (state_at image (script_of script) t).state.threads k ≡ Some thread → StackFits p thread
  pub words : (t : ℕ) → WordsFit image (state_at image (script_of script) t).state
  pub apart : (t : ℕ) → Apart image (state_at image (script_of script) t).state.threads
  pub ready : (t : ℕ) → InsideIsReady (state_at image (script_of script) t).state.threads
  pub deadlines : MeetsDeadlines image (script_of script)
  pub run : IsAnySourceRun g script (events image (script_of script))
