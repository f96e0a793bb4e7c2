-- Scripts that suit an image.
use Rattle.std.specs.Prelude.{◌≡◌, ◌≤◌, ℕ, Some, slice_get}
use Rattle.image.specs.declared.names.ImageNames.{ImageNames}
use Rattle.machine_semantics.specs.Image.{Image, Process, Script}
use Rattle.script.specs.Scripts.{frame_of}
use Rattle.vm_stretch.specs.StretchDue.{AreInOrder}
use Rattle.sched_timing.specs.Timed.{RespectsFrames}

-- the lines of the script are in order, its events respect the frames of the image's processes, and
-- it ends by tick 1,000,000,000
pub record Suits (image : Image) (script : Script) : Type 0 where
  pub order : AreInOrder script.lines
  pub frames : RespectsFrames image script
  pub end : script.end_tick ≤ 1000000000

-- the frame that stands at an event is that of the process that it releases
abbrev pub HasFrames : ImageNames → Image → Type 0
HasFrames names image = (k : ℕ) (p : Process) → slice_get image.processes k ≡ Some p → p.kind ≡ 1 → frame_of names p.event ≡ p.frame
