-- What a valid image promises to the machine.
use Rattle.std.specs.Prelude.{◌<◌, ◌^◌}
use Rattle.machine_semantics.specs.Image.{Image, Script}
use Rattle.vm_runner.specs.Runnable.{IsRunnable}
use Rattle.vm_stretch.specs.StretchDue.{AreInOrder}
use Rattle.sched_timing.specs.Timed.{RespectsFrames}
use Rattle.valid_image.specs.Valid.{HasLimits, IsValid}

-- The law: a valid image under a script whose lines are in order and that respects its frames has a
-- run that the machine takes.
abbrev pub ValidRunsAreRunnable : Type 0
ValidRunsAreRunnable = (image : Image) (script : Script) → HasLimits image → IsValid image → RespectsFrames image script → AreInOrder script.lines → script.end_tick < 2 ^ 63 → IsRunnable image script
