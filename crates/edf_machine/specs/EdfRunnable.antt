-- What an image without waits promises to the machine under earliest deadline first.
use Rattle.std.specs.Prelude.{◌≡◌, ◌≤◌, ◌<◌, ◌^◌, ℕ, All, Some, slice_get}
use Rattle.image.specs.declared.names.ImageNames.{ImageNames}
use Rattle.machine_semantics.specs.Image.{Image, Process, Script}
use Rattle.machine_semantics.specs.Walk.{Where}
use Rattle.machine_semantics.specs.Safe.{Parts, ImageFits}
use Rattle.vm_stretch.specs.StretchDue.{AreInOrder}
use Rattle.edf_semantics.specs.Run.{events}
use Rattle.edf_semantics.specs.Safe.{IsWaitless}
use Rattle.edf_semantics.specs.Runs.{HasNoOverrun}
use Rattle.edf_machine.specs.Runnable.{IsRunnable}
use Rattle.event_log.specs.InRange.{AreIn}
use Rattle.vm_law.specs.Logged.{AreNamesOf}
use Rattle.vm_law.specs.Operands.{AreThere}

-- no frame is longer than 1,000,000,000 ticks
abbrev pub FramesAreShort : Image → Type 0
FramesAreShort image = (k : ℕ) (p : Process) → slice_get image.processes k ≡ Some p → p.frame ≤ 1000000000

-- The law: an image that fits its trees and waits nowhere, under a script whose lines are in order,
-- has a run that the machine takes, where no release finds its process unfinished.
abbrev pub WaitlessRunsAreRunnable : Type 0
WaitlessRunsAreRunnable = (e : Where) (ps : ℕ → Parts) (script : Script) → ImageFits e ps → IsWaitless e ps → FramesAreShort e.image → HasNoOverrun e.image script
    → AreInOrder script.lines → script.end_tick < 2 ^ 63 → IsRunnable e.image script

-- The law: each event of its runs up to tick 1,000,000,000 has a line.
abbrev pub WaitlessRunsHaveLines : Type 0
WaitlessRunsHaveLines = (names : ImageNames) (e : Where) (ps : ℕ → Parts) (script : Script) → ImageFits e ps → IsWaitless e ps → AreThere e.image → AreNamesOf names e.image
    → script.end_tick ≤ 1000000000 → All (AreIn names) (events e.image script)
