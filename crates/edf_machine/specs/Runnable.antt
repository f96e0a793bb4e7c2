-- The runs that the machine takes.
use Rattle.std.specs.Prelude.{◌<◌, ◌^◌, ℕ}
use Rattle.machine_semantics.specs.Image.{Image, Script}
use Rattle.machine_semantics.specs.Queues.{AreQueued}
use Rattle.vm_stretch.specs.StartLawsDue.{HasOwnRanks}
use Rattle.vm_releases.specs.Begin.{NextFits}
use Rattle.vm_stretch.specs.StretchDue.{AreInOrder}
use Rattle.edf_semantics.specs.Run.{state_at}
use Rattle.edf_semantics.specs.Turn.{begun}
use Rattle.edf_semantics.specs.Rows.{IsSafeRun}
use Rattle.edf_semantics.specs.Runs.{HasNoOverrun}

-- what holds of the run of an image without waits whose demand is met, under a script that respects
-- its frames
pub record IsRunnable (image : Image) (script : Script) : Type 0 where
  -- no tick is stuck, and each process is within its stack
  pub safe : IsSafeRun image script
  pub calm : HasNoOverrun image script
  -- before each tick and after its start events the queues hold those who wait
  pub queued : (t : ℕ) → AreQueued (state_at image script t).state
  pub still_queued : (t : ℕ) → AreQueued (begun image script t)
  pub ranks : HasOwnRanks image
  pub order : AreInOrder script.lines
  -- ticks are numbers of 64 bits
  pub fits : (t : ℕ) → t < script.end_tick → NextFits image t
  pub short : script.end_tick < 2 ^ 63
