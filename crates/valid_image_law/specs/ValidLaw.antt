-- The laws of valid images.
use Rattle.std.specs.Prelude.{◌≡◌, ℕ, false, None, Some, slice_get}
use Rattle.machine_semantics.specs.Image.{Image, Process, Script}
use Rattle.machine_semantics.specs.State.{Thread}
use Rattle.machine_semantics.specs.Tick.{tick}
use Rattle.machine_semantics.specs.Run.{state_at}
use Rattle.machine_semantics.specs.Walk.{Where}
use Rattle.machine_semantics.specs.Safe.{Parts, ImageFits}
use Rattle.machine_semantics.specs.Whole.{StackFits, WordsFit, Apart, InsideIsReady}
use Rattle.sched_timing.specs.Timed.{ImageIsTimed, RespectsFrames, IsInTime}
use Rattle.valid_image.specs.Valid.{fault_of, IsValid, HasLimits}
use Rattle.machine_safety.specs.ValidImages.{meeting}

-- a run is safe: before each tick every process is within its declared stack and has the words that
-- it declares, the processes that are inside monitors are apart, each of them is ready, and no tick
-- is stuck
pub record IsSafe (image : Image) (script : Script) : Type 0 where
  pub never_stuck : (t : ℕ) → (tick image script t (state_at image script t)).stuck ≡ false
  pub stacks : (t k : ℕ) (p : Process) (thread : Thread) → slice_get image.processes k ≡ Some p → slice_get (state_at image script t).threads k ≡ Some thread → StackFits p thread
  pub words : (t : ℕ) → WordsFit image (state_at image script t)
  pub apart : (t : ℕ) → Apart image (state_at image script t).threads
  pub ready : (t : ℕ) → InsideIsReady (state_at image script t).threads

-- The law: every valid image, whoever made it, is safe over every script, and in time over each
-- that respects its frames, with each bound within the deadline and each deadline within the frame.
abbrev pub EveryValidImageIsSafeAndInTime : Type 0
EveryValidImageIsSafeAndInTime = (image : Image) → HasLimits image → IsValid image
    → ((script : Script) → IsSafe image script) × ((script : Script) → RespectsFrames image script → IsInTime image script)

-- what the laws of safety and of time ask of an image
pub record MeetsPremises (image : Image) : Type 0 where
  pub e : Where
  pub ps : ℕ → Parts
  pub of : e.image ≡ image
  pub fits : ImageFits e ps
  pub timed : ImageIsTimed e ps

-- The law: a valid image meets the premises of both.
abbrev pub ValidMeetsPremises : Type 0
ValidMeetsPremises = (image : Image) → HasLimits image → IsValid image → MeetsPremises image

-- The law: an image is valid exactly where it has no fault.
abbrev pub ValidIsWithoutFault : Type 0
ValidIsWithoutFault = (image : Image) → (IsValid image → fault_of image ≡ None) × (fault_of image ≡ None → IsValid image)

-- the example is valid, so each of its runs is safe and in time: no event releases a process of it,
-- so every script respects its frames
abbrev pub MeetingIsSafeAndInTime : Type 0
MeetingIsSafeAndInTime = (script : Script) → IsSafe meeting script × IsInTime meeting script
