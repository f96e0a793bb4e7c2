-- The law of the names of images that files hold.
use Rattle.std.specs.Prelude.{◌≡◌, ◌≤◌, ℕ, List, All, Some, length, slice_get}
use Rattle.image.specs.declared.raw.RawImage.{RawImage}
use Rattle.image.specs.Raw.{image_of}
use Rattle.image_reader.specs.Answer.{Holds}
use Rattle.event_log.specs.InRange.{AreSound}
use Rattle.machine_semantics.specs.Image.{Process}
use Rattle.script.specs.Scripts.{frame_of}

-- the names can stand in a line and are as many as the parts; and each process is periodic or
-- released by an event
pub record IsNamed (raw : RawImage) : Type 0 where
  pub sound : AreSound raw.names
  pub processes : length raw.names.processes ≡ length raw.processes
  pub monitors : length raw.names.monitors ≡ length raw.monitors
  pub conditions : length raw.names.conditions ≤ 256
  pub devices : length raw.names.devices ≤ 64
  pub kinds : All (λ p. p.kind ≤ 1) raw.processes
  -- the frame that stands at an event is that of the process that it releases
  pub frames : (k : ℕ) (p : Process) → slice_get (image_of raw).processes k ≡ Some p → p.kind ≡ 1 → frame_of raw.names p.event ≡ p.frame

-- The law: so it is with each image that a file holds.
abbrev pub ImagesReadAreNamed : Type 0
ImagesReadAreNamed = (bytes : List ℕ) (raw : RawImage) → Holds bytes raw → IsNamed raw
