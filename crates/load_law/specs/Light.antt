-- Light images: each process asks for at most its share of the shortest frame.
use Rattle.std.specs.Prelude.{◌≡◌, ◌≤◌, ◌+◌, ◌*◌, ℕ, Some, length, slice_get}
use Rattle.machine_semantics.specs.Image.{Image, Routine, Process}
use Rattle.built_image.specs.Built.{Responds}
use Rattle.code_measures.specs.Whole.{HasRanks}

-- no deadline is shorter than one share for each process, and none is longer than the frame; what a
-- process runs and is suspended for, with a stay behind each wait and one before it, is within its
-- share
pub record IsLightProcess (count share stay : ℕ) (p : Process) : Type 0 where
  pub deadline : count * share ≤ p.deadline
  pub frame : p.deadline ≤ p.frame
  pub asks : (p.run + p.susp + p.waits * stay) + stay ≤ share

-- so many processes are light, and no entry stays longer than `stay`
pub record IsLight (count share stay : ℕ) (m : Image) : Type 0 where
  pub many : length m.processes ≡ count
  pub each : (k : ℕ) (p : Process) → slice_get m.processes k ≡ Some p → IsLightProcess count share stay p
  pub stays : (r : ℕ) (x : Routine) → slice_get m.routines r ≡ Some x → x.stay ≤ stay

abbrev pub LightImagesRespond : Type 0
LightImagesRespond =
    (count share stay : ℕ) (m : Image) → IsLight count share stay m → HasRanks m → 1 ≤ count → 1 ≤ share
    → count * share ≤ 1000000000
    → (k : ℕ) (p : Process) → slice_get m.processes k ≡ Some p → Responds m p (count * share)
