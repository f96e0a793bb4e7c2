-- Processes with bounds filled in.
use Rattle.std.specs.Prelude.{◌≡◌, ℕ, List, Option, Some, All, IsSome, map, slice_get}
use Rattle.machine_semantics.specs.Image.{Image, Process}
use Rattle.image.specs.declared.raw.RawProcess.{RawProcess}
use Rattle.image.specs.Raw.{process_of}
use Rattle.built_image.specs.Built.{HasLeastBounds}
use Rattle.built_image.specs.Filled.{without_bound}
use Rattle.built_image.specs.Shown.{AreLeast}
use Rattle.built_image_law.specs.Filled.{Each}

abbrev pub but_bound : RawProcess → Process
but_bound p = without_bound (process_of p)

-- the same processes, each with its bound, where it has one
pub record AreBounded (found : List (Option ℕ)) (before now : List RawProcess) : Type 0 where
  pub same : map but_bound now ≡ map but_bound before
  pub bounds : Each (λ k p. (b : ℕ) → slice_get found k ≡ Some (Some b) → p.bound ≡ b) now

-- each process has its bound, where it has one
abbrev pub HasBounds : Image → List (Option ℕ) → Type 0
HasBounds m bounds = (k : ℕ) (p : Process) (b : ℕ) → slice_get m.processes k ≡ Some p
    → slice_get bounds k ≡ Some (Some b) → p.bound ≡ b

-- the least bounds of the image before, if they are all there, are those of the image now
abbrev pub KeepsLeast : Image → List (Option ℕ) → Image → Type 0
KeepsLeast before bounds now = AreLeast before bounds → All IsSome bounds → HasLeastBounds now
