-- What is filled in of processes and monitors, one step after the other.
use Rattle.std.specs.Prelude.{◌≡◌, ℕ, List, Some, length, map, slice_get}
use Rattle.machine_semantics.specs.Image.{Image, Monitor, Process}
use Rattle.image.specs.declared.raw.RawImage.{RawImage}
use Rattle.image.specs.declared.raw.RawMonitor.{RawMonitor}
use Rattle.image.specs.declared.raw.RawProcess.{RawProcess}
use Rattle.image.specs.Raw.{image_of, monitor_of, process_of}
use Rattle.valid_image.specs.Times.{rank_of, ceiling_of, needed_block}
use Rattle.built_image.specs.Filled.{without_rank, without_ranks, without_ceiling}
use Rattle.built_image_law.specs.Filled.{Each, without_block, without_blocks}

-- ---- what is due

-- a number of each of so many, as it is due of it
pub record AreDue (due : ℕ → ℕ) (many : ℕ) (numbers : List ℕ) : Type 0 where
  pub one_each : length numbers ≡ many
  pub each : Each (λ k x. x ≡ due k) numbers

-- the blocks of the processes, by their ranks
abbrev pub blocks_of : Image → List ℕ
blocks_of m = map (λ p. needed_block m p.rank) m.processes

-- ---- lists

abbrev pub but_rank : RawProcess → Process
but_rank p = without_rank (process_of p)

abbrev pub but_ceiling : RawMonitor → Monitor
but_ceiling x = without_ceiling (monitor_of x)

abbrev pub but_block : RawProcess → Process
but_block p = without_block (process_of p)

-- the same processes, each with its rank of these
pub record HaveRanks (ranks : List ℕ) (before now : List RawProcess) : Type 0 where
  pub same : map but_rank now ≡ map but_rank before
  pub each : Each (λ k p. slice_get ranks k ≡ Some p.rank) now

-- the same monitors, each with its ceiling of these
pub record HaveCeilings (ceilings : List ℕ) (before now : List RawMonitor) : Type 0 where
  pub same : map but_ceiling now ≡ map but_ceiling before
  pub each : Each (λ j x. slice_get ceilings j ≡ Some x.ceiling) now

-- the same processes, each with its block of these, and its deadline as its bound
pub record HaveBlocks (blocks : List ℕ) (before now : List RawProcess) : Type 0 where
  pub same : map but_block now ≡ map but_block before
  pub each : Each (λ k p. slice_get blocks k ≡ Some p.block) now
  pub bounds : Each (λ k p. p.bound ≡ p.deadline) now

-- ---- images

-- the same image with the ranks and ceilings that are due in it
pub record IsRanked (before now : RawImage) : Type 0 where
  pub program : now.program ≡ before.program
  pub names : now.names ≡ before.names
  pub same : without_ranks (image_of now) ≡ without_ranks (image_of before)
  pub ranks : Each (λ k p. p.rank ≡ rank_of (image_of before) k) (image_of now).processes
  pub ceilings : Each (λ j x. x.ceiling ≡ ceiling_of (image_of before) j) (image_of now).monitors

-- the same image with the blocks of the ranks and ceilings that it has
pub record IsBlocked (before now : RawImage) : Type 0 where
  pub program : now.program ≡ before.program
  pub names : now.names ≡ before.names
  pub same : without_blocks (image_of now) ≡ without_blocks (image_of before)
  pub blocks : Each (λ k p. p.block ≡ needed_block (image_of before) p.rank) (image_of now).processes
  pub bounds : Each (λ k p. p.bound ≡ p.deadline) (image_of now).processes
