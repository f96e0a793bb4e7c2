-- A valid image, and the fault of one that is not.
use Rattle.std.specs.Prelude.{◌≡◌, ◌≤◌, ◌<◌, ℕ, [], length, Option, Some, None, slice_get}
use Rattle.machine_semantics.specs.Trees.{Segs}
use Rattle.machine_semantics.specs.Image.{Image, Monitor, Routine, Process}
use Rattle.valid_image.specs.Fault.{Fault, or_else}
use Rattle.valid_image.specs.Operands.{operand_fault}
use Rattle.valid_image.specs.Shape.{shape_fault, handler_fault}
use Rattle.valid_image.specs.Sizes.{cost_fault, size_fault}
use Rattle.valid_image.specs.Times.{rank_fault, bound_fault}

-- ---- the parts of validity

-- by the number that is printed
pub data Part : Type 0 where
  -- starts, code of its trees, heights, coverage
  Shape : Part
  -- declared costs
  Costs : Part
  -- sizes
  Sizes : Part
  -- ranks, ceilings, blocks
  Ranks : Part
  -- bounds
  Bounds : Part
  -- operands
  Operands : Part
  -- handlers
  Handlers : Part

abbrev pub number_of : Part → ℕ
number_of Shape = 1
number_of Costs = 2
number_of Sizes = 3
number_of Ranks = 4
number_of Bounds = 5
number_of Operands = 6
number_of Handlers = 7

-- the first fault of a part: routines come before processes, each in order
abbrev pub fault_of_part : Image → Part → Option Fault
fault_of_part image Shape = shape_fault image
fault_of_part image Costs = cost_fault image
fault_of_part image Sizes = size_fault image
fault_of_part image Ranks = rank_fault image
fault_of_part image Bounds = bound_fault image
fault_of_part image Operands = operand_fault image
fault_of_part image Handlers = handler_fault image

-- what is printed: the part's number and the two numbers of its fault
pub record Shown : Type 0 where
  pub number : ℕ
  pub a : ℕ
  pub b : ℕ

abbrev pub shown_of : Part → Option Fault → Option Shown
shown_of part None = None
shown_of part (Some f) = Some (record { number = number_of part; a = f.a; b = f.b })

abbrev pub shown : Image → Part → Option Shown
shown image part = shown_of part (fault_of_part image part)

-- the fault of an image: that of the first part that fails, in the order of the tests
abbrev pub fault_of : Image → Option Shown
fault_of image =
    or_else (shown image Operands)
    (or_else (shown image Shape)
    (or_else (shown image Handlers)
    (or_else (shown image Costs)
    (or_else (shown image Sizes)
    (or_else (shown image Ranks) (shown image Bounds))))))

-- a valid image: no part has a fault
abbrev pub IsValid : Image → Type 0
IsValid image = (part : Part) → fault_of_part image part ≡ None

-- ---- the ranges of an image

-- the monitor of an entry is there
abbrev pub HasOwner : Image → Routine → Type 0
HasOwner image r = r.kind ≡ 2 → (m : Monitor) × (slice_get image.monitors r.owner ≡ Some m)

-- a handler is there exactly where it takes some number
abbrev pub HasHandler : Process → Option Segs → Type 0
HasHandler p None = p.numbers ≡ []
HasHandler p (Some tree) = p.numbers ≡ [] → ⊥

-- the numbers of a process within their limits
pub record IsInLimits (p : Process) : Type 0 where
  pub frame_low : 10 ≤ p.frame
  pub frame_high : p.frame ≤ 1000000000
  pub deadline_low : 10 ≤ p.deadline
  pub deadline_high : p.deadline ≤ p.frame
  pub bound : 1 ≤ p.bound
  pub run : p.run ≤ 1000000001
  pub susp : p.susp ≤ 1000000001
  pub waits : p.waits ≤ 1000000001
  pub block : p.block ≤ 1000000001
  pub stack : p.stack ≤ 4096
  pub handler : HasHandler p p.handler_tree

-- what the bytes of every image give, as far as the laws ask: each number is in the range of its
-- field
pub record HasLimits (image : Image) : Type 0 where
  pub some : 0 < length image.processes
  pub few : length image.processes ≤ 64
  pub processes : (k : ℕ) (p : Process) → slice_get image.processes k ≡ Some p → IsInLimits p
  pub owners : (r : ℕ) (x : Routine) → slice_get image.routines r ≡ Some x → HasOwner image x
