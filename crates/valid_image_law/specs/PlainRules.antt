-- The seven parts of validity, each as what an image has to be.
use Rattle.std.specs.Prelude.{◌≡◌, ◌≤◌, ◌<◌, ◌-◌, ◌⊎◌, ℕ, length, take, Some, slice_get}
use Rattle.base.specs.Capped.{cap}
use Rattle.machine_isa.specs.declared.instr.Instr.{Instr}
use Rattle.sched_response.specs.Demand.{demand_at}
use Rattle.machine_semantics.specs.Trees.{Segs}
use Rattle.machine_semantics.specs.Image.{Image, Monitor, Routine, Process}
use Rattle.valid_image.specs.Pieces.{pieces, due_start, piece_number}
use Rattle.valid_image.specs.Tables.{handler_start}
use Rattle.valid_image.specs.Tasks.{tasks_of}
use Rattle.valid_image.specs.Sizes.{needed_by_routine, needed_stay, needed_by_process, with_dispatch, needed_stack, due_base, words_over_all}
use Rattle.valid_image.specs.Times.{rank_of}
use Rattle.valid_image.specs.Operands.{Whose, whose_routine, whose_process}
use Rattle.valid_image_law.specs.Code.{IsRoutine, IsPart}
use Rattle.valid_image_law.specs.Operands.{Fits}
use Rattle.valid_image_law.specs.Reached.{ReachesStay, ReachesWait, IsOwner}

-- ---- what an image has, by its number

abbrev pub HasRoutine : Image → ℕ → Routine → Type 0
HasRoutine image r x = slice_get image.routines r ≡ Some x

abbrev pub HasProcess : Image → ℕ → Process → Type 0
HasProcess image k p = slice_get image.processes k ≡ Some p

abbrev pub HasMonitor : Image → ℕ → Monitor → Type 0
HasMonitor image m x = slice_get image.monitors m ≡ Some x

-- ---- V1: starts, code, coverage

pub record CodeIsOfTrees (image : Image) : Type 0 where
  -- the pieces, routines and then processes, follow one another from address 0 on
  pub routines_start : (r : ℕ) (x : Routine) → HasRoutine image r x → x.start ≡ due_start (pieces image) r
  pub processes_start : (k : ℕ) (p : Process) → HasProcess image k p → p.start ≡ due_start (pieces image) (piece_number image k)
  -- and end where the code ends
  pub all_covered : due_start (pieces image) (length (pieces image)) ≡ length image.code
  -- the code of each is of its tree; a routine calls those before it
  pub routines_are : (r : ℕ) (x : Routine) → HasRoutine image r x → IsRoutine image.code (take r image.routines) x
  pub bodies_are : (k : ℕ) (p : Process) → HasProcess image k p → IsPart image.code image.routines p.body p.start
  pub handlers_are : (k : ℕ) (p : Process) (tree : Segs) → HasProcess image k p → p.handler_tree ≡ Some tree → IsPart image.code image.routines tree (handler_start p)

-- ---- V2: costs. A needed number above 1,000,000,000 counts as one above it.

pub record RoutineCovers (image : Image) (r : ℕ) (x : Routine) : Type 0 where
  pub run : cap (needed_by_routine image r x).run ≤ x.run
  pub susp : cap (needed_by_routine image r x).susp ≤ x.susp
  pub waits : cap (needed_by_routine image r x).waits ≤ x.waits
  pub stay : cap (needed_stay image r x) ≤ x.stay

pub record ProcessCovers (image : Image) (p : Process) : Type 0 where
  pub run : cap (with_dispatch image.over (needed_by_process image p)) ≤ p.run
  pub susp : cap (needed_by_process image p).susp ≤ p.susp
  pub waits : cap (needed_by_process image p).waits ≤ p.waits

-- no declared cost is below what the code needs
pub record CostsCover (image : Image) : Type 0 where
  pub routines : (r : ℕ) (x : Routine) → HasRoutine image r x → RoutineCovers image r x
  pub processes : (k : ℕ) (p : Process) → HasProcess image k p → ProcessCovers image p

-- ---- V3: sizes

pub record SizesSuffice (image : Image) : Type 0 where
  -- the arguments of a routine are among its locals
  pub arguments : (r : ℕ) (x : Routine) → HasRoutine image r x → x.params ≤ x.locals
  -- a process declares as much stack as its code needs
  pub stacks : (k : ℕ) (p : Process) → HasProcess image k p → needed_stack image p ≤ p.stack
  -- the words of the monitors follow one another from 0 on
  pub words : (m : ℕ) (x : Monitor) → HasMonitor image m x → x.base ≡ due_base image.monitors m
  -- and those of all monitors and processes are no more than there may be
  pub all_words : words_over_all image ≤ 1048576

-- ---- V4: ranks, ceilings, blocks

-- process k reaches an entry of monitor m that declares this stay
abbrev pub Stays : Image → (k m stay : ℕ) → Type 0
Stays image k m stay = ReachesStay image m (piece_number image k) (length image.routines) stay

abbrev pub Enters : Image → (k m : ℕ) → Type 0
Enters image k m = (stay : ℕ) × Stays image k m stay

-- the least rank of the processes that enter the monitor, 65535 where none does
pub record IsCeiling (image : Image) (m ceiling : ℕ) : Type 0 where
  pub at_most : ceiling ≤ 65535
  pub least : (k : ℕ) → k < length image.processes → Enters image k m → ceiling ≤ rank_of image k
  pub is_one : (ceiling ≡ 65535) ⊎ ((k : ℕ) × (k < length image.processes) × Enters image k m × (ceiling ≡ rank_of image k))

-- no process that ranks below stays longer than this in a monitor whose ceiling is at most the rank
abbrev pub BlocksAtMost : Image → (rank ticks : ℕ) → Type 0
BlocksAtMost image rank ticks =
    (k m stay : ℕ) (q : Process) (x : Monitor) → HasProcess image k q → HasMonitor image m x
    → rank < q.rank → x.ceiling ≤ rank → Stays image k m stay → stay ≤ ticks

pub record RanksAreDefined (image : Image) : Type 0 where
  -- one more than there are processes that rank higher, by deadline and then by place
  pub ranks : (k : ℕ) (p : Process) → HasProcess image k p → p.rank ≡ rank_of image k
  pub ceilings : (m : ℕ) (x : Monitor) → HasMonitor image m x → IsCeiling image m x.ceiling
  pub blocks : (k : ℕ) (p : Process) → HasProcess image k p → BlocksAtMost image p.rank p.block

-- ---- V5: bounds

pub record BoundHolds (image : Image) (p : Process) : Type 0 where
  -- what the process and those of higher rank ask for within the bound is done within it
  pub meets_recurrence : demand_at (tasks_of image) (p.rank - 1) p.bound ≤ p.bound
  pub within_deadline : p.bound ≤ p.deadline

abbrev pub BoundsHold : Image → Type 0
BoundsHold image = (k : ℕ) (p : Process) → HasProcess image k p → BoundHolds image p

-- ---- V6: operands

-- the operands of each instruction of a piece fit
abbrev pub PieceFits : Image → (piece : ℕ) → Whose → Type 0
PieceFits image piece w = (a : ℕ) (instr : Instr) → IsOwner (pieces image) piece a → slice_get image.code a ≡ Some instr → Fits image w instr

pub record OperandsFit (image : Image) : Type 0 where
  pub routines : (r : ℕ) (x : Routine) → HasRoutine image r x → PieceFits image r (whose_routine r x)
  pub processes : (k : ℕ) (p : Process) → HasProcess image k p → PieceFits image (piece_number image k) (whose_process image k p)

-- ---- V7: handlers

pub record HandlerStands (image : Image) (p : Process) (tree : Segs) : Type 0 where
  -- right after the END of the body
  pub place : p.handler ≡ handler_start p
  -- it reaches no WAIT, by itself or through routines that it calls
  pub no_wait : ReachesWait image (length image.routines) tree → ⊥

abbrev pub HandlersStand : Image → Type 0
HandlersStand image = (k : ℕ) (p : Process) (tree : Segs) → HasProcess image k p → p.handler_tree ≡ Some tree → HandlerStands image p tree

-- ---- all

pub record KeepsAllRules (image : Image) : Type 0 where
  pub code : CodeIsOfTrees image
  pub costs : CostsCover image
  pub sizes : SizesSuffice image
  pub ranks : RanksAreDefined image
  pub bounds : BoundsHold image
  pub operands : OperandsFit image
  pub handlers : HandlersStand image
