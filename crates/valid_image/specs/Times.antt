-- Ranks, ceilings and blocks, and the bounds of the recurrence.
use Rattle.std.specs.Prelude.{◌+◌, ◌-◌, ◌&&◌, ◌||◌, ℕ, zero, suc, Bool, true, false, cond, List, length, Option, Some, None, min, max, nat_eq, nat_lt, nat_le, slice_get}
use Rattle.sched_response.specs.Counts.{count_below}
use Rattle.sched_response.specs.Demand.{demand_at}
use Rattle.machine_semantics.specs.Image.{Image, Monitor, Process}
use Rattle.valid_image.specs.Tasks.{tasks_of}
use Rattle.valid_image.specs.Fault.{Fault, unless, or_else, first_in}
use Rattle.valid_image.specs.Sizes.{below, other}
use Rattle.valid_image.specs.Tables.{stay_of_process}

-- ---- ranks

-- the deadline of a process
abbrev pub deadline_of : Option Process → ℕ
deadline_of None = 0
deadline_of (Some p) = p.deadline

abbrev pub deadline_at : Image → ℕ → ℕ
deadline_at image k = deadline_of (slice_get image.processes k)

-- process j ranks higher than k: its deadline is shorter, or as long and it stands first
abbrev pub process_outranks : Image → (j k : ℕ) → Bool
process_outranks image j k = nat_lt (deadline_at image j) (deadline_at image k) || (nat_eq (deadline_at image j) (deadline_at image k) && nat_lt j k)

-- one more than there are processes that rank higher: ranks by deadlines (Leung and Whitehead)
abbrev pub rank_of : Image → ℕ → ℕ
rank_of image k = 1 + count_below (λ j. process_outranks image j k) (length image.processes)

-- ---- ceilings

-- the process reaches an entry of the monitor
abbrev pub is_some : Option ℕ → Bool
is_some None = false
is_some (Some n) = true

abbrev pub enters : Image → (k m : ℕ) → Bool
enters image k m = is_some (stay_of_process image k m)

-- the least rank of the first n processes that enter the monitor, 65535 where none does
abbrev pub least_rank : Image → (m n : ℕ) → ℕ
least_rank image m zero = 65535
least_rank image m (suc n) = min (cond (enters image n m) (rank_of image n) 65535) (least_rank image m n)

abbrev pub ceiling_of : Image → ℕ → ℕ
ceiling_of image m = least_rank image m (length image.processes)

-- ---- blocks

abbrev pub ticks_of : Option ℕ → ℕ
ticks_of None = 0
ticks_of (Some n) = n

-- the stay of process k in monitor m, where the ceiling is at most the rank, as a number
abbrev pub blocking_stay : Image → (rank k m : ℕ) → Option Monitor → ℕ
blocking_stay image rank k m None = 0
blocking_stay image rank k m (Some x) = cond (nat_le x.ceiling rank) (ticks_of (stay_of_process image k m)) 0

-- the longest such stay in the first n monitors
abbrev pub longest_blocking : Image → (rank k n : ℕ) → ℕ
longest_blocking image rank k zero = 0
longest_blocking image rank k (suc n) = max (blocking_stay image rank k n (slice_get image.monitors n)) (longest_blocking image rank k n)

-- that of a process that ranks below
abbrev pub blocking_by : Image → (rank k : ℕ) → Option Process → ℕ
blocking_by image rank k None = 0
blocking_by image rank k (Some p) = cond (nat_lt rank p.rank) (longest_blocking image rank k (length image.monitors)) 0

-- the longest of the first n processes
abbrev pub longest_block : Image → (rank n : ℕ) → ℕ
longest_block image rank zero = 0
longest_block image rank (suc n) = max (blocking_by image rank n (slice_get image.processes n)) (longest_block image rank n)

-- how long a process that ranks below can hold up the rank: its longest stay in a monitor whose
-- ceiling is at most the rank
abbrev pub needed_block : Image → ℕ → ℕ
needed_block image rank = longest_block image rank (length image.processes)

-- ---- the part

abbrev pub ranks_fault : Image → Option Fault
ranks_fault image = first_in (λ k p. other p.rank (rank_of image k)) image.processes

abbrev pub ceilings_fault : Image → Option Fault
ceilings_fault image = first_in (λ m x. other x.ceiling (ceiling_of image m)) image.monitors

abbrev pub blocks_fault : Image → Option Fault
blocks_fault image = first_in (λ k p. below p.block (needed_block image p.rank)) image.processes

-- a rank or ceiling that is not the defined one, or a block below the needed one
abbrev pub rank_fault : Image → Option Fault
rank_fault image = or_else (ranks_fault image) (or_else (ceilings_fault image) (blocks_fault image))

-- ---- bounds

-- the declared bound meets the recurrence (Burns and Wellings), and is no longer than the deadline
abbrev pub process_bound_fault : Image → Process → Option Fault
process_bound_fault image p = or_else (below p.bound (demand_at (tasks_of image) (p.rank - 1) p.bound)) (unless (nat_le p.bound p.deadline) p.bound p.deadline)

abbrev pub bound_fault : Image → Option Fault
bound_fault image = first_in (λ k p. process_bound_fault image p) image.processes
