-- Tables of the longest declared stays.
use Rattle.std.specs.Prelude.{◌≡◌, ◌<◌, ◌-◌, nat_le, cond, ℕ, List, [], Option, None, length, slice_get, slice_index_or}
use Rattle.machine_semantics.specs.Image.{Image, Process}
use Rattle.sched_response.specs.declared.tasks.Task.{Task}
use Rattle.sched_response.specs.Demand.{demand_at}
use Rattle.valid_image.specs.Fault.{Fault, or_else, unless}
use Rattle.valid_image.specs.Sizes.{below}
use Rattle.valid_image.specs.Tables.{reach, stays_at, stay_of_process}
use Rattle.valid_image.specs.Times.{enters, rank_of, blocking_stay, blocking_by}

-- by routine, in a monitor
pub record AreStaysOfRoutines (image : Image) (m : ℕ) (row : List (Option ℕ)) : Type 0 where
  pub one_each : length row ≡ length image.routines
  pub each : (r : ℕ) → r < length row → slice_index_or row r None ≡ stays_at (reach image) m r

-- the same of the first n routines
pub record AreFirstStays (image : Image) (m n : ℕ) (row : List (Option ℕ)) : Type 0 where
  pub one_each : length row ≡ n
  pub each : (r : ℕ) → r < n → slice_index_or row r None ≡ stays_at (reach image) m r

-- by process, in a monitor
pub record AreStaysOfProcesses (image : Image) (m : ℕ) (row : List (Option ℕ)) : Type 0 where
  pub one_each : length row ≡ length image.processes
  pub each : (k : ℕ) → k < length row → slice_index_or row k None ≡ stay_of_process image k m

-- what a table, by monitor and process, says
abbrev pub stay_in : List (List (Option ℕ)) → (k m : ℕ) → Option ℕ
stay_in rows k m = slice_index_or (slice_index_or rows m []) k None

-- by monitor and process
pub record AreStays (image : Image) (rows : List (List (Option ℕ))) : Type 0 where
  pub one_each : length rows ≡ length image.monitors
  pub each : (m : ℕ) → m < length rows → AreStaysOfProcesses image m (slice_index_or rows m [])

-- the due rank of a process that enters the monitor
abbrev pub entering_rank : Image → (k m : ℕ) → ℕ
entering_rank image k m = cond (enters image k m) (rank_of image k) 65535

-- the stay of process k in monitor m that may hold up the rank, and the longest one
abbrev pub blocking_at : Image → (rank k m : ℕ) → ℕ
blocking_at image rank k m = blocking_stay image rank k m (slice_get image.monitors m)

abbrev pub blocking_of : Image → (rank k : ℕ) → ℕ
blocking_of image rank k = blocking_by image rank k (slice_get image.processes k)

-- the fault of a process's bound, by these tasks
abbrev pub bound_fault_by : List Task → Process → Option Fault
bound_fault_by ts p = or_else (below p.bound (demand_at ts (p.rank - 1) p.bound)) (unless (nat_le p.bound p.deadline) p.bound p.deadline)
