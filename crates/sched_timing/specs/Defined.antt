-- What the tests of ranks, ceilings and blocks say of an image.
use Rattle.std.specs.Prelude.{◌≡◌, ◌≤◌, ◌<◌, ◌-◌, ◌⊎◌, ℕ, Bool, List, length, Option, Some, None, slice_get, slice_index, slice_index_or}
use Rattle.sched_response.specs.declared.uses.Use.{Use}
use Rattle.sched_response.specs.Ranked.{use_at, AreRanks, stay_at, IsBlocking}
use Rattle.base.specs.Capped.{cap}
use Rattle.sched_response.specs.Demand.{IsTask, Solves}
use Rattle.machine_semantics.specs.Image.{Process, Monitor}
use Rattle.machine_semantics.specs.Walk.{Where}
use Rattle.machine_semantics.specs.Safe.{Parts, part_of}
use Rattle.machine_semantics.specs.Work.{worst_of}
use Rattle.valid_image.specs.Tasks.{task_of, tasks_of}
use Rattle.sched_timing.specs.Timed.{IsCovered, ImageIsTimed}

-- a ceiling as an image shows it
abbrev pub shown : Option ℕ → ℕ
shown None = 65535
shown (Some rank) = rank

-- the entries that a process reaches tell a stay in the monitor that is no shorter, but for the cap
pub record IsTold (u : Use) (m ticks : ℕ) : Type 0 where
  pub index : ℕ
  pub within : index < length u.stays
  pub monitor : (stay_at u.stays index).mon ≡ m
  pub enough : cap ticks ≤ (stay_at u.stays index).ticks

-- the declared ranks and ceilings are those defined by what each process uses, and no declared
-- block is below the defined one
pub record AreDefined (e : Where) (ps : ℕ → Parts) (us : List Use) (ranks : List ℕ) (ceilings : List (Option ℕ)) : Type 0 where
  pub many : length us ≡ length e.image.processes
  pub deadlines : (k : ℕ) (p : Process) → slice_get e.image.processes k ≡ Some p → (use_at us k).deadline ≡ p.deadline
  pub stays : (k m : ℕ) (p : Process) (monitor : Monitor) (h : Bool) → slice_get e.image.processes k ≡ Some p → slice_get e.image.monitors m ≡ Some monitor
      → ((part_of (ps k) h).stays m ≡ 0) ⊎ IsTold (use_at us k) m ((part_of (ps k) h).stays m)
  pub ranked : AreRanks us ranks
  pub shown_rank : (k : ℕ) (p : Process) → slice_get e.image.processes k ≡ Some p → p.rank ≡ slice_index ranks k
  pub shown_ceiling : (m : ℕ) (monitor : Monitor) → slice_get e.image.monitors m ≡ Some monitor → monitor.ceiling ≡ shown (slice_index_or ceilings m None)
  pub blocks : (k : ℕ) (p : Process) → slice_get e.image.processes k ≡ Some p → (b : ℕ) × IsBlocking us ranks ceilings p.rank b × (b ≤ p.block)

-- the numbers of an image are in their limits, its costs cover, and its bounds solve the recurrence
-- within the deadlines
pub record AreTested (e : Where) (ps : ℕ → Parts) : Type 0 where
  pub some : 0 < length e.image.processes
  pub few : length e.image.processes ≤ 64
  pub limits : (k : ℕ) (p : Process) → slice_get e.image.processes k ≡ Some p → IsTask (task_of (Some p))
  pub covered : (k : ℕ) (p : Process) → slice_get e.image.processes k ≡ Some p → IsCovered e.image.over (worst_of (ps k)) p
  pub solved : (k : ℕ) (p : Process) → slice_get e.image.processes k ≡ Some p → Solves (tasks_of e.image) (p.rank - 1) p.bound

-- The law: such an image is timed.
abbrev pub UsesMakeImagesTimed : Type 0
UsesMakeImagesTimed = (e : Where) (ps : ℕ → Parts) (us : List Use) (ranks : List ℕ) (ceilings : List (Option ℕ)) → AreDefined e ps us ranks ceilings → AreTested e ps → ImageIsTimed e ps
