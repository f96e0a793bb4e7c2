-- An image whose activations end by their deadlines under earliest deadline first; and the law.
use Rattle.std.specs.Prelude.{◌≡◌, ◌≤◌, ◌<◌, ◌+◌, ◌-◌, ℕ, suc, Bool, true, false, List, Contains, length, Some, slice_get}
use Rattle.base.specs.declared.event.Event.{Event}
use Rattle.base.specs.declared.event.Act.TheVariants as act
use Rattle.machine_semantics.specs.Image.{Image, Monitor, Process, Script}
use Rattle.machine_semantics.specs.State.{Idle}
use Rattle.machine_semantics.specs.Walk.{Where}
use Rattle.machine_semantics.specs.Safe.{Parts, ImageFits, part_of}
use Rattle.machine_semantics.specs.Work.{worst_of, activation}
use Rattle.sched_theorem.specs.Placed.{AreRanks}
use Rattle.sched_timing.specs.Views.{is_due}
use Rattle.sched_timing.specs.Timed.{RespectsFrames}
use Rattle.sched_demand.specs.declared.tasks.DemandTask.{DemandTask}
use Rattle.sched_demand.specs.Demand.{task_at, AreTasks, IsReach, IsJudged}
use Rattle.sched_demand.specs.declared.judging.Judgement.TheVariants as judgement
use Rattle.base.specs.Capped.{cap}
use Rattle.source_semantics.specs.Source.{EndsWithin}
use Rattle.edf_semantics.specs.Run.{tick, state_at, events}
use Rattle.edf_semantics.specs.Safe.{IsWaitless, rank_at}

-- the task has the frame, the deadline and the cost of the process
pub record IsTaskOf (p : Process) (t : DemandTask) : Type 0 where
  pub frame : t.frame ≡ p.frame
  pub deadline : t.deadline ≡ p.deadline
  pub cost : t.cost ≡ p.run

-- the rank of a process, from 0
abbrev pub rank_from_zero : Image → ℕ → ℕ
rank_from_zero image k = rank_at image k - 1

-- The premise: the tasks are those of the image in the order of ranks. Its declared costs cover what
-- an activation takes, and the blocks of the tasks the stays, where numbers above the limit count as
-- one above it.
pub record AreDemandsOf (e : Where) (ps : ℕ → Parts) (ts : List DemandTask) (place : ℕ → ℕ) : Type 0 where
  pub tasks : AreTasks ts
  pub many : length ts ≡ length e.image.processes
  pub task : (k : ℕ) (p : Process) → slice_get e.image.processes k ≡ Some p → IsTaskOf p (task_at ts (p.rank - 1))
  pub ranks : AreRanks (length ts) (rank_from_zero e.image) place
  pub covered : (k : ℕ) (p : Process) → slice_get e.image.processes k ≡ Some p → cap (activation e.image.over (worst_of (ps k))) ≤ p.run
  -- the block of the task of a process covers each stay of one with a later deadline, in a monitor
  -- whose ceiling is the rank or a higher one
  pub blocks : (j k m : ℕ) (p q : Process) (monitor : Monitor) (h : Bool)
      → slice_get e.image.processes j ≡ Some p → slice_get e.image.processes k ≡ Some q → slice_get e.image.monitors m ≡ Some monitor
      → p.deadline < q.deadline → monitor.ceiling ≤ p.rank → cap ((part_of (ps k) h).stays m) ≤ (task_at ts (p.rank - 1)).block

-- the events of a tick of the run
abbrev pub told_at : Image → Script → ℕ → List Event
told_at image script t = (tick image script t (state_at image script t)).events

-- the release of process k at the tick is told, and within so many ticks, of which the first is
-- that of the release, the end
pub record ReleasedAndEndsByDeadline (image : Image) (script : Script) (k release bound : ℕ) : Type 0 where
  pub begins : Contains (told_at image script release) (record { tick = release; proc = k; act = act.Release })
  pub tick : ℕ
  pub since : release ≤ tick
  pub soon : tick < release + bound
  pub ends : Contains (told_at image script tick) (record { tick = tick; proc = k; act = act.End })
  pub idle : slice_get (state_at image script (suc tick)).state.threads k ≡ Some Idle

-- a run meets the deadlines
pub record MeetsDeadlines (image : Image) (script : Script) : Type 0 where
  -- no release finds its process unfinished
  pub idle : (k t : ℕ) (p : Process) → slice_get image.processes k ≡ Some p → is_due script t p ≡ true → t < script.end_tick → slice_get (state_at image script t).state.threads k ≡ Some Idle
  pub no_overrun : (t : ℕ) → t < script.end_tick → (tick image script t (state_at image script t)).overrun ≡ false
  -- each activation whose release is due begins, and ends by its deadline, where that is not past
  -- the end
  pub ends : (k t : ℕ) (p : Process) → slice_get image.processes k ≡ Some p → is_due script t p ≡ true → t + p.deadline ≤ script.end_tick → ReleasedAndEndsByDeadline image script k t p.deadline
  -- and so it is in the log: each release is followed by an end of the process within its deadline,
  -- where that is not past the end
  pub log : (k : ℕ) (p : Process) → slice_get image.processes k ≡ Some p → EndsWithin k p.deadline script.end_tick (events image script)

-- what the test says of the tasks, for whatever row has to be tested
abbrev pub IsJudgedFeasible : List DemandTask → ℕ → Type 0
IsJudgedFeasible ts count = (reach : ℕ) → IsReach ts reach → IsJudged ts reach (judgement.Feasible count)

-- The law: where the test says that the demand of an image is feasible, each activation of each run
-- ends by its deadline, whatever the script, as far as it respects the frames.
abbrev pub EveryRunMeetsDeadlines : Type 0
EveryRunMeetsDeadlines = (e : Where) (ps : ℕ → Parts) (script : Script) (ts : List DemandTask) (place : ℕ → ℕ) (count : ℕ) → ImageFits e ps → IsWaitless e ps → AreDemandsOf e ps ts place → IsJudgedFeasible ts count
    → RespectsFrames e.image script → script.end_tick ≤ 1000000000 → MeetsDeadlines e.image script
