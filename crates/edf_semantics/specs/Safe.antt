-- What the choice keeps, seen as the argument on earliest deadlines sees it; and the law that no
-- tick is stuck.
use Rattle.std.specs.Prelude.{◌≡◌, ℕ, false, List, Option, Some, None, slice_get}
use Rattle.machine_semantics.specs.Image.{Image, Process, Script}
use Rattle.machine_semantics.specs.State.{Thread, Idle, Ready, Waiting}
use Rattle.machine_semantics.specs.Walk.{Where}
use Rattle.machine_semantics.specs.Safe.{Parts, ImageFits}
use Rattle.machine_semantics.specs.Whole.{ceiling_of, StackFits, WordsFit, Apart, InsideIsReady}
use Rattle.machine_semantics.specs.Waits.{IsRanked}
use Rattle.sched_theorem.specs.Stretches.{flag}
use Rattle.sched_theorem.specs.Dispatched.{Stay}
use Rattle.sched_demand.specs.Activations.{Activation}
use Rattle.edf_semantics.specs.Choice.{Mark}
use Rattle.edf_semantics.specs.Run.{tick, state_at}

-- ---- views

abbrev pub no_activation : Activation
no_activation = record { left = 0; release = 0; had = 0 }

-- a ready process has an activation; how much is left of it does not count here
abbrev pub act : Option Thread → Option Mark → Activation
act (Some (Ready job)) (Some m) = record { left = 1; release = m.release; had = flag m.begun }
act (Some (Ready job)) None = no_activation
act (Some Idle) m = no_activation
act (Some (Waiting condition due number job)) m = no_activation
act None m = no_activation

abbrev pub inside_of : Option Thread → Option ℕ
inside_of (Some (Ready job)) = job.inside
inside_of (Some Idle) = None
inside_of (Some (Waiting condition due number job)) = None
inside_of None = None

-- nor how much of a stay
abbrev pub stay_of : Image → Option ℕ → Option Stay
stay_of image None = None
stay_of image (Some m) = Some (record { ceiling = ceiling_of image m; left = 0 })

abbrev pub acts : List Thread → List Mark → ℕ → Activation
acts ts ms k = act (slice_get ts k) (slice_get ms k)

abbrev pub insides : Image → List Thread → ℕ → Option Stay
insides image ts k = stay_of image (inside_of (slice_get ts k))

abbrev pub rank_of_some : Option Process → ℕ
rank_of_some None = 0
rank_of_some (Some p) = p.rank

abbrev pub deadline_of_some : Option Process → ℕ
deadline_of_some None = 0
deadline_of_some (Some p) = p.deadline

abbrev pub rank_at : Image → ℕ → ℕ
rank_at image k = rank_of_some (slice_get image.processes k)

abbrev pub deadline_at : Image → ℕ → ℕ
deadline_at image k = deadline_of_some (slice_get image.processes k)

-- ---- the law

-- no two processes have the same rank, and no activation waits
pub record IsWaitless (e : Where) (ps : ℕ → Parts) : Type 0 where
  pub ranked : IsRanked e.image
  pub one_each : (j k : ℕ) (p q : Process) → slice_get e.image.processes j ≡ Some p → slice_get e.image.processes k ≡ Some q → p.rank ≡ q.rank → j ≡ k
  pub no_waits : (k : ℕ) (p : Process) → slice_get e.image.processes k ≡ Some p → (ps k).body_cost.waits ≡ 0

-- The law: in a whole run under this choice no tick is stuck, each process is within its stack, the
-- ceilings keep the processes that are inside monitors apart, and each of these is ready.
abbrev pub EveryRunIsSafe : Type 0
EveryRunIsSafe = (e : Where) (ps : ℕ → Parts) (script : Script) (t : ℕ) → ImageFits e ps → IsWaitless e ps
    → ((tick e.image script t (state_at e.image script t)).stuck ≡ false)
    × ((k : ℕ) (p : Process) (th : Thread) → slice_get e.image.processes k ≡ Some p → slice_get (state_at e.image script t).state.threads k ≡ Some th → StackFits p th)
    × Apart e.image (state_at e.image script t).state.threads
    × InsideIsReady (state_at e.image script t).state.threads

-- The law: in such a run each process keeps as many words as it declares.
abbrev pub RunKeepsWords : Type 0
RunKeepsWords = (e : Where) (ps : ℕ → Parts) (script : Script) (t : ℕ) → ImageFits e ps → IsWaitless e ps → WordsFit e.image (state_at e.image script t).state
