-- Ticks that pass at once: while nothing starts, and the process that runs stays at one instruction
-- or goes on burning.
use Rattle.std.specs.Prelude.{◌+◌, ◌-◌, ◌≤◌, ℕ, zero, suc, ℤ, List, [], Option, Some, None, if◌then◌else◌, slice_get, nat_lt, false}
use Rattle.machine_isa.specs.declared.instr.Instr.{Instr}
use Rattle.machine_isa.specs.Ticks.{ticks}
use Rattle.machine_semantics.specs.Image.{Image, Process}
use Rattle.machine_semantics.specs.State.{Job, Thread, Idle, Ready, Waiting, State}
use Rattle.machine_semantics.specs.Effect.{Outcome, Goes, Stuck, effect}
use Rattle.machine_semantics.specs.Tick.{Candidate, Ticked, at_next, owned_of, settle}

-- ticks left of an instruction of which so many have passed; where there is no instruction, the one
-- in which that shows
abbrev pub left_at : ℕ → Option Instr → ℕ
left_at done (Some instr) = ticks instr - done
left_at done None = 1

-- ticks left of what the activation is at: of its burn, where it has one, else of its instruction
abbrev pub left_of : ℕ → ℕ → Option Instr → ℕ
left_of (suc n) done at = suc n
left_of zero done at = left_at done at

abbrev pub left : Image → Job → ℕ
left image job = left_of job.dispatch_ticks job.done (slice_get image.code job.place)

-- n ticks of its instruction, whose effect comes in the last of its ticks
abbrev pub outcome_at_once : Image → State → Job → List ℤ → ℕ → Option Instr → Outcome
outcome_at_once image s job owned n None = Stuck
outcome_at_once image s job owned n (Some instr) =
    if nat_lt (job.done + n) (ticks instr)
    then Goes (record { job = record job { done = job.done + n }; owned = owned; shared = s.shared })
    else effect image s instr (record { job = at_next job; owned = owned; shared = s.shared })

-- n ticks of dispatch while there are some to burn, else n ticks of its instruction
abbrev pub outcomes : Image → State → Job → List ℤ → ℕ → ℕ → Outcome
outcomes image s job owned n (suc b) = Goes (record { job = record job { dispatch_ticks = suc b - n }; owned = owned; shared = s.shared })
outcomes image s job owned n zero = outcome_at_once image s job owned n (slice_get image.code job.place)

-- n ticks of process k, which is ready, from tick t on
abbrev pub pass_thread : Image → ℕ → ℕ → ℕ → State → Option Process → Option Thread → Ticked
pass_thread image t n k s (Some p) (Some (Ready job)) = settle image (t + (n - 1)) k p job s (outcomes image s job (owned_of (slice_get s.owned k)) n job.dispatch_ticks)
pass_thread image t n k s p thread = record { state = s; events = []; stuck = false }

-- n ticks from tick t on, whose start events are done, with this process in place of the pick;
-- where it is none, they are idle
abbrev pub pass : Image → ℕ → ℕ → State → Option ℕ → Ticked
pass image t n s None = record { state = s; events = []; stuck = false }
pass image t n s (Some k) = pass_thread image t n k s (slice_get image.processes k) (slice_get s.threads k)

-- so many ticks are at most those left of what the process is at
abbrev pub FitsThread : Image → ℕ → Option Thread → Type 0
FitsThread image n (Some (Ready job)) = n ≤ left image job
FitsThread image n thread = Unit {0}

abbrev pub FitsIn : Image → ℕ → State → Option ℕ → Type 0
FitsIn image n s None = Unit {0}
FitsIn image n s (Some k) = FitsThread image n (slice_get s.threads k)

-- the number of the candidate
abbrev pub place_of : Option Candidate → Option ℕ
place_of None = None
place_of (Some c) = Some c.place
