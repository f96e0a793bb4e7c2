-- The processes of code as threads.
use Rattle.std.specs.Prelude.{◌<◌, ℕ, List, [], ◌∷◌, map}
use Rattle.machine_semantics.specs.State.{Job, Thread, Idle, Ready, Waiting}
use Rattle.vm_instructions.specs.Silent.{job_of}
use Rattle.vm_instructions.specs.declared.activation.Activation.{Activation as Kept}
use Rattle.vm_state.specs.declared.threads.SchedulingState.{SchedulingState}
use Rattle.vm_state.specs.declared.threads.SchedulingState.TheVariants as stand
use Rattle.vm_state.specs.declared.threads.ControlBlock.{ControlBlock}

-- a process that stands so
abbrev pub thread_by : SchedulingState → Kept → Thread
thread_by stand.Idle job = Idle
thread_by stand.Ready job = Ready (job_of job)
thread_by (stand.Waiting condition due number) job = Waiting condition due number (job_of job)

abbrev pub thread_of : ControlBlock → Thread
thread_of c = thread_by c.stand c.job

abbrev pub threads_of : List ControlBlock → List Thread
threads_of cells = map thread_of cells

-- by process the words of stack that there are
abbrev pub rooms_of : List ControlBlock → List ℕ
rooms_of cells = map (λ (c : ControlBlock). c.job.frames.room) cells

-- each of these is the number of a process
abbrev pub AreBelow : ℕ → List ℕ → Type 0
AreBelow n [] = Unit {0}
AreBelow n (k ∷ ks) = (k < n) × AreBelow n ks
