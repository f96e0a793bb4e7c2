-- A process that acts where its calls stand.
use Rattle.std.specs.Prelude.{◌≡◌, ◌⊎◌, ℕ, true, [], Option, Some, None, slice_get}
use Rattle.syntax_tree.specs.Placed.{placed, placed_process, placed_stmts, plain, plain_process, plain_stmts}
use Rattle.syntax_tree.specs.Plain.{Process, Program}
use Rattle.source_semantics.specs.Names.{processes}
use Rattle.source_semantics.specs.Config.{Config, Job, at_tick, changed, idle, inside, job_calls, job_doing, vars_of, with_jobs}
use Rattle.source_semantics.specs.Source.{job_next}
use Rattle.replay_direct.specs.Direct.{calls_from, direct_next, found_next}
use Rattle.replay_direct.specs.declared.direct.DirectAction.{DirectAction}
use Rattle.replay_direct.specs.declared.direct.DirectAction.TheVariants as direct_is
use Rattle.replay_direct.specs.declared.found.FoundAction.{FoundAction}
use Rattle.replay_state.specs.View.{job_of}
use Rattle.replay_accept.specs.declared.act_events.ActingProcess.{ActingProcess}

-- this is the next action of process k
abbrev pub IsDirect : Program → Config → ℕ → DirectAction → Type 0
IsDirect g c k d =
    (p : Process) × (j : Job) × (slice_get (processes g) k ≡ Some p) × (slice_get c.jobs k ≡ Some j) × (direct_next d j.calls j.vars (vars_of c (inside c k)) ≡ job_next c k p j g)

-- process k of the program and its job, if there is such a process, and what its expressions are
-- evaluated over
abbrev pub IsActing : Program → Config → ℕ → Option ActingProcess → Type 0
IsActing g c k None = (slice_get (processes g) k ≡ None) ⊎ (slice_get c.jobs k ≡ None)
IsActing g c k (Some a) =
    (slice_get (processes g) k ≡ Some (plain_process (placed_process a.scope.process.now))) × (slice_get c.jobs k ≡ Some (job_of a.job.now)) × (plain (placed a.scope.declarations.now) ≡ g)

-- the same, if there is such a process, where it may have come of a run
abbrev pub IsFound : Program → Config → ℕ → Option FoundAction → Type 0
IsFound g c k None = (slice_get (processes g) k ≡ None) ⊎ (slice_get c.jobs k ≡ None)
IsFound g c k (Some f) =
    (p : Process) × (j : Job) × (slice_get (processes g) k ≡ Some p) × (slice_get c.jobs k ≡ Some j) × (found_next f j.calls j.vars (vars_of c (inside c k)) ≡ job_next c k p j g)

abbrev pub job_after : DirectAction → Job → Job
job_after (direct_is.Puts d v ss) j = job_calls (calls_from (plain_stmts (placed_stmts ss.now)) j.calls) j
job_after direct_is.Ends j = job_doing idle (job_calls [] j)

-- the configuration after it at tick t
abbrev pub config_after : ℕ → ℕ → DirectAction → Config → Config
config_after t k d c = with_jobs (at_tick c t true) (changed (job_after d) k c.jobs)
