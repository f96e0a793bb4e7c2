-- The text of a program in code, and what a process does after an exception.
use Rattle.std.specs.Prelude.{◌≡◌, ℕ, Bool, List, Option, Some, None, map, option_map, slice_get}
use Rattle.syntax_tree.specs.Placed.{placed, placed_process, plain, plain_process}
use Rattle.syntax_tree.specs.Plain.{Process, Program}
use Rattle.source_semantics.specs.Names.{processes}
use Rattle.source_semantics.specs.Run.{Call}
use Rattle.source_semantics.specs.Config.{Config, Job, active, changed, released_of, with_jobs}
use Rattle.source_semantics.specs.Source.{job_after_raise, on_job}
use Rattle.replay_state.specs.View.{calls_of}
use Rattle.replay_state.specs.declared.raising.ProgramContext.{ProgramContext}
use Rattle.replay_state.specs.declared.raising.AfterException as code_after

-- the processes are those of the program, in its order
abbrev pub IsText : ProgramContext → Type 0
IsText t = map (λ p. plain_process (placed_process p.now)) t.processes.items ≡ processes (plain (placed t.declarations.now))

-- what is in progress after an exception: calls, and whether the handler runs
pub record After : Type 0 where
  pub calls : List Call
  pub handling : Bool

abbrev pub after_of : code_after.AfterException → After
after_of a = record { calls = calls_of a.calls.items; handling = a.handling }

abbrev pub raised_job : After → Job → Job
raised_job a j = record { vars = j.vars; doing = active (released_of j.doing); calls = a.calls; handling = a.handling }

-- of a process whose handler runs or not, this is in progress after the exception
abbrev pub IsAfter : Program → Process → (number : ℕ) → (handling : Bool) → After → Type 0
IsAfter g p n handling a = (j : Job) → j.handling ≡ handling → job_after_raise g n p.handler j ≡ raised_job a j

abbrev pub after_put : Option After → ℕ → Config → Config
after_put None k c = c
after_put (Some a) k c = with_jobs c (changed (raised_job a) k c.jobs)

abbrev pub handling_at : ℕ → Config → Option Bool
handling_at k c = option_map (λ j. j.handling) (slice_get c.jobs k)

-- what process k does after the exception is this, in each configuration where its handler runs, or
-- not, as in the one at hand
abbrev pub IsPrepared : Program → ℕ → (number : ℕ) → Config → Option After → Type 0
IsPrepared g k n c a = (d : Config) → handling_at k d ≡ handling_at k c → on_job (λ p j. job_after_raise g n p.handler j) g k d ≡ after_put a k d
