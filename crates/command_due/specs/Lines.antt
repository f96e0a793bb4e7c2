-- The lines that tell how many ticks each process of an image can spare.
use Rattle.std.specs.Prelude.{◌≡◌, ◌-◌, ◌++◌, ℕ, List, [], ◌∷◌, Some, codes, decimal, length, slice_get, slice_index_or}
use Rattle.std.specs.List.{concat}
use Rattle.sched_response.specs.declared.tasks.Task.{Task}
use Rattle.sched_response.specs.Demand.{IsBound}
use Rattle.machine_semantics.specs.Image.{Process}
use Rattle.valid_image.specs.Tasks.{process_at, tasks_of}
use Rattle.image.specs.Named.{NamedImage}
use Rattle.sched_sensitivity.specs.declared.spare.Spare.{Spare}
use Rattle.sched_sensitivity.specs.Slack.{with_more, IsSpare}

-- ---- how a line is written

-- numbers, each behind a space
abbrev pub spaced : List ℕ → List ℕ
spaced [] = []
spaced (n ∷ ns) = codes " " ++ (decimal n ++ spaced ns)

-- the name of a process, its spare ticks, the bounds with these, and the name of the process that
-- fails with one more
unfoldable pub slack_line : (name : List ℕ) (extra : ℕ) (bounds : List ℕ) (failing : List ℕ) → List ℕ
slack_line name extra bounds failing =
    codes "slack " ++ (name ++ (codes " " ++ (decimal extra ++ (codes " bounds" ++ (spaced bounds ++ (codes " fails " ++ (failing ++ codes "\n")))))))

-- the name of process number k
abbrev pub name_at : NamedImage → ℕ → List ℕ
name_at n k = slice_index_or n.names.processes k []

-- ---- what a line tells

-- for each process, in the order of the text, the least bound of its rank, where these are the
-- tasks
pub record AreLeastBounds (processes : List Process) (tasks : List Task) (bounds : List ℕ) : Type 0 where
  pub one_each : length bounds ≡ length processes
  pub each : (k : ℕ) (p : Process) (bound : ℕ) → slice_get processes k ≡ Some p → slice_get bounds k ≡ Some bound → IsBound tasks (p.rank - 1) bound

-- the line of a process: the ticks that its rank can spare, the least bounds where it runs for
-- these ticks more, and the process of the first rank that has no bound with one tick more; ranks
-- count from 1, levels from 0
pub record IsSlackLine (n : NamedImage) (number : ℕ) (p : Process) (line : List ℕ) : Type 0 where
  pub spare : Spare
  pub can : IsSpare (tasks_of n.image) (p.rank - 1) spare
  pub bounds : List ℕ
  pub least : AreLeastBounds n.image.processes (with_more (tasks_of n.image) (p.rank - 1) spare.extra) bounds
  pub is : line ≡ slack_line (name_at n number) spare.extra bounds (name_at n (process_at n.image spare.fails))

-- one line for each process, in the order of the text
pub record IsSlackText (n : NamedImage) (text : List ℕ) : Type 0 where
  pub lines : List (List ℕ)
  pub one_each : length lines ≡ length n.image.processes
  pub each : (k : ℕ) (p : Process) (line : List ℕ) → slice_get n.image.processes k ≡ Some p → slice_get lines k ≡ Some line → IsSlackLine n k p line
  pub is : text ≡ concat lines
