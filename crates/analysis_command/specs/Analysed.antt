-- A program with its image but for its bounds, and the levels that are read from it.
use Rattle.std.specs.Prelude.{◌≡◌, ◌<◌, ◌+◌, ℕ, List, [], length, slice_index_or}
use Rattle.syntax_tree.specs.Placed.{Prog, plain}
use Rattle.syntax_tree.specs.declared.place.Place.{Place}
use Rattle.image.specs.Raw.{image_of}
use Rattle.image.specs.declared.raw.RawImage.{RawImage}
use Rattle.valid_image.specs.Tasks.{process_at, tasks_of}
use Rattle.sched_response.specs.declared.tasks.Task.{Task}
use Rattle.sched_response.specs.Demand.{task_at}
use Rattle.sched_table.specs.Table.{IsBoundAt}
use Rattle.sched_sections.specs.declared.levels.Level.{Level}
use Rattle.sched_sections.specs.Levels.{level_at}
use Rattle.sched_program.specs.Tasks.{AreTasksOf}
use Rattle.sched_program.specs.Blockers.{IsBlockerOf}
use Rattle.compile.specs.Steps.{IsRanked}
use Rattle.analysis_command.specs.declared.graph.CallGraph.{CallGraph}
use Rattle.analysis_command.specs.Graphs.{IsCallGraph, IsImageOfText}

-- the image of a program, whose tasks are those of the text, with its calls
pub record IsAnalysed (g : Prog Place) (raw : RawImage) (graph : CallGraph) (tasks : List Task) : Type 0 where
  pub ranked : IsRanked g raw.overhead raw
  pub text : IsImageOfText (plain g) (image_of raw)
  pub calls : IsCallGraph (plain g) (image_of raw) graph
  pub is : tasks ≡ tasks_of (image_of raw)
  pub are : AreTasksOf (plain g) raw.overhead (tasks_of (image_of raw))

-- what is read of a level from the image
pub record IsLevel (g : Prog Place) (raw : RawImage) (level : ℕ) (l : Level) : Type 0 where
  pub name : l.name ≡ slice_index_or raw.names.processes (process_at (image_of raw) level) []
  pub task : l.task ≡ task_at (tasks_of (image_of raw)) level
  pub bound : IsBoundAt (tasks_of (image_of raw)) level l.bound
  pub blocker : IsBlockerOf (plain g) (level + 1) l.task.block l.blocker

-- of each level
pub record AreLevels (g : Prog Place) (raw : RawImage) (ls : List Level) : Type 0 where
  pub one_each : length ls ≡ length raw.processes
  pub each : (level : ℕ) → level < length raw.processes → IsLevel g raw level (level_at ls level)
