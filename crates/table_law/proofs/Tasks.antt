-- The tasks of a table are those of its program, from the agreement of their parts.
use Rattle.std.proofs.Common.{◌≡◌, ◌+◌, ◌-◌, ◌*◌, ℕ, List, Some, length, ap, sym, ◌∙◌, subst, arith}
use Rattle.std.specs.Prelude.{slice_get}
use Rattle.std.proofs.lemmas.List.{length-map}
use Rattle.base.specs.Capped.{cap}
use Rattle.base.proofs.Lists.{map_get}
use Rattle.syntax_tree.specs.Plain.{Process}
use Rattle.source_semantics.specs.Names.{processes}
use Rattle.source_semantics.specs.Ranks.{rank}
use Rattle.code_cost_spec.specs.Levels.{cost_of_process}
use Rattle.sched_response.specs.declared.tasks.Task.{Task}
use Rattle.sched_response.specs.Demand.{task_at, IsBound}
use Rattle.sched_program.specs.Tasks.{with_dispatches, IsTaskOf, AreTasksOf}
use Rattle.table_format.specs.declared.table.TaskLine.{TaskLine}
use Rattle.table_format.specs.declared.table.TaskTable.{TaskTable}
use Rattle.table_format.specs.Rules.{IsBegun}
use Rattle.table_law.specs.Costs.{table_program, process_of, HasProcesses, HasCosts}
use Rattle.table_law.specs.Frames.{HasFrames, HasDeadlines}
use Rattle.table_law.specs.Tasks.{IsTableBlock, IsTaskOfLine, AreTableTasks}
use Rattle.table_law.specs.Agree.{RanksAreOfTheTable, BlocksAreOfTheTable, TasksAreOfTheTable, TablesAreInTime, BoundsAreOfTheTable}
use Rattle.table_law.proofs.Elements.{got_map}

module _ (are : HasProcesses) (costs : HasCosts) (frames : HasFrames) (due : HasDeadlines) (ranks : RanksAreOfTheTable) (blocks : BlocksAreOfTheTable) (t : TaskTable) (begun : IsBegun t) (over : ℕ) where
  asked : (k : ℕ) (line : TaskLine) → slice_get t.tasks k ≡ Some line → cap (with_dispatches over (cost_of_process (table_program t) k (process_of t line))) ≡ cap (line.cost + 2 * over)
  asked k line there =
      let one : line.cost + 2 * over * (1 + 0) ≡ line.cost + 2 * over = omega arith in
      ap (λ c. cap (with_dispatches over c)) (costs t begun k line there) ∙ ap cap one

  to_program : (k : ℕ) (line : TaskLine) (task : Task) → slice_get t.tasks k ≡ Some line → IsTaskOfLine t over k line task → IsTaskOf (table_program t) over k (process_of t line) task
  to_program k line task there is = record {
    frame = is.frame ∙ sym (frames t line);
    deadline = is.deadline ∙ sym (due t line);
    run = is.run ∙ sym (asked k line there);
    susp = is.susp ∙ sym (ap (λ c. cap c.susp) (costs t begun k line there));
    waits = is.waits ∙ sym (ap (λ c. cap c.waits) (costs t begun k line there));
    block = (blocks t begun (rank (table_program t) k) task.block).0 (subst (λ r. IsTableBlock t r task.block) (sym (ranks t k)) is.block);
  }

  to_table : (k : ℕ) (line : TaskLine) (task : Task) → slice_get t.tasks k ≡ Some line → IsTaskOf (table_program t) over k (process_of t line) task → IsTaskOfLine t over k line task
  to_table k line task there is = record {
    frame = is.frame ∙ frames t line;
    deadline = is.deadline ∙ due t line;
    run = is.run ∙ asked k line there;
    susp = is.susp ∙ ap (λ c. cap c.susp) (costs t begun k line there);
    waits = is.waits ∙ ap (λ c. cap c.waits) (costs t begun k line there);
    block = subst (λ r. IsTableBlock t r task.block) (ranks t k) ((blocks t begun (rank (table_program t) k) task.block).1 is.block);
  }

  as_many : length (processes (table_program t)) ≡ length t.tasks
  as_many = ap (λ (ps : List Process). length ps) (are t) ∙ length-map t.tasks (process_of t)

  all_to_program : (ts : List Task) → AreTableTasks t over ts → AreTasksOf (table_program t) over ts
  all_to_program ts is = record {
    one_each = is.one_each ∙ sym as_many;
    each = λ k p there. (let it = got_map (process_of t) t.tasks k p (ap (λ (ps : List Process). slice_get ps k) (sym (are t)) ∙ there) in
        subst (λ q. IsTaskOf (table_program t) over k q (task_at ts (rank (table_program t) k - 1))) (sym it.2)
        (to_program k it.0 (task_at ts (rank (table_program t) k - 1)) it.1
        (subst (λ r. IsTaskOfLine t over k it.0 (task_at ts (r - 1))) (sym (ranks t k)) (is.each k it.0 it.1))));
  }

  all_to_table : (ts : List Task) → AreTasksOf (table_program t) over ts → AreTableTasks t over ts
  all_to_table ts is = record {
    one_each = is.one_each ∙ as_many;
    each = λ k line there. subst (λ r. IsTaskOfLine t over k line (task_at ts (r - 1))) (ranks t k)
        (to_table k line (task_at ts (rank (table_program t) k - 1)) there
        (is.each k (process_of t line) (ap (λ (ps : List Process). slice_get ps k) (are t) ∙ map_get (process_of t) t.tasks k line there)));
  }

pub tasks_are : HasProcesses → HasCosts → HasFrames → HasDeadlines → RanksAreOfTheTable → BlocksAreOfTheTable → TasksAreOfTheTable
tasks_are are costs frames due ranks blocks t begun over ts =
    (all_to_program are costs frames due ranks blocks t begun over ts, all_to_table are costs frames due ranks blocks t begun over ts)

pub in_time : TasksAreOfTheTable → TablesAreInTime
in_time tasks t begun over = (
  λ is. record { tasks = is.tasks; are = (tasks t begun over is.tasks).0 is.are; each = is.each },
  λ is. record { tasks = is.tasks; are = (tasks t begun over is.tasks).1 is.are; each = is.each },
)

pub bounds_are : RanksAreOfTheTable → TasksAreOfTheTable → BoundsAreOfTheTable
bounds_are ranks tasks t begun over k bound = (
  λ is. record { tasks = is.tasks; are = (tasks t begun over is.tasks).0 is.are; least = subst (λ r. IsBound is.tasks (r - 1) bound) (sym (ranks t k)) is.least },
  λ is. record { tasks = is.tasks; are = (tasks t begun over is.tasks).1 is.are; least = subst (λ r. IsBound is.tasks (r - 1) bound) (ranks t k) is.least },
)
