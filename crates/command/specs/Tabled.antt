-- What the text that `table` stores tells: the numbers of the table.
use Rattle.std.specs.Prelude.{◌≡◌, ◌↔◌, ℕ, List, Some, map, slice_get}
use Rattle.syntax_tree.specs.declared.place.Place.{Place}
use Rattle.syntax_tree.specs.Placed.{Prog, plain}
use Rattle.syntax_tree.specs.Plain.{Program}
use Rattle.syntax_tree.specs.Bare.{bare}
use Rattle.syntax_printer.specs.Canonical.{canonical}
use Rattle.source_semantics.specs.Names.{monitor_number, processes}
use Rattle.source_semantics.specs.Ranks.{ceiling, rank}
use Rattle.code_cost_spec.specs.Costs.{run}
use Rattle.code_cost_spec.specs.Levels.{cost_of_process}
use Rattle.sched_program.specs.Tasks.{IsBlock, IsBoundOf, IsInTime}
use Rattle.outside.specs.Outside.{Outside}
use Rattle.command_due.specs.Source.{IsWritten}
use Rattle.table_format.specs.declared.table.TaskLine.{TaskLine}
use Rattle.table_format.specs.declared.table.TaskTable.{TaskTable}
use Rattle.table_format.specs.Rules.{IsTable}
use Rattle.table_format.specs.Spelling.{Word}
use Rattle.table_law.specs.Costs.{process_of}
use Rattle.table_law.specs.Tasks.{IsBoundOfLine, IsTableBlock, IsTableCeiling, IsTableInTime, rank_of_line}

-- The program has a process for each line, with its cost, and neither wait nor suspension; its ranks,
-- ceilings, blocks and bounds, and whether it is in time, are those of the table, told of the table
-- alone.
pub record HasNumbersOf (t : TaskTable) (g : Program) : Type 0 where
  pub lines : processes g ≡ map (process_of t) t.tasks
  pub costs : (k : ℕ) (line : TaskLine) → slice_get t.tasks k ≡ Some line → cost_of_process g k (process_of t line) ≡ run line.cost
  pub ranks : (k : ℕ) → rank g k ≡ rank_of_line t k
  pub ceilings : (monitor : Word) (c : ℕ) → IsTableCeiling t monitor c ↔ (ceiling g (monitor_number g monitor) ≡ Some c)
  pub blocks : (held_up block : ℕ) → IsTableBlock t held_up block ↔ IsBlock g held_up block
  pub in_time : (over : ℕ) → IsTableInTime t over ↔ IsInTime g over
  pub bounds : (over k bound : ℕ) → IsBoundOfLine t over k bound ↔ IsBoundOf g over k bound

-- one file holds a task table, and the other the canonical text of a program with its numbers
pub record TellsTable (tasks program : List ℕ) (before now : Outside) : Type 0 where
  pub lines : List ℕ
  pub held : before.files.held tasks ≡ Some lines
  pub table : TaskTable
  pub is_table : IsTable lines table
  pub tree : Prog Place
  pub stored : now.files.held program ≡ Some (canonical (bare tree))
  pub written : IsWritten (canonical (bare tree)) tree
  pub numbers : HasNumbersOf table (plain tree)
