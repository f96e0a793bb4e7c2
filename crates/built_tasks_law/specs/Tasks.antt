-- The blocks and the tasks of an image are those of the text of its program.
use Rattle.std.specs.Prelude.{◌≡◌, ◌<◌, ℕ, Some, slice_get}
use Rattle.syntax_tree.specs.Placed.{Prog, plain}
use Rattle.syntax_tree.specs.Plain.{Program}
use Rattle.syntax_tree.specs.declared.place.Place.{Place}
use Rattle.source_semantics.specs.Ranks.{rank}
use Rattle.machine_semantics.specs.Image.{Image, Process}
use Rattle.valid_image.specs.Tasks.{tasks_of}
use Rattle.valid_image.specs.Times.{needed_block}
use Rattle.code_spec.specs.Compiled.{IsCodeOf}
use Rattle.static_semantics.specs.WellFormed.{IsWellFormed}
use Rattle.codegen_law.specs.Ruled.{NamesApart}
use Rattle.code_measures.specs.Declared.{Declares}
use Rattle.code_measures.specs.Whole.{HasRanks}
use Rattle.static_semantics.specs.Static.{IsChecked}
use Rattle.built_image_law.specs.Small.{KeepsSizes}
use Rattle.built_image.specs.Built.{IsShaped}
use Rattle.sched_program.specs.Tasks.{IsBlock, AreTasksOf}

-- The law: the block that validity needs for a rank is that of the text. A rank is no more than
-- there are processes, so far less than the number that stands for no ceiling.
abbrev pub BlocksAreOfTheText : Type 0
BlocksAreOfTheText = (g : Program) (m : Image) (rank : ℕ) → IsWellFormed g → NamesApart g → IsCodeOf g m → Declares g m → HasRanks m
    → rank < 65535 → IsBlock g rank (needed_block m rank)

-- The law: the rank that the image of a checked program declares of a process is that of the text.
abbrev pub RanksAreOfTheText : Type 0
RanksAreOfTheText = (g : Prog Place) (over : ℕ) (m : Image) → IsChecked g → KeepsSizes g → IsShaped (plain g) over m
    → (k : ℕ) (p : Process) → slice_get m.processes k ≡ Some p → p.rank ≡ rank (plain g) k

-- The law: the tasks that the image of a checked program declares, in the order of ranks, are those
-- of the text.
abbrev pub TasksAreOfTheText : Type 0
TasksAreOfTheText = (g : Prog Place) (over : ℕ) (m : Image) → IsChecked g → KeepsSizes g → IsShaped (plain g) over m → AreTasksOf (plain g) over (tasks_of m)
