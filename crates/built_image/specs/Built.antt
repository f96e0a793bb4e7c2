-- The image that is made of a program, and when a program is timely.
use Rattle.std.specs.Prelude.{◌≡◌, ◌-◌, ℕ, Some, slice_get}
use Rattle.syntax_tree.specs.Plain.{Program}
use Rattle.machine_semantics.specs.Image.{Image, Process}
use Rattle.image.specs.Named.{NamedImage}
use Rattle.sched_response.specs.Demand.{Solves, IsBound}
use Rattle.valid_image.specs.Tasks.{tasks_of}
use Rattle.codegen_spec.specs.Parts.{program_made}
use Rattle.codegen_spec.specs.Held.{Holds}
use Rattle.code_measures.specs.Declared.{Declares}
use Rattle.code_measures.specs.Whole.{HasRanks}
use Rattle.built_image.specs.Named.{names_of}

-- All but the bounds: the code of the program with its words and tables, the overhead, the costs
-- and stacks of its text, and ranks, ceilings and blocks by deadlines and stays.
pub record IsShaped (g : Program) (over : ℕ) (m : Image) : Type 0 where
  pub overhead : m.over ≡ over
  pub code : Holds g (program_made g) m
  pub declares : Declares g m
  pub ranks : HasRanks m

-- within so many ticks an activation of the process ends, by the recurrence of its rank, and
-- within its deadline
abbrev pub Responds : Image → Process → ℕ → Type 0
Responds m p r = Solves (tasks_of m) (p.rank - 1) r

-- each bound is the least of these
abbrev pub HasLeastBounds : Image → Type 0
HasLeastBounds m = (k : ℕ) (p : Process) → slice_get m.processes k ≡ Some p → IsBound (tasks_of m) (p.rank - 1) p.bound

-- The image of a program with an overhead, with its names.
pub record IsBuilt (g : Program) (over : ℕ) (n : NamedImage) : Type 0 where
  pub program : n.program ≡ g.name
  pub names : n.names ≡ names_of g
  pub shaped : IsShaped g over n.image
  pub bounds : HasLeastBounds n.image

-- the recurrence of each process has a solution within its deadline
pub record IsTimely (g : Program) (over : ℕ) : Type 0 where
  pub image : Image
  pub shaped : IsShaped g over image
  pub each : (k : ℕ) (p : Process) → slice_get image.processes k ≡ Some p → (r : ℕ) × Responds image p r

-- that of some process has none
pub record IsLate (g : Program) (over : ℕ) : Type 0 where
  pub image : Image
  pub shaped : IsShaped g over image
  pub number : ℕ
  pub process : Process
  pub there : slice_get image.processes number ≡ Some process
  pub unsolved : (r : ℕ) → ¬ Responds image process r
