-- What the code of a program comes to is what its tree says.
use Rattle.std.specs.Prelude.{◌≡◌, ◌+◌, ◌-◌, ℕ, List, Option, Some, None, max}
use Rattle.syntax_tree.specs.Plain.{Process, Program}
use Rattle.machine_isa.specs.declared.instr.Instr.{Instr}
use Rattle.machine_semantics.specs.Image as image
use Rattle.machine_semantics.specs.Trees.{Segs, size}
use Rattle.valid_image.specs.Found.{Known, Found, longer, plus}
use Rattle.valid_image.specs.Tables.{routine_found, part_found, nothing_found}
use Rattle.valid_image.specs.Pieces.{handler_length}
use Rattle.code_spec.specs.Layout.{by_process, by_monitor}
use Rattle.code_spec.specs.Numbering.{Text}
use Rattle.code_spec.specs.Compiled.{IsRoutine, EmitsRoutine, EmitsProcess}
use Rattle.code_cost_spec.specs.Names.{Calls}
use Rattle.code_cost_spec.specs.Costs.{routine_cost, stay_cost, process_cost}
use Rattle.code_cost_spec.specs.Heights.{routine_height, stmts_height, handler_height}
use Rattle.code_cost_spec.specs.Levels.{routine_names, process_names}
use Rattle.code_measures.specs.Sound.{IsKnown, SoundRoutine, SoundProcess}

-- the code of a routine is of its tree, keeps to the rules of heights, and comes to the cost, the
-- height and the stay that the text says
pub record IsMeasured (g : Program) (code : List Instr) (known : List Known) (k : Calls) (t : Text) (r : image.Routine) (q : ℕ) : Type 0 where
  pub found : Found
  pub is : routine_found code known r ≡ Some found
  pub cost : longer 4 found.cost ≡ routine_cost g (routine_names g t) k t
  pub height : found.depth ≡ routine_height g t.owner k t.routine
  pub stay : (m : ℕ) → t.owner ≡ by_monitor m → found.cost.run - 5 ≡ stay_cost g (routine_names g t) k t.owner t.routine
  pub end : q ≡ r.start + (size r.tree + 1)

-- The law for one routine: its tree's cost and height are those that its code comes to.
abbrev pub RoutinesAreMeasured : Type 0
RoutinesAreMeasured = (g : Program) (code : List Instr) (known : List Known) (k : Calls) (t : Text) (r : image.Routine) (q : ℕ)
    → IsRoutine g t r → EmitsRoutine g code t r.start q → SoundRoutine g (λ y. IsKnown g known k y) t → IsMeasured g code known k t r q

-- what the code of a handler comes to, from behind the END of the body on
abbrev pub handler_part : List Instr → List Known → Option Segs → (at : ℕ) → Option Found
handler_part code known None at = Some nothing_found
handler_part code known (Some tree) at = part_found code known tree at

-- the same of a process, with its handler
pub record IsMeasuredProcess (g : Program) (code : List Instr) (known : List Known) (k : Calls) (j : ℕ) (p : Process) (ip : image.Process) (q : ℕ) : Type 0 where
  pub body : Found
  pub body_is : part_found code known ip.body ip.start ≡ Some body
  pub handler : Found
  pub handler_is : handler_part code known ip.handler_tree (ip.start + size ip.body + 1) ≡ Some handler
  pub cost : longer 4 (plus body.cost handler.cost) ≡ process_cost g (process_names g j p) k p
  pub height : max body.depth handler.depth ≡ max (stmts_height g (by_process j) k p.body) (handler_height g (by_process j) k p.handler)
  pub end : q ≡ ip.start + (size ip.body + 1 + handler_length ip.handler_tree)

-- The law for one process.
abbrev pub ProcessesAreMeasured : Type 0
ProcessesAreMeasured = (g : Program) (code : List Instr) (known : List Known) (k : Calls) (j : ℕ) (p : Process) (ip : image.Process) (q : ℕ)
    → EmitsProcess g code j p ip.start q ip → SoundProcess g (λ y. IsKnown g known k y) j p → IsMeasuredProcess g code known k j p ip q
