-- What the static rules give of a whole program, as far as its code comes to its meaning by it.
use Rattle.std.specs.Prelude.{◌≡◌, ◌<◌, true, Some, slice_get}
use Rattle.syntax_tree.specs.Plain.{Name}
use Rattle.source_semantics.specs.Names.{routines, processes, routine_count}
use Rattle.source_semantics.specs.Run.{routine_named}
use Rattle.code_spec.specs.Numbering.{Text}
use Rattle.code_spec.specs.Compiled.{process_scope, IsCodeOf}
use Rattle.code_spec.specs.Memory.{Order, Setting}
use Rattle.code_spec.specs.Proper.{found_of, IsMine, Entry, ProperAll}
use Rattle.code_correct.specs.Known.{IsProper}
use Rattle.code_spec.specs.Boundary.{Compiled}
use Rattle.code_correct.specs.Process.{setting_of, ProperHandler, IsEmitted}
use Rattle.codegen_law.specs.Kept.{NamesDiffer}

-- the text of a process, and the routines and entries that it runs, keep to the static rules;
-- routines have levels
pub record KeepsRules (e : Setting) : Type 0 where
  pub body : ProperAll e (process_scope e.program e.number e.text) (routine_count e.program) e.text.body
  pub handler : ProperHandler e e.text.handler
  pub routines : (f : Name) (t : Text) → routine_named e.program e.text f ≡ Some (found_of t) → IsMine e t.owner → e.order.runs f ≡ true → IsProper e t (e.order.level f)
  pub few : (f : Name) (t : Text) → routine_named e.program e.text f ≡ Some (found_of t) → IsMine e t.owner → e.order.level f < routine_count e.program
  pub entries : (mon entry : Name) (t : Text) → Entry e mon entry t → IsProper e t (routine_count e.program)

-- The law: the image that is the code of a program has the code of each of its processes.
abbrev pub CodeIsEmitted : Type 0
CodeIsEmitted = (c : Compiled) (order : Order) → IsCodeOf c.program c.image → NamesDiffer c.program
    → slice_get (processes c.program) c.number ≡ Some c.text → slice_get c.image.processes c.number ≡ Some c.process
    → KeepsRules (setting_of c order) → IsEmitted c order
