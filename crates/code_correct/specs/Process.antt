-- One process of a compiled program: what is asked of it, and what it stands for.
use Rattle.std.specs.Prelude.{◌≡◌, ℕ, true, List, Option, Some, None, slice_get, ℤ}
use Rattle.syntax_tree.specs.Plain.{Handler}
use Rattle.source_semantics.specs.Names.{processes, routine_count}
use Rattle.source_semantics.specs.Store.{Vars}
use Rattle.machine_semantics.specs.Effect.{Own}
use Rattle.code_spec.specs.Layout.{in_process, in_monitor, process_places, monitor_places}
use Rattle.code_spec.specs.Compiled.{process_scope, EmitsProcess}
use Rattle.code_spec.specs.Steps.{Runs}
use Rattle.code_spec.specs.Memory.{Order, Setting, Holds, opens_of}
use Rattle.code_spec.specs.Proper.{ProperAll}
use Rattle.code_spec.specs.Comes.{NextComes}
use Rattle.code_correct.specs.Known.{HasCode}
use Rattle.code_spec.specs.Boundary.{Compiled, View, next_of, IsFaithful}

-- the process with its routines in order
abbrev pub setting_of : Compiled → Order → Setting
setting_of c order = record { image = c.image; program = c.program; text = c.text; number = c.number; frame = c.process.locals; order = order }

abbrev pub ProperHandler : Setting → Option Handler → Type 0
ProperHandler e None = Unit {0}
ProperHandler e (Some h) = ProperAll e (process_scope e.program e.number e.text) (routine_count e.program) h.body

-- the code of the process is that of its text, which keeps to the static rules; so do the routines
-- and entries that it may run
pub record IsEmitted (c : Compiled) (order : Order) : Type 0 where
  pub text_is : slice_get (processes c.program) c.number ≡ Some c.text
  pub start : ℕ
  pub next : ℕ
  pub emits : EmitsProcess c.program c.image.code c.number c.text start next c.process
  pub body : ProperAll (setting_of c order) (process_scope c.program c.number c.text) (routine_count c.program) c.text.body
  pub handler : ProperHandler (setting_of c order) c.text.handler
  pub code : HasCode (setting_of c order)

-- the words of a monitor hold its variables, each where it lies
abbrev pub FreeHolds : Compiled → ℕ → List ℤ → Vars → Type 0
FreeHolds c m shared vars = Holds (opens_of c.image (Some m) in_monitor) shared (monitor_places c.program m) vars

-- the words of the process hold its variables, each where it lies
abbrev pub RestHolds : Compiled → List ℤ → Vars → Type 0
RestHolds c owned vars = Holds (opens_of c.image None in_process) owned (process_places c.program c.number) vars

abbrev pub HasHandler : Option Handler → Type 0
HasHandler None = ⊥
HasHandler (Some h) = Unit {0}

-- The process stands for a view: its code leads silently to its next action, and after it does what
-- the view then says.
pub record StandsFor (c : Compiled) (order : Order) (o : Own) (v : View) : Type 0 where
  pub handling : o.job.handling ≡ v.handling
  pub handled : v.handling ≡ true → HasHandler c.text.handler
  pub leads : Runs c.image (λ b. NextComes (setting_of c order) o (next_of c.program c.text v) (next_of c.program c.text v).action b) o

-- The law: the code of a process that is emitted is faithful.
abbrev pub EmittedIsFaithful : Type 0
EmittedIsFaithful = (c : Compiled) (order : Order) → IsEmitted c order → IsFaithful c (λ o v. StandsFor c order o v) (λ m shared vars. FreeHolds c m shared vars) (λ owned vars. RestHolds c owned vars)
