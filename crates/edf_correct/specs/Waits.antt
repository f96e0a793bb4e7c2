-- A program whose text has no `wait` statement.
use Rattle.std.specs.Prelude.{◌≡◌, ℕ, List, Option, Some, None, slice_get}
use Rattle.syntax_tree.specs.declared.place.Place.{Place}
use Rattle.syntax_tree.specs.Placed.{Prog, plain}
use Rattle.syntax_tree.specs.Plain.{Routine, Monitor, Handler, Process, Program}
use Rattle.source_semantics.specs.Names.{routines, monitors, processes}
use Rattle.code_measures.specs.Quiet.{NoWaits}
use Rattle.command_due.specs.Waits as placed

-- no statement of these routines is a wait
abbrev pub NoneWaits : List Routine → Type 0
NoneWaits rs = (j : ℕ) (r : Routine) → slice_get rs j ≡ Some r → NoWaits r.body

abbrev pub HandlerHasNoWait : Option Handler → Type 0
HandlerHasNoWait None = Unit {0}
HandlerHasNoWait (Some h) = NoWaits h.body

-- no statement of a process, its body, its handler and its routines
pub record ProcessHasNoWait (p : Process) : Type 0 where
  pub body : NoWaits p.body
  pub handler : HandlerHasNoWait p.handler
  pub own : NoneWaits p.routines

-- no statement of the program is a wait, in its routines, entries and processes
pub record HasNoWait (g : Program) : Type 0 where
  pub program : NoneWaits (routines g)
  pub entries : (m : ℕ) (k : Monitor) → slice_get (monitors g) m ≡ Some k → NoneWaits k.entries
  pub bodies : (k : ℕ) (p : Process) → slice_get (processes g) k ≡ Some p → ProcessHasNoWait p

-- The law: where no statement of a program waits, by its places, none of its plain tree does.
abbrev pub WaitlessTreesHaveNoWait : Type 0
WaitlessTreesHaveNoWait = (g : Prog Place) → placed.HasNoWait g → HasNoWait (plain g)
