-- Programs that are well formed: what the meaning of a program takes for granted, and with it
-- costs, sizes and code.
use Rattle.std.specs.Prelude.{◌≡◌, ℕ, ◌≤◌, ◌+◌, Bool, false, true, ◌||◌, List, [], ◌∷◌, length, Option, Some, None, ℤ, pos, ◌+ℤ◌, ◌-ℤ◌, int_le, int_lt, slice_get, bytes_eq, All, AllPairs, Contains, count_by, sum_by, filter_map}
use Rattle.base.specs.Words.{within}
use Rattle.syntax_tree.specs.Plain.{Name, Constant, Scalar, int, boolean, subrange, Kind, scalar, array, Var, Param, Answers, Routine, Monitor, Trigger, periodic, at_event, Handler, Process, Declaration, constant, device, event, routine, monitor, process, Program}
use Rattle.source_semantics.specs.Names.{constants, constant_among, device_in, event_in, variable_in, routines, monitors, processes, condition_count, routine_count}
use Rattle.source_semantics.specs.Store.{up_to}
use Rattle.source_semantics.specs.Run.{Home, of_program, of_process, of_monitor}
use Rattle.source_semantics.specs.Nesting.{Levels}
use Rattle.static_semantics.specs.Here.{Here, scalar_sort, in_routine, in_process}
use Rattle.static_semantics.specs.Typed.{IsOf}
use Rattle.static_semantics.specs.Statements.{IsConstant, IsWithin, AllFit}

-- ---- constants and types

-- each constant is a word, and names at most one that stands before it
abbrev pub ConstantsFit : List (Name × ℤ) → List Declaration → Type 0
ConstantsFit known [] = Unit {0}
ConstantsFit known (constant n c ∷ ds) = IsConstant known c × ConstantsFit ((n, constant_among known c) ∷ known) ds
ConstantsFit known (device n is_out ∷ ds) = ConstantsFit known ds
ConstantsFit known (event n ∷ ds) = ConstantsFit known ds
ConstantsFit known (routine r ∷ ds) = ConstantsFit known ds
ConstantsFit known (monitor m ∷ ds) = ConstantsFit known ds
ConstantsFit known (process p ∷ ds) = ConstantsFit known ds

-- two bounds in order
pub record AreBounds (g : Program) (low high : Constant) : Type 0 where
  pub low_constant : IsConstant (constants g) low
  pub high_constant : IsConstant (constants g) high
  pub order : int_le (constant_among (constants g) low) (constant_among (constants g) high) ≡ true

abbrev pub ScalarFits : Program → Scalar → Type 0
ScalarFits g int = Unit {0}
ScalarFits g boolean = Unit {0}
ScalarFits g (subrange low high) = AreBounds g low high

-- an array has at most 65,536 elements
abbrev pub KindFits : Program → Kind → Type 0
KindFits g (scalar s) = ScalarFits g s
KindFits g (array low high s) = AreBounds g low high × (int_lt (constant_among (constants g) high) (constant_among (constants g) low +ℤ pos 65536) ≡ true) × ScalarFits g s

abbrev pub VarFits : Program → Var → Type 0
VarFits g v = KindFits g v.kind

abbrev pub ParamFits : Program → Param → Type 0
ParamFits g v = ScalarFits g v.kind

-- ---- routines

abbrev pub AnswersFit : Program → Here → Option Answers → Type 0
AnswersFit g c None = Unit {0}
AnswersFit g c (Some a) = ScalarFits g a.kind × IsOf c (scalar_sort a.kind) a.value

-- a routine where it stands, as the process calls it
pub record RoutineFits (g : Program) (p : Process) (home : Home) (r : Routine) : Type 0 where
  pub params : All (ParamFits g) r.params
  pub vars : All (VarFits g) r.vars
  pub body : AllFit (in_routine g p home r) r.body
  pub answers : AnswersFit g (in_routine g p home r) r.answers

-- ---- processes

-- a deadline is 10 up to the frame
abbrev pub DeadlineFits : Program → Constant → Option Constant → Type 0
DeadlineFits g frame None = Unit {0}
DeadlineFits g frame (Some d) = IsConstant (constants g) d × (int_le (pos 10) (constant_among (constants g) d) ≡ true)
    × (int_le (constant_among (constants g) d) (constant_among (constants g) frame) ≡ true)

abbrev pub FirstFits : Program → Option Constant → Type 0
FirstFits g None = Unit {0}
FirstFits g (Some c) = IsWithin g 0 1000000000 c

abbrev pub ActivationFits : Program → Trigger → Type 0
ActivationFits g (periodic frame deadline first) =
    IsWithin g 10 1000000000 frame × DeadlineFits g frame deadline × FirstFits g first
ActivationFits g (at_event e frame deadline) =
    Contains g.decls (event e) × IsWithin g 10 1000000000 frame × DeadlineFits g frame deadline

-- the number of an exception that a handler may list
pub record IsHandled (g : Program) (c : Constant) : Type 0 where
  pub constant : IsConstant (constants g) c
  pub limits : within (pos 1) (pos 4) (constant_among (constants g) c) || within (pos 10) (pos 999) (constant_among (constants g) c) ≡ true

-- the numbers are two
abbrev pub Differ : Program → Constant → Constant → Type 0
Differ g a b = constant_among (constants g) a ≡ constant_among (constants g) b → ⊥

-- each number stands once
pub record HandlerFits (g : Program) (p : Process) (h : Handler) : Type 0 where
  pub numbers : All (IsHandled g) h.numbers
  pub once : AllPairs (Differ g) h.numbers
  pub body : AllFit (in_process g p) h.body

abbrev pub OptionalFits : Program → Process → Option Handler → Type 0
OptionalFits g p None = Unit {0}
OptionalFits g p (Some h) = HandlerFits g p h

-- a process with all text that it may run: its own, and the routines and entries of the program
pub record ProcessFits (g : Program) (p : Process) : Type 0 where
  pub activation : ActivationFits g p.activation
  pub vars : All (VarFits g) p.vars
  pub body : AllFit (in_process g p) p.body
  pub handler : OptionalFits g p p.handler
  pub own : All (RoutineFits g p of_process) p.routines
  pub shared : All (RoutineFits g p of_program) (routines g)
  pub entries : (k : ℕ) (m : Monitor) → slice_get (monitors g) k ≡ Some m → All (RoutineFits g p (of_monitor k)) m.entries
  pub levels : (level : Name → ℕ) × Levels g p level

abbrev pub MonitorFits : Program → Monitor → Type 0
MonitorFits g m = All (VarFits g) (filter_map variable_in m.members)

-- ---- the program

abbrev pub is_event_of : Name → Trigger → Bool
is_event_of e (periodic frame deadline first) = false
is_event_of e (at_event n frame deadline) = bytes_eq n e

-- each event activates one process
abbrev pub EventsFit : Program → Type 0
EventsFit g = (e : Name) → Contains g.decls (event e) → count_by (λ p. is_event_of e p.activation) (processes g) ≡ 1

abbrev pub kind_size : Program → Kind → ℕ
kind_size g (scalar s) = 1
kind_size g (array low high s) = up_to (constant_among (constants g) high -ℤ constant_among (constants g) low)

abbrev pub vars_words : Program → List Var → ℕ
vars_words g vs = sum_by (λ v. kind_size g v.kind) vs

-- the words of the variables of processes and monitors
abbrev pub words : Program → ℕ
words g = sum_by (λ p. vars_words g p.vars) (processes g) + sum_by (λ m. vars_words g (filter_map variable_in m.members)) (monitors g)

-- how much a program may have
pub record CountsFit (g : Program) : Type 0 where
  pub one_process : 1 ≤ length (processes g)
  pub few_processes : length (processes g) ≤ 64
  pub few_monitors : length (monitors g) ≤ 64
  pub few_devices : length (filter_map device_in g.decls) ≤ 64
  pub few_events : length (filter_map event_in g.decls) ≤ 64
  pub few_conditions : condition_count (monitors g) ≤ 256
  pub few_routines : routine_count g ≤ 512
  pub few_words : words g ≤ 1048576

pub record IsWellFormed (g : Program) : Type 0 where
  pub constants_fit : ConstantsFit [] g.decls
  pub processes_fit : All (ProcessFits g) (processes g)
  pub monitors_fit : All (MonitorFits g) (monitors g)
  pub events_fit : EventsFit g
  pub counts_fit : CountsFit g
