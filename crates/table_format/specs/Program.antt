-- The program of a task table.
use Rattle.std.specs.Prelude.{ℕ, zero, suc, ◌+◌, ◌-◌, Bool, not, List, [], ◌∷◌, ◌++◌, length, map, filter, flat_map, option_map, Option, Some, None, codes, decimal, nat_eq}
use Rattle.std.specs.List.{list_any, prefix_len, range_with_len}
use Rattle.syntax_tree.specs.Plain.{Name}
use Rattle.syntax_tree.specs.Placed.{Var, int, scalar, Stmt, perform_entry, no_exprs, procedure, Routine, Monitor, Activation, periodic, at_event, Process, Decl, event, monitor, process, Prog}
use Rattle.syntax_printer.specs.Canonical.{canonical}
use Rattle.table_format.specs.declared.table.TaskStay.{TaskStay}
use Rattle.table_format.specs.declared.table.TaskLine.{TaskLine}
use Rattle.table_format.specs.declared.table.TaskTable.{TaskTable}
use Rattle.table_format.specs.Rules.{names, stays, monitors, same_name, distinct, least_cost}
use Rattle.table_format.specs.Spending.{Nowhere, of_number, of_x, in_turn, spend}

-- ---- names that the table does not give

-- the name of the entry in which a process stays for so many ticks, without its tail
abbrev pub stay_name : (ticks : ℕ) → Name
stay_name ticks = codes "stay" ++ decimal ticks

-- the made names, without their tail
abbrev pub made_names : TaskTable → List Name
made_names t = codes "x" ∷ codes "i" ∷ codes "j" ∷ map (λ s. stay_name s.ticks) (stays t)

-- the tails, in the order in which they are tried: nothing, then _1, _2 and so on
abbrev pub tail_of : (number : ℕ) → Name
tail_of zero = []
tail_of (suc number) = codes "_" ++ decimal (suc number)

-- whether the name is a made one with this tail
abbrev pub is_made_with : TaskTable → (tail name : Name) → Bool
is_made_with t tail name = list_any (λ made. same_name name (made ++ tail)) (made_names t)

-- whether a name of the table is a made one with this tail
abbrev pub is_in_the_way : TaskTable → (number : ℕ) → Bool
is_in_the_way t number = list_any (is_made_with t (tail_of number)) (names t)

-- the first tail without a name in its way; each name stands in the way of one tail at most
unfoldable pub made_tail : TaskTable → Name
made_tail t = tail_of (prefix_len (is_in_the_way t) (range_with_len 0 (length (names t) + 1)))

-- ---- monitors

abbrev pub int_variable : Name → Var Nowhere
int_variable name = record { name = name; place = tt; kind = scalar int }

-- the entry in which a process stays for so many ticks, 3 of which are not its statements
abbrev pub stay_entry : (tail : Name) → (ticks : ℕ) → Routine Nowhere
stay_entry tail ticks = record {
  kind = procedure;
  name = stay_name ticks ++ tail;
  place = tt;
  params = [];
  result = None;
  vars = int_variable (of_x tail) ∷ [];
  body = in_turn (spend tail (ticks - 3));
  value = None;
  close = stay_name ticks ++ tail;
  close_place = tt;
}

-- the different stays in a monitor, in the order in which they stand first
abbrev pub stays_in : TaskTable → (name : Name) → List ℕ
stays_in t name = distinct nat_eq (map (λ s. s.ticks) (filter (λ s. same_name name s.monitor) (stays t)))

abbrev pub table_monitor : (tail : Name) → TaskTable → (name : Name) → Monitor Nowhere
table_monitor tail t name = record {
  name = name;
  place = tt;
  members = [];
  entries = map (stay_entry tail) (stays_in t name);
  close = name;
  close_place = tt;
}

-- ---- processes

-- what releases the process; a deadline and a first activation are said where the table says them
abbrev pub activation_of : TaskLine → Option Name → Activation Nowhere
activation_of p None = periodic (of_number p.frame) (option_map of_number p.deadline) (option_map of_number p.first)
activation_of p (Some e) = at_event e tt (of_number p.frame) (option_map of_number p.deadline)

-- M . stayS ( )
abbrev pub stay_call : (tail : Name) → TaskStay → Stmt Nowhere
stay_call tail s = perform_entry tt s.monitor (stay_name s.ticks ++ tail) tt no_exprs

-- the stays in order, then the ticks of the cost that are left
abbrev pub table_process : (tail : Name) → TaskLine → Process Nowhere
table_process tail p = record {
  name = p.name;
  place = tt;
  activation = activation_of p p.event;
  vars = int_variable (of_x tail) ∷ [];
  routines = [];
  body = in_turn (map (stay_call tail) p.stays ++ spend tail (p.cost - least_cost p));
  handler = None;
  close = p.name;
  close_place = tt;
}

-- ---- the program

abbrev pub event_of : Option Name → List (Decl Nowhere)
event_of None = []
event_of (Some e) = event e tt ∷ []

-- the events, then the monitors, then the processes
abbrev pub program_with : (tail : Name) → TaskTable → Prog Nowhere
program_with tail t = record {
  name = t.name;
  place = tt;
  decls =
      flat_map (λ p. event_of p.event) t.tasks
      ++ (map (λ name. monitor (table_monitor tail t name)) (monitors t)
      ++ map (λ p. process (table_process tail p)) t.tasks);
  close = t.name;
  close_place = tt;
}

unfoldable pub program_of : TaskTable → Prog Nowhere
program_of t = program_with (made_tail t) t

-- the text that is stored
unfoldable pub table_text : TaskTable → List ℕ
table_text t = canonical (program_of t)
