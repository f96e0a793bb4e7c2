-- The program of the load: two devices, a monitor, and as many periodic processes as are asked for.
use Rattle.std.specs.Prelude.{ℕ, zero, suc, ◌+◌, ◌*◌, ◌%◌, ◌==◌, Bool, true, false, List, [], ◌∷◌, ◌++◌, Some, None, codes, decimal}
use Rattle.syntax_tree.specs.Plain.{Name, add, remainder}
use Rattle.syntax_tree.specs.Placed.{Constant, literal_constant, int, scalar, Var, Expr, literal, variable, Exprs, no_exprs, exprs, no_operands, operand, row, Ref, whole, Stmt, assign, perform_entry, loop, get, put, wait, signal, Stmts, no_stmts, stmts, procedure, Routine, variable_member, condition_member, Monitor, periodic, Handler, Process, Decl, device, monitor, process, Prog}
use Rattle.syntax_printer.specs.Canonical.{process_lines, stmts_lines, text_of, canonical}
use Rattle.load.specs.declared.program.DrawnProcess.{DrawnProcess}
use Rattle.load.specs.Draws.{draw}

-- trees without places
abbrev pub Nowhere : Type 0
Nowhere = Unit {0}

abbrev pub of_number : ℕ → Constant Nowhere
of_number n = literal_constant tt false n tt

abbrev pub of_name : Name → Expr Nowhere
of_name name = variable tt name

abbrev pub to_name : Name → Ref Nowhere
to_name name = whole tt name

abbrev pub int_variable : Name → Var Nowhere
int_variable name = record { name = name; place = tt; kind = scalar int }

-- m.entry(..)
abbrev pub enter : (entry : Name) → Exprs Nowhere → Stmt Nowhere
enter entry args = perform_entry tt (codes "m") entry tt args

-- ---- the monitor

-- procedure add(v : int) begin n := v signal c end add
abbrev pub add_entry : Routine Nowhere
add_entry = record {
  kind = procedure;
  name = codes "add";
  place = tt;
  params = record { name = codes "v"; place = tt; kind = int } ∷ [];
  result = None;
  vars = [];
  body = stmts (assign (to_name (codes "n")) (of_name (codes "v"))) (stmts (signal tt (codes "c") tt) no_stmts);
  value = None;
  close = codes "add";
  close_place = tt;
}

-- procedure pause() begin wait c noLongerThan 50 : 10 end pause
abbrev pub pause_entry : Routine Nowhere
pause_entry = record {
  kind = procedure;
  name = codes "pause";
  place = tt;
  params = [];
  result = None;
  vars = [];
  body = stmts (wait tt (codes "c") tt (of_number 50) (of_number 10)) no_stmts;
  value = None;
  close = codes "pause";
  close_place = tt;
}

abbrev pub load_monitor : Monitor Nowhere
load_monitor = record {
  name = codes "m";
  place = tt;
  members = variable_member (int_variable (codes "n")) ∷ condition_member (codes "c") tt ∷ [];
  entries = add_entry ∷ pause_entry ∷ [];
  close = codes "m";
  close_place = tt;
}

-- ---- the processes

-- the three draws of the process of this number, from 0
abbrev pub drawn : (key at : ℕ) → DrawnProcess
drawn key at = record { frames = draw key (3 * at) 8; turns = draw key (3 * at + 1) 10; addend = draw key (3 * at + 2) 50 }

-- in ticks, of a process among so many
abbrev pub frame : (count : ℕ) → DrawnProcess → ℕ
frame count d = 1000 * count * (1 + d.frames)

-- x := x mod 97 + g
abbrev pub turn : (addend : ℕ) → Stmt Nowhere
turn addend = assign (to_name (codes "x"))
    (row (row (of_name (codes "x")) (operand remainder (literal tt 97) no_operands)) (operand add (literal tt addend) no_operands))

-- the loop variable is i
abbrev pub turns_of : DrawnProcess → Stmt Nowhere
turns_of d = loop tt (codes "i") tt (of_number 1) (of_number (1 + d.turns)) (stmts (turn d.addend) no_stmts)

-- with a pause or without, and then others
abbrev pub pause_if : Bool → Stmts Nowhere → Stmts Nowhere
pause_if false more = more
pause_if true more = stmts (enter (codes "pause") no_exprs) more

abbrev pub is_even : ℕ → Bool
is_even number = number % 2 == 0

abbrev pub load_body : (number : ℕ) → DrawnProcess → Stmts Nowhere
load_body number d =
    stmts (get tt (codes "src") tt (to_name (codes "x")))
    (stmts (turns_of d)
    (stmts (enter (codes "add") (exprs (of_name (codes "x")) no_exprs))
    (pause_if (is_even number) (stmts (put tt (codes "dst") tt (of_name (codes "x"))) no_stmts))))

-- what follows a time-out
abbrev pub load_handler : Handler Nowhere
load_handler = record { numbers = of_number 10 ∷ []; body = stmts (put tt (codes "dst") tt (literal tt 0)) no_stmts }

-- p1, p2 and so on
abbrev pub process_name : (number : ℕ) → Name
process_name number = codes "p" ++ decimal number

-- the process of this number, from 1, among so many
abbrev pub load_process : (count number : ℕ) → DrawnProcess → Process Nowhere
load_process count number d = record {
  name = process_name number;
  place = tt;
  activation = periodic (of_number (frame count d)) None None;
  vars = int_variable (codes "x") ∷ [];
  routines = [];
  body = load_body number d;
  handler = Some load_handler;
  close = process_name number;
  close_place = tt;
}

-- so many of the processes, those before them being left out
abbrev pub processes_from : (key count : ℕ) → (before left : ℕ) → List (Decl Nowhere)
processes_from key count before zero = []
processes_from key count before (suc left) =
    process (load_process count (suc before) (drawn key before)) ∷ processes_from key count (suc before) left

-- ---- the program

abbrev pub load_program : (key count : ℕ) → Prog Nowhere
load_program key count = record {
  name = codes "load";
  place = tt;
  decls =
      device (codes "src") tt false ∷ device (codes "dst") tt true ∷ monitor load_monitor
      ∷ processes_from key count 0 count;
  close = codes "load";
  close_place = tt;
}

-- ---- canonical texts

unfoldable pub pause_text : Bool → List ℕ
pause_text even = text_of (stmts_lines (pause_if even no_stmts))

unfoldable pub process_text : (count number : ℕ) → DrawnProcess → List ℕ
process_text count number d = text_of (process_lines (load_process count number d))

unfoldable pub program_text : (key count : ℕ) → List ℕ
program_text key count = canonical (load_program key count)
