-- The monitors and processes of a program as the code lists them.
use Rattle.std.specs.Prelude.{◌≡◌, List, map, filter_map}
use Rattle.std.specs.Borrow.{Bor}
use Rattle.syntax_tree.specs.Plain.{Name, Monitor, Process, Declaration, Program}
use Rattle.syntax_tree.specs.Placed.{placed_monitor, placed_process, placed, plain, plain_monitor, plain_process}
use Rattle.syntax_tree.specs.declared.decl.Program as code_prog
use Rattle.syntax_tree.specs.declared.decl.Monitor as code_monitor
use Rattle.syntax_tree.specs.declared.decl.Process as code_process
use Rattle.source_semantics.specs.Names.{monitor_in, process_in, monitors, processes}
use Rattle.code_spec.specs.Numbering.{Text, texts_from, called_text, routine_calls, numbered}
use Rattle.code_names.specs.declared.text.Body as code_text
use Rattle.code_names.specs.Texts.{texts_of}

abbrev pub monitor_of : Bor code_monitor.Monitor → Monitor
monitor_of m = plain_monitor (placed_monitor m.now)

abbrev pub process_of : Bor code_process.Process → Process
process_of p = plain_process (placed_process p.now)

abbrev pub seen_monitors : List (Bor code_monitor.Monitor) → List Monitor
seen_monitors ms = map monitor_of ms

abbrev pub seen_processes : List (Bor code_process.Process) → List Process
seen_processes ps = map process_of ps

abbrev pub monitors_of : List Declaration → List Monitor
monitors_of ds = filter_map monitor_in ds

abbrev pub processes_of : List Declaration → List Process
processes_of ds = filter_map process_in ds

-- all routines and entries, in the order of the text
abbrev pub all_texts : Program → List Text
all_texts g = texts_from 0 0 g.decls

-- the tables are those of the program
pub record IsDirectory (g : Program) (texts : List code_text.Body) (ms : List (Bor code_monitor.Monitor)) (ps : List (Bor code_process.Process)) (names : List Name) : Type 0 where
  pub texts_are : texts_of texts ≡ all_texts g
  pub monitors_are : seen_monitors ms ≡ monitors g
  pub processes_are : seen_processes ps ≡ processes g
  pub names_are : names ≡ map (λ m. m.name) (monitors g)

-- what a text calls, in the order of the calls
abbrev pub callees_of : Program → Text → List Text
callees_of g t = filter_map (called_text g t.owner) (routine_calls t.routine)

-- the list is that of the program's routines by number
pub record IsNumbered (program : code_prog.Program) (order : List code_text.Body) : Type 0 where
  pub order_is : texts_of order ≡ numbered (plain (placed program))
