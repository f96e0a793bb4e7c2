-- What the texts of a program share.
use Rattle.std.specs.Prelude.{◌≡◌, ℕ, ◌+◌, List, [], ◌∷◌, fold, map, length, Option, Some, None}
use Rattle.syntax_tree.specs.Plain.{Name, Monitor, Process, Program}
use Rattle.syntax_tree.specs.Placed.{placed, plain}
use Rattle.syntax_tree.specs.declared.decl.Program.{Program as Tree}
use Rattle.source_semantics.specs.Names.{place_of, monitors, processes, conditions_of, condition_count}
use Rattle.code_spec.specs.Layout.{places_from, words_of, monitor_vars}
use Rattle.codegen_spec.specs.Told.{callee}
use Rattle.codegen_spec.specs.declared.var_location.Area.TheVariants as in_area
use Rattle.codegen_spec.specs.declared.var_location.Callee.{Callee}
use Rattle.code_names.specs.Parts.{all_texts}
use Rattle.code_layout.specs.LayoutTables.{Table, table_of}
use Rattle.codegen_texts.specs.declared.conditions.MonitorConditions.{MonitorConditions}

-- ---- variables beside those of a frame

abbrev pub process_table : Program → Process → Table
process_table g p = table_of in_area.Process (places_from g 0 p.vars)

abbrev pub process_tables : Program → List Process → List Table
process_tables g ps = map (λ p. process_table g p) ps

abbrev pub monitor_table : Program → ℕ → Monitor → Table
monitor_table g base m = table_of in_area.Monitor (places_from g base (monitor_vars m))

-- the words of the first monitor begin at the base, those of each other behind the one before
abbrev pub monitor_tables : Program → ℕ → List Monitor → List Table
monitor_tables g base [] = []
monitor_tables g base (m ∷ ms) = monitor_table g base m ∷ monitor_tables g (base + words_of g (monitor_vars m)) ms

-- ---- conditions

-- the conditions of each monitor, with the number of its first; that of the first monitor's first
-- is given
abbrev pub conditions_from : ℕ → List Monitor → List MonitorConditions
conditions_from first [] = []
conditions_from first (m ∷ ms) = record { first = first; names = conditions_of m } ∷ conditions_from (first + length (conditions_of m)) ms

-- how many conditions there are, with those before
abbrev pub count_from : ℕ → List Monitor → ℕ
count_from before ms = fold (λ a m. a + length (conditions_of m)) before ms

-- the number of a name among the conditions of a monitor; behind them all where there is no such
-- monitor
abbrev pub number_among : Option MonitorConditions → (count : ℕ) → Name → ℕ
number_among None count x = count
number_among (Some own) count x = own.first + place_of x own.names

-- ---- routines and entries that calls name, in the order of the text

abbrev pub callees_told : Program → List Callee
callees_told g = map (λ t. callee g t) (all_texts g)

-- ---- the whole

-- the tables are those of the program
pub record AreNames (program : Tree) (callees : List Callee) (process_spots monitor_spots : List Table) (lists : List MonitorConditions) (count : ℕ) : Type 0 where
  pub callees_are : callees ≡ callees_told (plain (placed program))
  pub processes_are : process_spots ≡ process_tables (plain (placed program)) (processes (plain (placed program)))
  pub monitors_are : monitor_spots ≡ monitor_tables (plain (placed program)) 0 (monitors (plain (placed program)))
  pub conditions_are : lists ≡ conditions_from 0 (monitors (plain (placed program)))
  pub count_is : count ≡ condition_count (monitors (plain (placed program)))
