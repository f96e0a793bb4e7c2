-- What the tables of a program tell of variables and conditions.
use Rattle.std.proofs.Common.{◌≡◌, refl, ℕ, zero, suc, ◌+◌, List, [], ◌∷◌, Option, Some, None, length}
use Rattle.std.specs.Prelude.{slice_get}
use Rattle.std.specs.Borrow.{Bor}
use Rattle.std.specs.Option.{option_copied}
use Rattle.syntax_tree.specs.Plain.{Name, Monitor, Process, Program}
use Rattle.source_semantics.specs.Names.{condition_from, conditions_of}
use Rattle.code_spec.specs.Layout.{in_area, in_monitor, in_process, base_from, monitor_vars, place_named, places_from, vars_of_monitor, vars_of_process, words_of}
use Rattle.codegen_spec.specs.Told.{told_spot}
use Rattle.codegen_spec.specs.declared.var_location.VarLocation.{VarLocation}
use Rattle.code_layout.specs.LayoutTables.{Table, spot_in}
use Rattle.code_layout.specs.LookupTables.{outer_in}
use Rattle.code_layout.proofs.Meant.{table-spot}
use Rattle.codegen_texts.specs.Shared.{process_tables, monitor_tables, conditions_from, count_from, number_among}

-- ---- variables beside those of a frame

abbrev pub spot_some : Option Table → Name → Option VarLocation
spot_some None x = None
spot_some (Some t) x = spot_in t x

pub outer-copied : (r : Option (Bor Table)) (x : Name) → outer_in r x ≡ spot_some (option_copied r) x
outer-copied None x = refl
outer-copied (Some t) x = refl

pub process-told : (g : Program) (ps : List Process) (k : ℕ) (x : Name) → spot_some (slice_get (process_tables g ps) k) x ≡ told_spot (in_area in_process (place_named x (places_from g 0 (vars_of_process (slice_get ps k)))))
process-told g [] k x = refl
process-told g (p ∷ ps) zero x = table-spot in_process (places_from g 0 p.vars) x
process-told g (p ∷ ps) (suc k) x = process-told g ps k x

pub monitor-told : (g : Program) (base : ℕ) (ms : List Monitor) (k : ℕ) (x : Name) → spot_some (slice_get (monitor_tables g base ms) k) x ≡ told_spot (in_area in_monitor (place_named x (places_from g (base_from g base k ms) (vars_of_monitor (slice_get ms k)))))
monitor-told g base [] k x = refl
monitor-told g base (m ∷ ms) zero x = table-spot in_monitor (places_from g base (monitor_vars m)) x
monitor-told g base (m ∷ ms) (suc k) x = monitor-told g (base + words_of g (monitor_vars m)) ms k x

-- ---- conditions

pub number-told : (first : ℕ) (ms : List Monitor) (k : ℕ) (x : Name) → number_among (slice_get (conditions_from first ms) k) (count_from first ms) x ≡ condition_from first k x ms
number-told first [] k x = refl
number-told first (m ∷ ms) zero x = refl
number-told first (m ∷ ms) (suc k) x = number-told (first + length (conditions_of m)) ms k x
