-- Programs whose names are short.
use Rattle.std.specs.Prelude.{◌≤◌, ℕ, List, All, length, filter_map}
use Rattle.syntax_tree.specs.Placed as placed
use Rattle.syntax_tree.specs.Placed.{plain}
use Rattle.syntax_tree.specs.Plain.{Name, Monitor, Program}
use Rattle.syntax_tree.specs.declared.place.Place.{Place}
use Rattle.source_semantics.specs.Names.{processes, monitors, conditions_of, device_in, event_in}
use Rattle.front_end.specs.Source.{IsTreeOf}

-- a name has at most 63 bytes
abbrev pub IsShort : Name → Type 0
IsShort name = length name ≤ 63

-- the name of a monitor and those of its conditions
pub record MonitorIsShort (m : Monitor) : Type 0 where
  pub name : IsShort m.name
  pub conditions : All IsShort (conditions_of m)

-- the names of a program, of its processes, monitors and conditions, devices and events
pub record NamesAreShort (g : Program) : Type 0 where
  pub of_program : IsShort g.name
  pub of_processes : All (λ p. IsShort p.name) (processes g)
  pub of_monitors : All MonitorIsShort (monitors g)
  pub of_devices : All IsShort (filter_map device_in g.decls)
  pub of_events : All IsShort (filter_map event_in g.decls)

-- The law: so are those of the program of a text.
abbrev pub NamesOfTextsAreShort : Type 0
NamesOfTextsAreShort = (text : List ℕ) (g : placed.Prog Place) → IsTreeOf text g → NamesAreShort (plain g)
