-- Programs whose names are identifiers, and words.
use Rattle.std.specs.Prelude.{ℕ, List, All, filter_map}
use Rattle.syntax.specs.declared.token.TokenKind.TheVariants as kind
use Rattle.syntax.specs.Spellings.{HasKind}
use Rattle.syntax_tree.specs.Placed as placed
use Rattle.syntax_tree.specs.Placed.{plain}
use Rattle.syntax_tree.specs.Plain.{Name, Monitor, Program}
use Rattle.syntax_tree.specs.declared.place.Place.{Place}
use Rattle.source_semantics.specs.Names.{processes, monitors, conditions_of, device_in, event_in}
use Rattle.front_end.specs.Source.{IsTreeOf}
use Rattle.built_image.specs.Named.{names_of}
use Rattle.event_log.specs.Logs.{AreWordNames}

-- a name is what the token of a name spells
abbrev pub IsIdentifier : Name → Type 0
IsIdentifier name = HasKind name kind.Ident

-- the name of a monitor and those of its conditions
pub record MonitorIsNamed (m : Monitor) : Type 0 where
  pub name : IsIdentifier m.name
  pub conditions : All IsIdentifier (conditions_of m)

-- the names of a program, of its processes, monitors and conditions, devices and events
pub record NamesAreIdentifiers (g : Program) : Type 0 where
  pub of_program : IsIdentifier g.name
  pub of_processes : All (λ p. IsIdentifier p.name) (processes g)
  pub of_monitors : All MonitorIsNamed (monitors g)
  pub of_devices : All IsIdentifier (filter_map device_in g.decls)
  pub of_events : All IsIdentifier (filter_map event_in g.decls)

-- The law: so are those of the program of a text.
abbrev pub NamesOfTextsAreIdentifiers : Type 0
NamesOfTextsAreIdentifiers = (text : List ℕ) (g : placed.Prog Place) → IsTreeOf text g → NamesAreIdentifiers (plain g)

-- The law: the names of its parts are words, and each condition stands in a monitor.
abbrev pub NamesOfTextsAreWords : Type 0
NamesOfTextsAreWords = (text : List ℕ) (g : placed.Prog Place) → IsTreeOf text g → AreWordNames (names_of (plain g))
