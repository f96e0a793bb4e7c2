-- The variables of a well-formed program lie in their areas, and its devices go the way that they
-- are declared.
use Rattle.std.specs.Prelude.{◌≡◌, ◌≤◌, ◌+◌, ℕ, Bool, true, pos, List, Some, slice_get, filter_map, All, Contains}
use Rattle.syntax_tree.specs.Plain.{Name, Constant, Var, Param, Monitor, device, Program}
use Rattle.source_semantics.specs.Names.{constant_value, device_number}
use Rattle.machine_semantics.specs.Image as image
use Rattle.valid_image.specs.Operands.{Area, is_between}
use Rattle.code_spec.specs.Layout.{words_of, monitor_vars, base_from, count, places_from, param_places}
use Rattle.code_spec.specs.Emits.{turns_of}
use Rattle.code_spec.specs.Compiled.{AreMonitors, device_direction}
use Rattle.static_semantics.specs.Statements.{AreTurns}
use Rattle.static_semantics.specs.WellFormed.{VarFits, ParamFits}
use Rattle.built_valid_law.specs.Lies.{AllLie}

-- The law: variables one after the other lie in an area that has room for them.
abbrev pub VariablesLie : Type 0
VariablesLie = (g : Program) (x : Area) (b : ℕ) (vs : List Var) → All (VarFits g) vs → x.base ≤ b → b + words_of g vs ≤ x.base + x.words → AllLie x (places_from g b vs)

-- The law: so do parameters.
abbrev pub ParametersLie : Type 0
ParametersLie = (g : Program) (x : Area) (b : ℕ) (ps : List Param) → All (ParamFits g) ps → x.base ≤ b → b + count ps ≤ x.base + x.words → AllLie x (param_places g b ps)

-- The law: a loop has 1 to 1,000,000 turns.
abbrev pub TurnsAreFew : Type 0
TurnsAreFew = (g : Program) (low high : Constant) → AreTurns g low high → is_between 1 1000000 (pos (turns_of (constant_value g low) (constant_value g high))) ≡ true

-- a monitor of the image has the words of the text's
pub record HasWords (g : Program) (base : ℕ) (d : Monitor) (x : image.Monitor) : Type 0 where
  pub base_is : x.base ≡ base
  pub words_are : x.words ≡ words_of g (monitor_vars d)

-- The law: each monitor stands at its base.
abbrev pub MonitorsHaveWords : Type 0
MonitorsHaveWords = (g : Program) (b : ℕ) (ms : List Monitor) (xs : List image.Monitor) (j : ℕ) (d : Monitor) → AreMonitors g b ms xs → slice_get ms j ≡ Some d
    → (x : image.Monitor) × (slice_get xs j ≡ Some x) × HasWords g (base_from g b j ms) d x

-- devices of one name go one way
abbrev pub DevicesGoOneWay : Program → Type 0
DevicesGoOneWay g = (d : Name) (a b : Bool) → Contains g.decls (device d a) → Contains g.decls (device d b) → a ≡ b

-- The law: then a device stands under its number, with its way.
abbrev pub DevicesStand : Type 0
DevicesStand = (g : Program) (d : Name) (out : Bool) → DevicesGoOneWay g → Contains g.decls (device d out) → slice_get (filter_map device_direction g.decls) (device_number g d) ≡ Some out
