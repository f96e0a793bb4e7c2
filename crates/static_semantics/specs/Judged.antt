-- What the rules for names and for statements give of the text of a program.
use Rattle.std.specs.Prelude.{◌≡◌, ℕ, ◌≤◌, true, false, List, Option, Some, ℤ, nat_abs, Contains}
use Rattle.syntax_tree.specs.Plain.{Name}
use Rattle.syntax_tree.specs.Placed.{Prog, plain}
use Rattle.syntax_tree.specs.declared.place.Place.{Place}
use Rattle.static_names.specs.Occurrences.{Occurrence, names}
use Rattle.static_declarations.specs.declared.home.StmtContext.{StmtContext}
use Rattle.static_declarations.specs.declared.home.StmtContext.TheVariants as home_is
use Rattle.static_declarations.specs.declared.home.Where.{Where}
use Rattle.static_declarations.specs.Parts.{Part, parts}
use Rattle.static_types.specs.Rules.{StatementFails}
use Rattle.source_semantics.specs.Names.{constants}
use Rattle.static_semantics.specs.Here.{Here, is_monitor}
use Rattle.static_semantics.specs.Statements.{is_looped}
use Rattle.static_semantics.specs.Places.{NamesFound}
use Rattle.static_semantics.specs.Things.{ThingsKnown}

-- no constant is below the least word but one, so that each can be negated
abbrev pub ConstantsSmall : Prog Place → Type 0
ConstantsSmall g = (name : Name) (value : ℤ) → Contains (constants (plain g)) (name, value) → nat_abs value ≤ 2147483647

-- a program whose statements keep to the rules
pub record IsKept (g : Prog Place) : Type 0 where
  pub names : NamesFound g
  pub things : ThingsKnown g
  pub constants : ConstantsSmall g
  pub statements : (number : ℕ) (place : Place) → ¬ StatementFails g number place

-- what a text stands in, by the rules and by the meaning; the place is that of the name of its
-- routine
abbrev pub IsHome : StmtContext → Option Place → Here → Type 0
IsHome home_is.Free at c = (is_monitor c.home ≡ false) × (c.is_function ≡ false)
IsHome home_is.Entry at c = (is_monitor c.home ≡ true) × (c.is_function ≡ false)
IsHome (home_is.Function own) at c = (is_monitor c.home ≡ false) × (c.is_function ≡ true) × (at ≡ Some own)

pub record IsPlaced (w : Where) (at : Option Place) (c : Here) : Type 0 where
  pub home : IsHome w.home at c
  pub loops : w.in_loop ≡ is_looped c.turns

-- these are all names of the program
abbrev pub AreNames : Prog Place → List Occurrence → Type 0
AreNames g os = (o : Occurrence) → Contains os o → Contains (names g) o

-- these are all parts of the program
abbrev pub AreParts : Prog Place → List Part → Type 0
AreParts g ps = (x : Part) → Contains ps x → Contains (parts g) x
