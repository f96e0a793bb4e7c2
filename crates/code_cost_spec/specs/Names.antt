-- What names mean in a text, as far as costs go, and what is known of the routines that it calls.
use Rattle.std.specs.Prelude.{ℕ, cond, Option, Some, None, bytes_eq, option_map}
use Rattle.syntax_tree.specs.Plain.{Name, Program}
use Rattle.source_semantics.specs.Store.{Range}
use Rattle.base.specs.declared.capped.Cost.{Cost}
use Rattle.code_spec.specs.Layout.{Owner, Area, in_frame, Spot, Scope, spot_of}
use Rattle.code_spec.specs.Numbering.{Text}

-- a variable: where it lies, and the range that its values keep to, if any
pub record View : Type 0 where
  pub area : Area
  pub range : Option Range

-- whose text it is, and the variable that each name means, if it means one
pub record Names : Type 0 where
  pub owner : Owner
  pub view : Name → Option View

-- what is known of routines: their cost, from CALL on, and how high their operands stand at most,
-- with those of the routines that they call
pub record Calls : Type 0 where
  pub cost : Text → Cost
  pub height : Text → ℕ

abbrev pub view_of : Spot → View
view_of s = record { area = s.area; range = s.place.range }

-- the names in reach where a text stands
abbrev pub names_of : Program → Scope → Names
names_of g c = record { owner = c.owner; view = λ x. option_map view_of (spot_of g c x) }

-- a loop's variable
abbrev pub counter : View
counter = record { area = in_frame; range = None }

-- those in the body of a loop: its variable is one of them
abbrev pub inside : Names → Name → Names
inside n x = record { owner = n.owner; view = λ y. cond (bytes_eq x y) (Some counter) (n.view y) }

abbrev pub range_seen : Option View → Option Range
range_seen None = None
range_seen (Some v) = v.range
