-- What a name means at a place: the declaration of that name that is in reach there.
use Rattle.std.specs.Prelude.{Bool, true, false, List, [], ◌∷◌, Option, Some, None, if◌then◌else◌, nat_eq}
use Rattle.std.specs.Cmp.Lexicographic.{pointwise}
use Rattle.syntax_tree.specs.Plain.{Name}
use Rattle.syntax_tree.specs.declared.place.Place.{Place}
use Rattle.syntax_tree.specs.Parts.{same_place}
use Rattle.static_names.specs.declared.kind.Declared.{Declared}
use Rattle.static_names.specs.declared.kind.Kind.{Kind}
use Rattle.static_names.specs.declared.kind.Kind.TheVariants as kind_is
use Rattle.static_names.specs.declared.kind.NameUse.{NameUse}
use Rattle.static_names.specs.declared.kind.NameUse.TheVariants as want_is

abbrev pub same : Name → Name → Bool
same = pointwise nat_eq

-- the declarations of one scope, in the order of the text: each name with where and as what it is
-- declared
abbrev pub Names : Type 0
Names = List (Name × Declared)

-- for each name where and as what it is declared, where it is in reach
abbrev pub Reach : Type 0
Reach = Name → Option Declared

abbrev pub nowhere : Reach
nowhere name = None

-- of the declarations of a name in one scope, the first counts
abbrev pub first : Names → Reach
first [] name = None
first (d ∷ ds) name = if same name d.0 then Some d.1 else first ds name

abbrev pub or_else : {X : Type 0} → Option X → Option X → Option X
or_else (Some x) other = Some x
or_else None other = other

-- the inner scope counts before what is around it
abbrev pub within : Reach → Reach → Reach
within inner outer name = or_else (inner name) (outer name)

-- what is in reach where a name stands: what names mean, and what they mean as members of the
-- monitor whose name stands at a place
pub record Site : Type 0 where
  pub means : Reach
  pub members : Place → Reach

-- a scope inside another
abbrev pub inside : Names → Site → Site
inside scope outer = record { means = within (first scope) outer.means; members = outer.members }

-- inside the monitor at this place each of its names counts as its member, elsewhere those are that
-- the site around gives
abbrev pub inside_monitor : Place → Names → Site → Site
inside_monitor place scope outer = record {
  means = within (first scope) outer.means;
  members = λ p. if same_place p place then first scope else outer.members p;
}

abbrev pub members_of : Site → Option Declared → Reach
members_of here None = nowhere
members_of here (Some d) = elim d.kind as (λ k. Reach) [
  | kind_is.Program ↦ nowhere
  | kind_is.Constant ↦ nowhere
  | kind_is.Device ↦ nowhere
  | kind_is.Event ↦ nowhere
  | kind_is.Routine ↦ nowhere
  | kind_is.Entry ↦ nowhere
  | kind_is.Monitor ↦ here.members d.place
  | kind_is.Process ↦ nowhere
  | kind_is.Variable ↦ nowhere
  | kind_is.LoopVariable ↦ nowhere
  | kind_is.Condition ↦ nowhere
]

-- what names mean behind the name of a monitor and a full stop
abbrev pub through : Site → Name → Reach
through here monitor = members_of here (here.means monitor)

-- what a name may be declared as, where it is used so
abbrev pub suits : NameUse → Kind → Bool
suits want_is.Constant kind_is.Constant = true
suits want_is.Value kind_is.Constant = true
suits want_is.Value kind_is.Variable = true
suits want_is.Value kind_is.LoopVariable = true
suits want_is.Target kind_is.Variable = true
suits want_is.Routine kind_is.Routine = true
suits want_is.Routine kind_is.Entry = true
suits want_is.Entry kind_is.Entry = true
suits want_is.Device kind_is.Device = true
suits want_is.Event kind_is.Event = true
suits want_is.Monitor kind_is.Monitor = true
suits want_is.Condition kind_is.Condition = true
suits want kind = false
