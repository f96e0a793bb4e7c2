-- What the names of a program are declared as.
use Rattle.std.specs.Prelude.{Bool, true, false, List, [], ◌∷◌, Option, Some, None, if◌then◌else◌, unwrap_or, option_map}
use Rattle.syntax_tree.specs.Placed.{Scalar, int, boolean, subrange, Kind, scalar, array, Var, Param, Routine, Member, variable_member, condition_member, Decl, constant, device, event, routine, monitor, process, Prog}
use Rattle.syntax_tree.specs.declared.place.Place.{Place}
use Rattle.syntax_tree.specs.Parts.{same_place}
use Rattle.static_names.specs.Occurrences.{names, declared_at}
use Rattle.static_declarations.specs.declared.sort.Sort.{Sort}
use Rattle.static_declarations.specs.declared.sort.Sort.TheVariants as sort_is
use Rattle.static_declarations.specs.declared.sort.VarType.{VarType}
use Rattle.static_declarations.specs.declared.sort.VarType.TheVariants as shape_is

-- whole numbers and subranges are numbers
abbrev pub sort_of : {P : Type 0} → Scalar P → Sort
sort_of int = sort_is.Number
sort_of boolean = sort_is.Truth
sort_of (subrange low high) = sort_is.Number

-- a variable holds one word, or is an array of words
abbrev pub shape_of : {P : Type 0} → Kind P → VarType
shape_of (scalar s) = shape_is.One (sort_of s)
shape_of (array low high s) = shape_is.Many (sort_of s)

-- what a name is declared as: a variable belongs to the routine whose name stands at its owner's
-- place, to a monitor or process where there is none; programs, events, monitors, processes and
-- conditions have nothing that the rules ask for
pub data Thing : Type 0 where
  constant_thing : Thing
  device_thing : (is_out : Bool) → Thing
  routine_thing : (is_entry : Bool) → Routine Place → Thing
  variable_thing : (owner : Option Place) → VarType → Thing
  loop_thing : Thing
  other_thing : Thing

-- Each definition gives the declarations of its part with their places, and then `more`.

abbrev pub vars_things : Option Place → List (Var Place) → List (Place × Thing) → List (Place × Thing)
vars_things owner [] more = more
vars_things owner (v ∷ vs) more = (v.place, variable_thing owner (shape_of v.kind)) ∷ vars_things owner vs more

abbrev pub params_things : Option Place → List (Param Place) → List (Place × Thing) → List (Place × Thing)
params_things owner [] more = more
params_things owner (v ∷ vs) more = (v.place, variable_thing owner (shape_is.One (sort_of v.kind))) ∷ params_things owner vs more

-- a routine, its parameters and its variables
abbrev pub routine_things : (is_entry : Bool) → Routine Place → List (Place × Thing) → List (Place × Thing)
routine_things is_entry r more = (r.place, routine_thing is_entry r) ∷ params_things (Some r.place) r.params (vars_things (Some r.place) r.vars more)

abbrev pub routines_things : (is_entry : Bool) → List (Routine Place) → List (Place × Thing) → List (Place × Thing)
routines_things is_entry [] more = more
routines_things is_entry (r ∷ rs) more = routine_things is_entry r (routines_things is_entry rs more)

abbrev pub member_things : Member Place → List (Place × Thing) → List (Place × Thing)
member_things (variable_member v) more = (v.place, variable_thing None (shape_of v.kind)) ∷ more
member_things (condition_member name place) more = (place, other_thing) ∷ more

abbrev pub members_things : List (Member Place) → List (Place × Thing) → List (Place × Thing)
members_things [] more = more
members_things (m ∷ ms) more = member_things m (members_things ms more)

abbrev pub decl_things : Decl Place → List (Place × Thing) → List (Place × Thing)
decl_things (constant name place c) more = (place, constant_thing) ∷ more
decl_things (device name place is_out) more = (place, device_thing is_out) ∷ more
decl_things (event name place) more = (place, other_thing) ∷ more
decl_things (routine r) more = routine_things false r more
decl_things (monitor m) more = (m.place, other_thing) ∷ members_things m.members (routines_things true m.entries more)
decl_things (process p) more = (p.place, other_thing) ∷ vars_things None p.vars (routines_things false p.routines more)

abbrev pub decls_things : List (Decl Place) → List (Place × Thing) → List (Place × Thing)
decls_things [] more = more
decls_things (d ∷ ds) more = decl_things d (decls_things ds more)

-- what is known of places, once these declarations are known too
abbrev pub learn : (Place → Option Thing) → List (Place × Thing) → Place → Option Thing
learn known [] = known
learn known (d ∷ ds) = learn (λ p. if same_place p d.0 then Some d.1 else known p) ds

-- the declaration whose name stands at the place: what stands in no declaration is the variable of
-- a loop
abbrev pub thing_at : Prog Place → Place → Thing
thing_at g place = unwrap_or (learn (λ p. None) (decls_things g.decls ((g.place, other_thing) ∷ [])) place) loop_thing

-- what the name that is used at the place is declared as
abbrev pub named_at : Prog Place → Place → Option Thing
named_at g place = option_map (thing_at g) (declared_at (names g) place)
