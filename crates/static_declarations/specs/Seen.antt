-- What the code's tables say.
use Rattle.std.specs.Prelude.{◌≡◌, List, [], ◌∷◌, map, Option, None, ℤ, pos, if◌then◌else◌, option_map, unwrap_or}
use Rattle.std.specs.Map.{lookup}
use Rattle.std.specs.Borrow.{Bor}
use Rattle.syntax_tree.specs.Plain.{Name, Constant, literal_constant, named_constant, Declaration, constant, device, event, routine, monitor, process}
use Rattle.syntax_tree.specs.Placed.{placed_routine, placed_decl, plain_decl}
use Rattle.syntax_tree.specs.declared.decl.Program.{Program as Tree}
use Rattle.syntax_tree.specs.declared.place.Place.{Place}
use Rattle.source_semantics.specs.Names.{signed}
use Rattle.static_names.specs.Reach.{same}
use Rattle.static_names.specs.Findings.{Key, same_key, key_of}
use Rattle.static_declarations.specs.declared.thing.Entity as code_thing
use Rattle.static_declarations.specs.declared.thing.Entity.TheVariants as thing_is
use Rattle.static_declarations.specs.declared.values.Number.{Number}
use Rattle.static_declarations.specs.Things.{learn, decls_things, Thing, constant_thing, device_thing, routine_thing, variable_thing, loop_thing, other_thing}

-- what contracts see of the code's declarations
abbrev pub seen : code_thing.Entity → Thing
seen thing_is.Constant = constant_thing
seen (thing_is.Device is_out) = device_thing is_out
seen (thing_is.Routine is_entry r) = routine_thing is_entry (placed_routine r.now)
seen (thing_is.Variable owner shape) = variable_thing owner shape
seen thing_is.Loop = loop_thing
seen thing_is.Other = other_thing

abbrev pub known_things : List (Key × code_thing.Entity) → Place → Option Thing
known_things entries place = option_map seen (lookup (same_key (key_of place)) entries)

-- the value of a number that is kept as its sign and its size
abbrev pub number_value : Number → ℤ
number_value n = signed n.minus (pos n.size)

abbrev pub known_values : List (Bor Name × Number) → Name → Option ℤ
known_values entries name = option_map number_value (lookup (λ k. same name k.now) entries)

-- what constants are worth, by name
abbrev pub Worth : Type 0
Worth = Name → ℤ

abbrev pub kept_worth : List (Bor Name × Number) → Worth
kept_worth entries name = unwrap_or (known_values entries name) (pos 0)

abbrev pub amount : Worth → Constant → ℤ
amount worth (literal_constant minus n) = signed minus (pos n)
amount worth (named_constant minus name) = signed minus (worth name)

-- once one more constant is declared
abbrev pub with_constant : Worth → Name → ℤ → Worth
with_constant worth name v = λ n. if same n name then v else worth n

abbrev pub with_decl : Worth → Declaration → Worth
with_decl worth (constant name c) = with_constant worth name (amount worth c)
with_decl worth (device name is_out) = worth
with_decl worth (event name) = worth
with_decl worth (routine r) = worth
with_decl worth (monitor m) = worth
with_decl worth (process p) = worth

abbrev pub with_decls : Worth → List Declaration → Worth
with_decls worth [] = worth
with_decls worth (d ∷ ds) = with_decls (with_decl worth d) ds

-- no constant is known
abbrev pub no_worth : Worth
no_worth name = pos 0

-- where nothing is declared
abbrev pub nothing : Place → Option Thing
nothing place = None

abbrev pub Declared : Type 0
Declared = Place × Thing

-- the tables are those of the program
pub record IsKept (p : Tree) (values : List (Bor Name × Number)) (things : List (Key × code_thing.Entity)) : Type 0 where
  pub values_are : kept_worth values ≡ with_decls no_worth (map plain_decl (map placed_decl p.decls))
  pub things_are : known_things things ≡ learn nothing (decls_things (map placed_decl p.decls) ((p.place, other_thing) ∷ []))
