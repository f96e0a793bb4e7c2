-- The rules for how much a program may have.
use Rattle.std.specs.Prelude.{ℕ, ◌+◌, List, [], ◌∷◌, ◌++◌, map, Option, Some, None, ◌-ℤ◌, slice_get, nat_lt, if◌then◌else◌}
use Rattle.syntax_tree.specs.Placed.{Kind, scalar, array, Var, Member, variable_member, condition_member, Monitor, Decl, constant, device, event, routine, monitor, process, Prog}
use Rattle.syntax_tree.specs.declared.place.Place.{Place}
use Rattle.syntax_tree.specs.Parts.{processes, monitors, routines}
use Rattle.source_semantics.specs.Store.{up_to}
use Rattle.static_declarations.specs.Values.{Worth}

-- the places of the names of the processes and monitors
abbrev pub process_places : List (Decl Place) → List Place
process_places ds = map (λ p. p.place) (processes ds)

abbrev pub monitor_places : List (Decl Place) → List Place
monitor_places ds = map (λ m. m.place) (monitors ds)

abbrev pub member_conditions : List (Member Place) → List Place
member_conditions [] = []
member_conditions (variable_member v ∷ ms) = member_conditions ms
member_conditions (condition_member name p ∷ ms) = p ∷ member_conditions ms

-- the places of the names of all conditions
abbrev pub conditions : List (Monitor Place) → List Place
conditions [] = []
conditions (m ∷ ms) = member_conditions m.members ++ conditions ms

-- the places of the names of all routines and entries
abbrev pub routine_places : List (Decl Place) → List Place
routine_places ds = map (λ r. r.place) (routines ds)

-- the one at that place of a list counted from 0, which is one too many
abbrev pub one_too_many : ℕ → List Place → Option Place
one_too_many most places = slice_get places most

-- the place, where there are none
abbrev pub at_none : {X : Type 0} → Place → List X → Option Place
at_none place [] = Some place
at_none place (x ∷ xs) = None

-- there is no process: at the program's name
abbrev pub no_process : Prog Place → Option Place
no_process g = at_none g.place (processes g.decls)

-- ---- words of variables

-- an array has its length in words, none where its bounds are crossed
abbrev pub placed_kind_size : Worth → Kind Place → ℕ
placed_kind_size worth (scalar s) = 1
placed_kind_size worth (array low high s) = up_to (worth high -ℤ worth low)

abbrev pub vars_words : Worth → List (Var Place) → ℕ
vars_words worth [] = 0
vars_words worth (v ∷ vs) = placed_kind_size worth v.kind + vars_words worth vs

abbrev pub members_words : Worth → List (Member Place) → ℕ
members_words worth [] = 0
members_words worth (variable_member v ∷ ms) = placed_kind_size worth v.kind + members_words worth ms
members_words worth (condition_member name p ∷ ms) = members_words worth ms

-- the words of the variables of processes and monitors
abbrev pub words : Worth → List (Decl Place) → ℕ
words worth [] = 0
words worth (constant name p c ∷ ds) = words worth ds
words worth (device name p is_out ∷ ds) = words worth ds
words worth (event name p ∷ ds) = words worth ds
words worth (routine r ∷ ds) = words worth ds
words worth (monitor m ∷ ds) = members_words worth m.members + words worth ds
words worth (process p ∷ ds) = vars_words worth p.vars + words worth ds

-- there are more than 1,048,576 of them: at the program's name
abbrev pub too_many_words : Worth → Prog Place → Option Place
too_many_words worth g = if nat_lt 1048576 (words worth g.decls) then Some g.place else None
