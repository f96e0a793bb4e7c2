-- What a name may mean where it stands, and which of that is meant.
use Rattle.std.specs.Prelude.{Bool, true, false, not, ◌&&◌, ◌||◌, List, [], Option, Some, None, is_some, find, filter, fold, bytes_eq, nat_eq, nat_lt, map, if◌then◌else◌}
use Rattle.std.specs.Option.{option_map_or}
use Rattle.message_text.specs.Nearest.{nearest}
use Rattle.syntax_tree.specs.Plain.{Name}
use Rattle.syntax_tree.specs.Parts.{same_place}
use Rattle.syntax_tree.specs.declared.place.Place.{Place}
use Rattle.message_names.specs.declared.role.What.{What}
use Rattle.message_names.specs.declared.role.What.TheVariants as what_is
use Rattle.message_names.specs.declared.role.Wanted.TheVariants as wanted_is
use Rattle.message_names.specs.declared.role.Reach.{Reach}
use Rattle.message_names.specs.declared.role.Role.{Role}
use Rattle.message_names.specs.declared.role.Role.TheVariants as role_is
use Rattle.message_names.specs.declared.sight.Sight.{Sight}
use Rattle.message_names.specs.declared.sight.Sight.TheVariants as sight_is
use Rattle.message_names.specs.Mentions.{Mention, before_all}

-- one place stands before another, by line and then by column
abbrev pub before : Place → Place → Bool
before p q = nat_lt p.line q.line || (nat_eq p.line q.line && nat_lt p.col q.col)

-- a declaration reaches behind one place, up to the end of its scope
abbrev pub reaches : Reach → Place → Bool
reaches r place = before r.from place && not (before r.scope.end place)

abbrev pub is_entry : What → Bool
is_entry what_is.Entry = true
is_entry what = false

abbrev pub is_program : What → Bool
is_program what_is.Program = true
is_program what = false

-- what counts as in reach at a place: all that reaches there; of the monitor whose scope begins so,
-- the entries, and all that reaches there; or what reaches there, of the scope that begins so only
-- what stands before
abbrev pub is_seen : Sight → Place → (at : Place) → Reach → Bool
is_seen sight_is.Around place at r = reaches r place
is_seen (sight_is.Members monitor) place at r = same_place r.scope.begin monitor && (is_entry r.what || reaches r place)
is_seen (sight_is.Others scope) place at r = reaches r place && (not (same_place r.scope.begin scope) || before at place)

-- what a role declares, if it does
abbrev pub declared : Role → Option Reach
declared (role_is.Declares r) = Some r
declared (role_is.Uses wanted) = None
declared (role_is.Closes opening) = None

-- a name declares what is in reach at the place
abbrev pub sees : Sight → Place → Mention → Bool
sees sight place m = option_map_or (is_seen sight place m.place) (declared m.role) false

-- where the scope of what is declared begins
abbrev pub scope_begin : Role → Place
scope_begin role = option_map_or (λ r. r.scope.begin) (declared role) before_all

-- of two scopes around a place the inner one begins later
abbrev pub inner : Option Mention → Mention → Option Mention
inner None m = Some m
inner (Some found) m = if before (scope_begin found.role) (scope_begin m.role) then Some m else Some found

-- of the declarations of a name in reach, the first in the innermost scope
abbrev pub innermost : Sight → Name → Place → List Mention → Option Mention
innermost sight name place ms = fold inner None (filter (λ m. bytes_eq m.name name && sees sight place m) ms)

-- the name that stands at a place
abbrev pub mention_at : Place → List Mention → Option Mention
mention_at place ms = find (λ m. same_place m.place place) ms

abbrev pub name_at : Place → List Mention → Name
name_at place ms = option_map_or (λ m. m.name) (mention_at place ms) []

-- behind the name of a monitor and a full stop its members are in reach; none where it is not declared
abbrev pub members_behind : (place : Place) → List Mention → Place
members_behind place ms = option_map_or (λ m. m.place) (innermost sight_is.Around (name_at place ms) place ms) place

-- where the name of the monitor stands, where a name stands behind one and a full stop
abbrev pub monitor_before : Role → Option Place
monitor_before (role_is.Uses (wanted_is.Entry monitor)) = Some monitor
monitor_before role = None

-- what counts as in reach where a name stands
abbrev pub sight_behind : List Mention → Option Reach → (monitor : Option Place) → Sight
sight_behind ms (Some r) monitor = sight_is.Others r.scope.begin
sight_behind ms None (Some monitor) = sight_is.Members (members_behind monitor ms)
sight_behind ms None None = sight_is.Around

abbrev pub sight_of : List Mention → Role → Sight
sight_of ms role = sight_behind ms (declared role) (monitor_before role)

-- what a name means where it stands; of one that declares, what else has its name there
abbrev pub meaning : List Mention → Mention → Option Mention
meaning ms m = innermost (sight_of ms m.role) m.name m.place ms

-- the first declaration of a name, in reach or not
abbrev pub declares_name : Name → Mention → Bool
declares_name name m = bytes_eq m.name name && is_some (declared m.role)

abbrev pub first_declared : Name → List Mention → Option Mention
first_declared name ms = find (declares_name name) ms

abbrev pub names_program : Role → Bool
names_program role = option_map_or (λ r. is_program r.what) (declared role) false

-- what could be meant in place of a name: all in reach, the program's own name left out
abbrev pub is_offered : Sight → Place → Mention → Bool
is_offered sight place m = sees sight place m && not (names_program m.role)

abbrev pub offered : List Mention → Mention → List Mention
offered ms m = filter (is_offered (sight_of ms m.role) m.place) ms

-- the first of these that has the name
abbrev pub named : Option Name → List Mention → Option Mention
named None ms = None
named (Some name) ms = find (λ m. bytes_eq m.name name) ms

-- the nearest of these names
abbrev pub nearest_of : (word : Name) → List Mention → Option Mention
nearest_of word ms = named (nearest word (map (λ m. m.name) ms)) ms
