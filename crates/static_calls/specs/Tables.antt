-- What the code's tables say: numbers for the routines, and the graph of their calls.
use Rattle.std.specs.Prelude.{◌≡◌, ℕ, Bool, false, ◌||◌, List, [], ◌∷◌, ◌++◌, map, Option, Some, None, if◌then◌else◌, option_to_list, position, find, Contains}
use Rattle.std.specs.List.{list_any}
use Rattle.std.specs.Option.{option_or}
use Rattle.std.specs.Borrow.{Bor}
use Rattle.indexmap.specs.IndexSet.{insert_all}
use Rattle.syntax_tree.specs.Placed.{Stmts, Routine, placed_routine, Handler, Process, placed_process, Prog}
use Rattle.syntax_tree.specs.Parts.{same_place}
use Rattle.syntax_tree.specs.declared.place.Place.{Place}
use Rattle.syntax_tree.specs.declared.decl.Routine as code_routine
use Rattle.syntax_tree.specs.declared.decl.Process as code_process
use Rattle.static_names.specs.Occurrences.{names, declared_at}
use Rattle.static_names.specs.Findings.{Key, same_key, key_of}
use Rattle.static_rule.specs.Parts.{Rule}
use Rattle.static_calls.specs.Graph.{Graph, Reaches, marked}
use Rattle.static_calls.specs.Calls.{Declared, routine_calls, stmts_calls, stmts_wait}

-- where the names that a program uses are declared
abbrev pub declared_in : Prog Place → Declared
declared_in g = declared_at (names g)

-- what contracts see of borrowed routines and processes
abbrev pub seen_routines : List (Bor code_routine.Routine) → List (Routine Place)
seen_routines rs = map (λ r. placed_routine r.now) rs

abbrev pub seen_processes : List (Bor code_process.Process) → List (Process Place)
seen_processes ps = map (λ p. placed_process p.now) ps

-- the places of the routines, each once
abbrev pub places : List (Routine Place) → List Key
places rs = insert_all same_key [] (map (λ r. key_of r.place) rs)

-- the number of the routines whose names stand at the place
abbrev pub number : List Key → Place → Option ℕ
number keys place = position (same_key (key_of place)) keys

-- the edge from a number to another, if there is one, and then `more`
abbrev pub edge_to : ℕ → Option ℕ → List (ℕ × ℕ) → List (ℕ × ℕ)
edge_to from None more = more
edge_to from (Some to) more = (from, to) ∷ more

-- the edges from a number to those of the callees, and then `more`
abbrev pub edges_to : List Key → ℕ → List Place → List (ℕ × ℕ) → List (ℕ × ℕ)
edges_to keys from [] more = more
edges_to keys from (p ∷ ps) more = edge_to from (number keys p) (edges_to keys from ps more)

abbrev pub edges_from : List Key → Option ℕ → List Place → List (ℕ × ℕ) → List (ℕ × ℕ)
edges_from keys None ps more = more
edges_from keys (Some from) ps more = edges_to keys from ps more

-- the edges of the calls of a routine, and then `more`
abbrev pub routine_edges : Declared → List Key → Routine Place → List (ℕ × ℕ) → List (ℕ × ℕ)
routine_edges declared keys r more = edges_from keys (number keys r.place) (routine_calls declared r) more

-- the edges of all calls of the routines, and then `more`
abbrev pub edges_of : Declared → List Key → List (Routine Place) → List (ℕ × ℕ) → List (ℕ × ℕ)
edges_of declared keys [] more = more
edges_of declared keys (r ∷ rs) more = routine_edges declared keys r (edges_of declared keys rs more)

-- the number of a routine, if it waits, and then `more`
abbrev pub waiter : List Key → Routine Place → List ℕ → List ℕ
waiter keys r more = if stmts_wait r.body then option_to_list (number keys r.place) ++ more else more

-- the numbers of the routines that wait, and then `more`
abbrev pub waiters : List Key → List (Routine Place) → List ℕ → List ℕ
waiters keys [] more = more
waiters keys (r ∷ rs) more = waiter keys r (waiters keys rs more)

abbrev pub marked_at : List Bool → Option ℕ → Bool
marked_at marks None = false
marked_at marks (Some n) = marked marks n

-- whether the routines whose names stand at the place are marked
abbrev pub is_marked_place : List Key → List Bool → Place → Bool
is_marked_place keys marks place = marked_at marks (number keys place)

-- whether statements wait, or call a routine that is marked
abbrev pub come_to_wait : Declared → List Key → List Bool → Stmts Place → Bool
come_to_wait declared keys marks ss = stmts_wait ss || list_any (is_marked_place keys marks) (stmts_calls declared ss [])

abbrev pub handler_fault : Declared → List Key → List Bool → Place → Option (Handler Place) → Option Place
handler_fault declared keys marks place None = None
handler_fault declared keys marks place (Some h) = if come_to_wait declared keys marks h.body then Some place else None

-- the rule that no handler reaches a wait
abbrev pub handler_rule : Declared → List Key → List Bool → Rule (Process Place)
handler_rule declared keys marks = record { number = 35; fails = λ p. handler_fault declared keys marks p.place p.handler }

-- a routine has a number that reaches itself
pub record ComesBack (keys : List Key) (g : Graph) (r : Routine Place) : Type 0 where
  pub node : ℕ
  pub numbered : number keys r.place ≡ Some node
  pub round : Reaches g node node

-- one of the routines comes back, and its name stands at the place
pub record OneComesBack (keys : List Key) (g : Graph) (rs : List (Routine Place)) (number : ℕ) (place : Place) : Type 0 where
  pub is_rule : number ≡ 31
  pub one : Routine Place
  pub listed : Contains rs one
  pub is : one.place ≡ place
  pub round : ComesBack keys g one

-- the first of the routines that a routine calls which is marked
abbrev pub marked_call : Declared → List Key → List Bool → Routine Place → Option Place
marked_call declared keys marks r = find (is_marked_place keys marks) (routine_calls declared r)

-- the same of the first of the routines at the place that calls one
abbrev pub marked_call_at : Declared → List Key → List Bool → Place → List (Routine Place) → Option Place
marked_call_at declared keys marks place [] = None
marked_call_at declared keys marks place (r ∷ rs) =
    option_or (if same_place r.place place then marked_call declared keys marks r else None) (marked_call_at declared keys marks place rs)
