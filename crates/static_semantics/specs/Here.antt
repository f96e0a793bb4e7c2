-- Where a text stands, and what a name stands for there. Names are looked for as the meaning of
-- programs looks for them.
use Rattle.std.specs.Prelude.{Bool, true, false, not, ◌||◌, List, [], ◌∷◌, ◌++◌, Option, Some, None, ℤ, map, filter_map, slice_get, is_some, bytes_eq, if◌then◌else◌}
use Rattle.syntax_tree.specs.Plain.{Name, Scalar, int, boolean, subrange, Kind, scalar, array, Var, Param, Routine, Monitor, Process, Program}
use Rattle.static_declarations.specs.declared.sort.Sort.{Sort}
use Rattle.static_declarations.specs.declared.sort.Sort.TheVariants as sort_is
use Rattle.source_semantics.specs.Names.{named, constants, monitors, variable_in, conditions_of}
use Rattle.source_semantics.specs.Run.{Home, of_program, of_process, of_monitor}

-- the program, the process that runs, whose text it is, whether it is that of a function that is no
-- entry, the variables of the loops around it, innermost first, and the parameters and variables of
-- its routine
pub record Here : Type 0 where
  pub program : Program
  pub process : Process
  pub home : Home
  pub is_function : Bool
  pub turns : List Name
  pub own : List Var

-- inside a loop
abbrev pub in_loop : Name → Here → Here
in_loop i c = record { program = c.program; process = c.process; home = c.home; is_function = c.is_function; turns = i ∷ c.turns; own = c.own }

abbrev pub is_monitor : Home → Bool
is_monitor (of_monitor k) = true
is_monitor of_process = false
is_monitor of_program = false

abbrev pub monitor_vars : Option Monitor → List Var
monitor_vars None = []
monitor_vars (Some m) = filter_map variable_in m.members

-- the variables in reach beside the routine's own
abbrev pub outer_vars : Program → Process → Home → List Var
outer_vars g p of_program = []
outer_vars g p of_process = p.vars
outer_vars g p (of_monitor k) = monitor_vars (slice_get (monitors g) k)

abbrev pub monitor_conditions : Option Monitor → List Name
monitor_conditions None = []
monitor_conditions (Some m) = conditions_of m

-- the conditions of the monitor whose text it is
abbrev pub conditions_here : Program → Home → List Name
conditions_here g of_program = []
conditions_here g of_process = []
conditions_here g (of_monitor k) = monitor_conditions (slice_get (monitors g) k)

-- what a name stands for where an expression or a target names a variable or a constant
pub data Meant : Type 0 where
  turn : Meant
  own_variable : Kind → Meant
  outer_variable : Kind → Meant
  value : Meant
  nothing : Meant

abbrev pub is_among : Name → List Name → Bool
is_among x [] = false
is_among x (y ∷ ys) = bytes_eq y x || is_among x ys

abbrev pub meant_constant : Option (Name × ℤ) → Meant
meant_constant (Some k) = value
meant_constant None = nothing

abbrev pub meant_outer : Option Var → Meant → Meant
meant_outer (Some v) other = outer_variable v.kind
meant_outer None other = other

abbrev pub meant_own : Option Var → Meant → Meant
meant_own (Some v) other = own_variable v.kind
meant_own None other = other

abbrev pub var_named : Name → List Var → Option Var
var_named x vs = named (λ v. v.name) x vs

-- the variable of a loop around, else a variable of the routine, else one of the process or the
-- monitor, else a constant
abbrev pub meant : Here → Name → Meant
meant c x =
    if is_among x c.turns then turn
    else meant_own (var_named x c.own) (meant_outer (var_named x (outer_vars c.program c.process c.home)) (meant_constant (named (λ k. k.0) x (constants c.program))))

-- ---- sorts

-- whole numbers and subranges are numbers
abbrev pub scalar_sort : Scalar → Sort
scalar_sort int = sort_is.Number
scalar_sort boolean = sort_is.Truth
scalar_sort (subrange low high) = sort_is.Number

-- the sort of a variable of one word
abbrev pub kind_sort : Kind → Option Sort
kind_sort (scalar s) = Some (scalar_sort s)
kind_sort (array low high s) = None

-- the sort of the elements of an array
abbrev pub kind_element : Kind → Option Sort
kind_element (scalar s) = None
kind_element (array low high s) = Some (scalar_sort s)

-- the sort of what stands for one word
abbrev pub word_sort : Meant → Option Sort
word_sort turn = Some sort_is.Number
word_sort (own_variable k) = kind_sort k
word_sort (outer_variable k) = kind_sort k
word_sort value = Some sort_is.Number
word_sort nothing = None

-- the sort of the elements of what stands for an array
abbrev pub element_sort : Meant → Option Sort
element_sort turn = None
element_sort (own_variable k) = kind_element k
element_sort (outer_variable k) = kind_element k
element_sort value = None
element_sort nothing = None

-- what may be assigned to: a variable, and in a function one of its own
abbrev pub is_assignable : Bool → Meant → Bool
is_assignable is_function turn = false
is_assignable is_function (own_variable k) = true
is_assignable is_function (outer_variable k) = not is_function
is_assignable is_function value = false
is_assignable is_function nothing = false

-- ---- the text of a routine

abbrev pub param_var : Param → Var
param_var v = record { name = v.name; kind = scalar v.kind }

-- the parameters and then the other variables
abbrev pub own_of : Routine → List Var
own_of r = map param_var r.params ++ r.vars

abbrev pub is_function_at : Home → Routine → Bool
is_function_at of_program r = is_some r.answers
is_function_at of_process r = is_some r.answers
is_function_at (of_monitor k) r = false

abbrev pub in_routine : Program → Process → Home → Routine → Here
in_routine g p home r = record { program = g; process = p; home = home; is_function = is_function_at home r; turns = []; own = own_of r }

-- the body and the handler of a process
abbrev pub in_process : Program → Process → Here
in_process g p = record { program = g; process = p; home = of_process; is_function = false; turns = []; own = [] }
